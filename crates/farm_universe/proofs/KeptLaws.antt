-- What the three texts make keeps what every universe keeps.
use Rattle.std.proofs.Common.{◌≡◌, ℕ, zero, suc, ◌<◌, ◌≤◌, Bool, true, false, List, [], ◌∷◌, map, length, get_or, refl, sym, subst, ◌∙◌, arith, All, nat_lt, Some}
use Rattle.std.specs.Prelude.{slice_get}
use Rattle.std.specs.declared.cmp.Ordering.TheVariants.{Less}
use Rattle.std.specs.List.{list_all}
use Rattle.std.proofs.lemmas.Bool.{and_parts, ltb-true, ltb-false}
use Rattle.std.proofs.lemmas.List.{length-map, get_or_past}
use Rattle.std.proofs.lemmas.List.Elements.{All-nil, All-map, All-weaker, All-get_or}
use Rattle.deb_version.specs.Grammar.{text_cmp}
use Rattle.farm_model.specs.Common.{variant, names, variants, no_package, package_of, recipe, no_recipe, outputs, base, no_base, initial, has_bit, IsKnown, IsSettledBase, Package, Recipe, Base, Universe}
use Rattle.farm_model.specs.declared.types.Variant.{Variant}
use Rattle.farm_universe.specs.declared.farm.Yard.{Yard}
use Rattle.farm_universe.specs.declared.limits.TheConstants.{MOST_SIZE, MOST_CAPACITY}
use Rattle.farm_universe.specs.BaseText.{is_settled_base}
use Rattle.farm_universe.specs.FarmText.{Head, land_of, universe_with}
use Rattle.farm_universe.specs.FarmView.{AreTableWords, IsPlace, IsLand, IsRecipe, recipe_outputs, IsBase, IsYard, yard_view}
use Rattle.farm_universe.specs.Kept.{IsKept}
use Rattle.farm_universe.specs.Land.{Land, reduced_package, reduced_table}
use Rattle.farm_universe.specs.PackagesText.{PackageTable, is_below}
use Rattle.farm_universe.specs.SourcesText.{SourceTable}
use Rattle.farm_universe.specs.SourceView.{IsSourceTable}
use Rattle.farm_universe.specs.TableView.{Rises, IsOrderly, IsFit}
use Rattle.farm_universe.proofs.FitLaws.{lt-less}
use Rattle.farm_universe.proofs.ListFacts.{All-slice_get}
use Rattle.farm_universe.proofs.SettledLaws.{IsSettledBase-test}

-- ---- reduced packages

below-reduced : (arch : List (List ℕ)) (v w : Package)
    → is_below (reduced_package arch v) (reduced_package arch w) ≡ is_below v w
unfolding reduced_package
below-reduced arch v w = refl

size-reduced : (arch : List (List ℕ)) (v : Package) → (reduced_package arch v).size ≡ v.size
unfolding reduced_package
size-reduced arch v = refl

all_below-reduced : (arch : List (List ℕ)) (v : Package) (ws : List Package)
    → list_all (is_below (reduced_package arch v)) (map (reduced_package arch) ws)
    ≡ list_all (is_below v) ws
all_below-reduced arch v [] = refl
all_below-reduced arch v (w ∷ ws) = rw (below-reduced arch v w, all_below-reduced arch v ws) refl

Rises-reduced : (arch : List (List ℕ)) (vs : List Package) → Rises vs
    → Rises (map (reduced_package arch) vs)
Rises-reduced arch [] rises = tt
Rises-reduced arch (v ∷ vs) rises =
    ((rw (all_below-reduced arch v vs) rises.0), Rises-reduced arch vs rises.1)

IsOrderly-reduced : (arch : List (List ℕ)) (vs : List Package) → IsOrderly vs
    → IsOrderly (map (reduced_package arch) vs)
IsOrderly-reduced arch vs is = record {
  rises = Rises-reduced arch vs is.rises;
  few = rw length-map is.few;
  small =
      All-map (λ v. v.size ≤ MOST_SIZE) (reduced_package arch) vs
      (All-weaker (λ v. v.size ≤ MOST_SIZE) (λ v. (reduced_package arch v).size ≤ MOST_SIZE)
      (λ v small. rw (size-reduced arch v) small)
      vs is.small);
}

-- ---- rising lists by place

rising-place : (vs : List Package) (b : ℕ) (d : Package) → Rises vs → suc b < length vs
    → text_cmp (get_or vs b d).version (get_or vs (suc b) d).version ≡ Less
rising-place [] b d rises lt = absurd (omega arith)
rising-place (v ∷ []) b d rises lt = absurd (omega arith)
rising-place (v ∷ w ∷ ws) zero d rises lt =
    lt-less _ (and_parts (is_below v w) (list_all (is_below v) ws) rises.0).0
rising-place (v ∷ w ∷ ws) (suc b) d rises lt = rising-place (w ∷ ws) b d rises.1 (omega arith)

-- the packages of any name, known or not
orderly-any : (packages : List (List Package)) (n : ℕ) → All IsOrderly packages
    → IsOrderly (get_or packages n [])
orderly-any packages n orderly = by (nat_lt n (length packages)) refl where
  by : (b : Bool) → nat_lt n (length packages) ≡ b → IsOrderly (get_or packages n [])
  by true e = All-get_or IsOrderly packages n [] (ltb-true _ _ e) orderly
  by false e =
      subst IsOrderly (sym (get_or_past packages n [] (ltb-false _ _ e)))
      (record { rises = tt; few = omega arith; small = All-nil (λ v. v.size ≤ MOST_SIZE) })

-- ---- the land

length-reduced : (f : Package → Package) (packages : List (List Package)) (n : ℕ)
    → length (get_or (map (map f) packages) n []) ≡ length (get_or packages n [])
length-reduced f [] n = refl
length-reduced f (vs ∷ vss) zero = length-map vs f
length-reduced f (vs ∷ vss) (suc n) = length-reduced f vss n

-- what is true of a table is true of it with its relations reduced
IsFit-reduced : (arch : List (List ℕ)) (table : PackageTable) → IsFit table
    → IsFit (reduced_table arch table)
IsFit-reduced arch table fit = record {
  paired = fit.paired ∙ sym (length-map table.packages (map (reduced_package arch)));
  few_names = fit.few_names;
  few_entries = fit.few_entries;
  distinct = fit.distinct;
  orderly =
      All-map IsOrderly (map (reduced_package arch)) table.packages
      (All-weaker IsOrderly (λ vs. IsOrderly (map (reduced_package arch) vs))
      (IsOrderly-reduced arch) table.packages fit.orderly);
}

pub IsLand-made : (table : PackageTable) (sources : SourceTable) (head : Head) → IsFit table
    → IsSourceTable sources → AreTableWords table head.initial → IsLand (land_of table sources head)
IsLand-made table sources head fit are words = record {
  fit = IsFit-reduced head.architectures table fit;
  sources = are;
  words = record {
    paired = words.paired;
    known =
        λ v set. rw (length-reduced (reduced_package head.architectures) table.packages v.name)
        (words.known v set);
  };
}

-- ---- the universe of land and yard

-- the recipe with this number, known or not
outputs-any : (P : Variant → Type 0) (rs : List Recipe) (r : ℕ)
    → All (λ r. All P r.outputs) rs → All P (recipe_outputs rs r)
outputs-any P rs r all = by (nat_lt r (length rs)) refl where
  by : (b : Bool) → nat_lt r (length rs) ≡ b → All P (recipe_outputs rs r)
  by true e = All-get_or (λ r. All P r.outputs) rs r no_recipe (ltb-true _ _ e) all
  by false e =
      subst (λ (x : Recipe). All P x.outputs)
      (sym (get_or_past rs r no_recipe (ltb-false _ _ e))) (All-nil P)

-- the base chroot with this number, known or not
packages-any : (P : Variant → Type 0) (bases : List Base) (b : ℕ)
    → All (λ base. All P base.packages) bases → All P (get_or bases b no_base).packages
packages-any P bases b all = by (nat_lt b (length bases)) refl where
  by : (t : Bool) → nat_lt b (length bases) ≡ t → All P (get_or bases b no_base).packages
  by true e = All-get_or (λ base. All P base.packages) bases b no_base (ltb-true _ _ e) all
  by false e =
      subst (λ (x : Base). All P x.packages)
      (sym (get_or_past bases b no_base (ltb-false _ _ e))) (All-nil P)

module _ (l : Land) (is : IsLand l) (yard : Yard) (are : IsYard l yard) where
  abbrev u : Universe
  u = universe_with l (yard_view yard)

  few : (n : ℕ) → variants u n ≤ 64
  unfolding variants
  few n = (orderly-any u.packages n is.fit.orderly).few

  known : (v : Variant) → IsPlace l.table v → IsKnown u v
  unfolding variants
  known v place = place.listed

  initial_known : (v : Variant) → initial u v ≡ true → IsKnown u v
  unfolding variants initial
  initial_known v set = is.words.known v set

  outputs_there : (r : ℕ) → r < length u.recipes → 0 < length (outputs u r)
  unfolding recipe
  outputs_there r lt = (All-get_or (IsRecipe l) u.recipes r no_recipe lt are.recipes.each).there

  outputs_known : (r : ℕ) → All (IsKnown u) (outputs u r)
  unfolding recipe
  outputs_known r =
      outputs-any (IsKnown u) u.recipes r
      (All-weaker (IsRecipe l) (λ r. All (IsKnown u) r.outputs)
      (λ r of. All-weaker (IsPlace l.table) (IsKnown u) known r.outputs of.known)
      u.recipes are.recipes.each)

  outputs_once : (q r i j : ℕ) (v : Variant) → slice_get (outputs u q) i ≡ Some v
      → slice_get (outputs u r) j ≡ Some v → (q ≡ r) × (i ≡ j)
  unfolding recipe
  outputs_once q r i j v vi vj = are.recipes.once q r i j v vi vj

  outputs_new : (r i : ℕ) (v : Variant) → slice_get (outputs u r) i ≡ Some v
      → initial u v ≡ false
  unfolding recipe initial
  outputs_new r i v at =
      All-slice_get (λ v. has_bit l.initial v ≡ false) (recipe_outputs u.recipes r) i v
      (outputs-any (λ v. has_bit l.initial v ≡ false) u.recipes r
      (All-weaker (IsRecipe l) (λ r. All (λ v. has_bit l.initial v ≡ false) r.outputs)
      (λ r of. of.new) u.recipes are.recipes.each)) at

  bases_in : (P : Variant → Type 0) → ((v : Variant) → IsPlace l.table v → P v) → (b : ℕ)
      → All P (base u b).packages
  unfolding base
  bases_in P place b =
      packages-any P u.bases b
      (All-weaker (IsBase l.table) (λ base. All P base.packages)
      (λ base of. All-weaker (IsPlace l.table) P place base.packages of.known)
      u.bases are.bases.each)

  within : (v : Variant) → IsPlace l.table v → v.name < names u
  unfolding names
  within v place = omega (arith, place.name, is.fit.paired)

  tested : (b : ℕ) → b < length u.bases
      → is_settled_base l.table (base u b).capacity (base u b).packages ≡ true
  unfolding base
  tested b lt = (All-get_or (IsBase l.table) u.bases b no_base lt are.bases.each).settled

  settled : (b : ℕ) → b < length u.bases → IsSettledBase u b
  settled b lt =
      IsSettledBase-test u l.table.entries b (bases_in (λ v. v.name < names u) within b)
      (tested b lt)

  rising : (n b : ℕ) → suc b < variants u n
      → text_cmp (package_of u (variant n b)).version (package_of u (variant n (suc b))).version
      ≡ Less
  unfolding variants package_of
  rising n b lt =
      rising-place (get_or u.packages n []) b no_package
      (orderly-any u.packages n is.fit.orderly).rises lt

  pub IsKept-universe_with : IsKept (universe_with l (yard_view yard))
  IsKept-universe_with = record {
    sound = record {
      listed = is.fit.paired;
      few = few;
      words = is.words.paired ∙ is.fit.paired;
      initial_known = initial_known;
      outputs_there = outputs_there;
      outputs_known = outputs_known;
      outputs_once = outputs_once;
      outputs_new = outputs_new;
      bases_known = bases_in (IsKnown u) known;
    };
    in_order = record { rising = rising; settled = settled };
    distinct = is.fit.distinct;
    few_names = is.fit.few_names;
    small =
        All-weaker IsOrderly (All (λ v. v.size ≤ MOST_SIZE)) (λ vs of. of.small)
        u.packages is.fit.orderly;
    few_bases = are.bases.few;
    limited =
        All-weaker (IsBase l.table) (λ base. base.capacity ≤ MOST_CAPACITY) (λ base of. of.small)
        u.bases are.bases.each;
    small_scratch =
        All-weaker (IsRecipe l) (λ r. r.scratch ≤ MOST_SIZE) (λ r of. of.small)
        u.recipes are.recipes.each;
    few_steps =
        All-weaker (IsRecipe l) (λ r. r.steps ≤ MOST_SIZE) (λ r of. of.few_steps)
        u.recipes are.recipes.each;
    few_recipes = are.recipes.few;
  }
