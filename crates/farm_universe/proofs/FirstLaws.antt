-- What is read is the same whether all entries are kept or the first alone: where some are left
-- out, there are too many.
use Rattle.std.proofs.Common.{◌≡◌, ℕ, zero, suc, ◌+◌, ◌≤◌, Bool, true, false, nat_lt, nat_le, ◌||◌, List, [], ◌∷◌, ◌++◌, take, map, sum, length, length-take, Option, Some, None, Result, Ok, Err, ok_or, codes, refl, sym, ap, ◌∙◌, arith, lt-ltb, le-ltb, ltb-false, ltb-true}
use Rattle.std.specs.List.{list_any}
use Rattle.std.specs.Str.{bytes_eq}
use Rattle.std.proofs.lemmas.Bool.{or_parts}
use Rattle.std.proofs.lemmas.List.{take_all}
use Rattle.deb_text.specs.Common.{Gives, place_in, ◌>>=◌, answer, read_step}
use Rattle.deb_stanza.specs.Stanza.{Paragraph, value_of}
use Rattle.deb_relation.specs.Common.{first_relations_at, relations_at, Relations}
use Rattle.deb_relation.specs.declared.kind.Kind.{Kind}
use Rattle.deb_relation.specs.declared.kind.Kind.TheVariants.{Need, Clash, Provide}
use Rattle.farm_model.specs.Universe.{Package, Recipe}
use Rattle.farm_universe.specs.declared.binary.PackageRelations.{PackageRelations}
use Rattle.farm_universe.specs.declared.build.Build.{Build}
use Rattle.farm_universe.specs.declared.error.FieldFault.{FieldFault}
use Rattle.farm_universe.specs.declared.error.TheConstants.{TWICE, TOO_MANY_VARIANTS, UNKNOWN_SOURCE, OVER_LIMIT}
use Rattle.farm_universe.specs.declared.limits.TheConstants.{MOST_ENTRIES, MOST_NAMES, MOST_RECIPES, MOST_SIZE, MOST_VARIANTS, KEPT_ENTRIES}
use Rattle.farm_universe.specs.declared.sources.Source.{Source}
use Rattle.farm_universe.specs.FieldView.{first_entries, first_relations_in}
use Rattle.farm_universe.specs.Fields.{needed_at, package_name_at, version_text_at, number_up_to, size_at, flag_at, relations_in, refused_if}
use Rattle.farm_universe.specs.Keyed.{group_at, keys_with}
use Rattle.farm_universe.specs.Land.{Land}
use Rattle.farm_universe.specs.PackagesText.{Listed, PackageTable, package_by, package_relations_by, package_at, entry_count, first_code, is_same}
use Rattle.farm_universe.specs.RecipeSteps.{first_source_in, first_of_build, first_build_at, first_recipe_at}
use Rattle.farm_universe.specs.RecipeText.{source_in, one_source, build_at, build_entries, is_build_over, new_outputs, recipe_at, recipe_by, recipe_name}
use Rattle.farm_universe.specs.SourcesText.{SourceTable}
use Rattle.farm_universe.specs.TableSteps.{first_package_at, put_at, code_at, add}
use Rattle.farm_universe.specs.View.{refusal_of}
use Rattle.farm_universe.proofs.FitLaws.{room}

-- ---- the first entries of a field

first-all : (field : Relations) → length field ≤ MOST_ENTRIES → first_entries field ≡ field
first-all field few = take_all KEPT_ENTRIES field (omega (arith, few))

take-twice : {X : Type 0} (n : ℕ) (xs ys : List X) → take n (take n xs ++ ys) ≡ take n (xs ++ ys)
take-twice zero xs ys = refl
take-twice (suc n) [] ys = refl
take-twice (suc n) (x ∷ xs) ys = ap (λ zs. x ∷ zs) (take-twice n xs ys)

take-behind : {X : Type 0} (n k : ℕ) (xs ys : List X) → n ≡ length xs + k
    → xs ++ take k ys ≡ take n (xs ++ ys)
take-behind n k [] ys is = ap (λ m. take m ys) (omega (arith, is))
take-behind zero k (x ∷ xs) ys is = absurd (omega (arith, is))
take-behind (suc n) k (x ∷ xs) ys is =
    ap (λ zs. x ∷ zs) (take-behind n k xs ys (omega (arith, is)))

-- entries behind others, as many as there is room for
pub first-behind : (k : ℕ) (given left : Relations) → length given + k ≡ KEPT_ENTRIES
    → given ++ take k left ≡ first_entries (given ++ left)
first-behind k given left room = take-behind KEPT_ENTRIES k given left (sym room)

first-of-two : (a b : Relations) → first_entries (first_entries a ++ b) ≡ first_entries (a ++ b)
first-of-two a b = take-twice KEPT_ENTRIES a b

pub first-few : (field : Relations) → length (first_entries field) ≤ KEPT_ENTRIES
first-few field = omega (arith, length-take KEPT_ENTRIES field)

-- the first of some entries, of these and others behind them, and so on
pub first-one : (a e f : Relations) → e ≡ [] → f ≡ first_entries (e ++ a) → f ≡ first_entries a
first-one a e f none one = one ∙ ap (λ given. first_entries (given ++ a)) none

pub first-more : (a b f g : Relations) → f ≡ first_entries a → g ≡ first_entries (f ++ b)
    → g ≡ first_entries (a ++ b)
first-more a b f g given more =
    more ∙ ap (λ front. first_entries (front ++ b)) given ∙ first-of-two a b

pub first-three : (a b c : Relations) → {e f g h : Relations} → e ≡ [] → f ≡ first_entries (e ++ a)
    → g ≡ first_entries (f ++ b) → h ≡ first_entries (g ++ c) → h ≡ first_entries (a ++ b ++ c)
first-three a b c none one two three =
    first-more (a ++ b) c _ _ (first-more a b _ _ (first-one a _ _ none one) two) three

-- ---- answers that go on by what was kept

module _ {A B F : Type 0} where
  goes-on : (read : Result A F) (k h : A → Result B F) → ((x : A) → k x ≡ h x)
      → (read >>= k) ≡ (read >>= h)
  goes-on (Ok x) k h same = same x
  goes-on (Err e) k h same = refl

  cut-goes : (cut : A → A) (read : Result A F) (k h : A → Result B F)
      → ((x : A) → k (cut x) ≡ h x) → ((read >>= λ x. Ok (cut x)) >>= k) ≡ (read >>= h)
  cut-goes cut (Ok x) k h same = same x
  cut-goes cut (Err e) k h same = refl

module _ {A B C F : Type 0} where
  goes-behind : (read : Result A F) (k : A → Result C F) (f : A → Result B F) (g : B → Result C F)
      → ((x : A) → k x ≡ (f x >>= g)) → (read >>= k) ≡ ((read >>= f) >>= g)
  goes-behind (Ok x) k f g same = same x
  goes-behind (Err e) k f g same = refl

  cut-behind : (cut : A → A) (read : Result A F) (k : A → Result C F) (f : A → Result B F)
      (g : B → Result C F) → ((x : A) → k (cut x) ≡ (f x >>= g))
      → ((read >>= λ x. Ok (cut x)) >>= k) ≡ ((read >>= f) >>= g)
  cut-behind cut (Ok x) k f g same = same x
  cut-behind cut (Err e) k f g same = refl

-- ---- packages

abbrev first_of_fields : PackageRelations → PackageRelations
first_of_fields fields = record {
  pre_depends = first_entries fields.pre_depends;
  depends = first_entries fields.depends;
  conflicts = first_entries fields.conflicts;
  breaks = first_entries fields.breaks;
  provides = first_entries fields.provides;
}

abbrev first_of_listed : Listed → Listed
first_of_listed listed = record {
  name = listed.name;
  binary = record {
    version = listed.binary.version;
    size = listed.binary.size;
    essential = listed.binary.essential;
    pre_depends = first_entries listed.binary.pre_depends;
    depends = first_entries listed.binary.depends;
    conflicts = first_entries listed.binary.conflicts;
    breaks = first_entries listed.binary.breaks;
    provides = first_entries listed.binary.provides;
  };
}

relations-first : (kind : Kind) (value : Option (List ℕ))
    → first_relations_in kind value
    ≡ (relations_in kind value >>= λ field. Ok (first_entries field))
unfolding first_relations_at
relations-first kind None = refl
relations-first kind (Some text) = refl

field-behind : {B C : Type 0} (kind : Kind) (value : Option (List ℕ)) (k : Relations → Result C ℕ)
    (f : Relations → Result B ℕ) (g : B → Result C ℕ)
    → ((field : Relations) → k (first_entries field) ≡ (f field >>= g))
    → (first_relations_in kind value >>= k) ≡ ((relations_in kind value >>= f) >>= g)
field-behind kind value k f g same =
    ap (λ read. read >>= k) (relations-first kind value)
    ∙ cut-behind first_entries (relations_in kind value) k f g same

fields-first : (p : Paragraph)
    → package_relations_by first_relations_in p
    ≡ (package_relations_by relations_in p >>= λ fields. Ok (first_of_fields fields))
unfolding package_relations_by
fields-first p =
    field-behind Need (value_of p (codes "Pre-Depends")) _ _ _ (λ pre_depends.
    field-behind Need (value_of p (codes "Depends")) _ _ _ (λ depends.
    field-behind Clash (value_of p (codes "Conflicts")) _ _ _ (λ conflicts.
    field-behind Clash (value_of p (codes "Breaks")) _ _ _ (λ breaks.
    field-behind Provide (value_of p (codes "Provides")) _ _ _ (λ provides. refl)))))

package-first : (p : Paragraph)
    → first_package_at p ≡ (package_at p >>= λ listed. Ok (first_of_listed listed))
unfolding package_by
package-first p =
    goes-behind (needed_at p (codes "Package")) _ _ _ (λ given.
    goes-behind (package_name_at given) _ _ _ (λ name.
    goes-behind (needed_at p (codes "Version")) _ _ _ (λ spelled.
    goes-behind (version_text_at spelled) _ _ _ (λ version.
    goes-behind (size_at (value_of p (codes "Installed-Size"))) _ _ _ (λ size.
    goes-behind (flag_at (value_of p (codes "Essential"))) _ _ _ (λ essential.
    ap (λ read. read >>= λ relations. Ok (record {
      name = name;
      binary = record {
        version = version;
        size = size;
        essential = essential;
        pre_depends = relations.pre_depends;
        depends = relations.depends;
        conflicts = relations.conflicts;
        breaks = relations.breaks;
        provides = relations.provides;
      };
    })) (fields-first p)
    ∙ cut-behind first_of_fields (package_relations_by relations_in p) _ _ _ (λ fields. refl)))))))

over-first : (n : ℕ) (v : Package)
    → nat_lt MOST_ENTRIES
    (n + entry_count (first_of_listed (record { name = []; binary = v })).binary)
    ≡ nat_lt MOST_ENTRIES (n + entry_count v)
over-first n v = by (nat_lt MOST_ENTRIES (n + entry_count v)) refl where
  cut : ℕ
  cut = entry_count (first_of_listed (record { name = []; binary = v })).binary

  by : (b : Bool) → nat_lt MOST_ENTRIES (n + entry_count v) ≡ b → nat_lt MOST_ENTRIES (n + cut) ≡ b
  by true is =
      lt-ltb _ _ (omega (
        arith,
        ltb-true _ _ is,
        length-take KEPT_ENTRIES v.pre_depends,
        length-take KEPT_ENTRIES v.depends,
        length-take KEPT_ENTRIES v.conflicts,
        length-take KEPT_ENTRIES v.breaks,
        length-take KEPT_ENTRIES v.provides,
      ))
  by false is =
      le-ltb _ _ (omega (
        arith,
        ltb-false _ _ is,
        length-take KEPT_ENTRIES v.pre_depends,
        length-take KEPT_ENTRIES v.depends,
        length-take KEPT_ENTRIES v.conflicts,
        length-take KEPT_ENTRIES v.breaks,
        length-take KEPT_ENTRIES v.provides,
      ))

code-first : (table : PackageTable) (at : Option ℕ) (p : Listed)
    → code_at table at (first_of_listed p) ≡ code_at table at p
unfolding code_at
code-first table at p =
    ap (λ over. first_code ((list_any (is_same p.binary) (group_at table.packages at), TWICE)
    ∷ (nat_le MOST_VARIANTS (length (group_at table.packages at)), TOO_MANY_VARIANTS)
    ∷ (nat_lt MOST_NAMES (length (keys_with table.names at p.name)) || over, OVER_LIMIT) ∷ []))
    (over-first table.entries p.binary)

all-listed : (p : Listed) → entry_count p.binary ≤ MOST_ENTRIES → first_of_listed p ≡ p
all-listed p few = λ j. record {
  name = p.name;
  binary = record {
    version = p.binary.version;
    size = p.binary.size;
    essential = p.binary.essential;
    pre_depends = first-all p.binary.pre_depends (omega (arith, few)) j;
    depends = first-all p.binary.depends (omega (arith, few)) j;
    conflicts = first-all p.binary.conflicts (omega (arith, few)) j;
    breaks = first-all p.binary.breaks (omega (arith, few)) j;
    provides = first-all p.binary.provides (omega (arith, few)) j;
  };
}

-- a package whose entries are left out is refused, and by the same rule
add-first : (table : PackageTable) (p : Listed) → add table (first_of_listed p) ≡ add table p
unfolding add
add-first table p = by (code_at table at p) refl where
  at : Option ℕ
  at = place_in bytes_eq table.names p.name

  by : (code : Option ℕ) → code_at table at p ≡ code
      → answer (code_at table at (first_of_listed p)) (put_at table at (first_of_listed p))
      ≡ answer (code_at table at p) (put_at table at p)
  by (Some code) is = rw (code-first table at p, is) refl
  by None is =
      ap (λ q. answer (code_at table at q) (put_at table at q))
      (all-listed p (omega (arith, room table at p is)))

-- the table after a paragraph
pub read_step-first : (table : PackageTable) (p : Paragraph)
    → read_step first_package_at add table p ≡ read_step package_at add table p
read_step-first table p =
    ap (λ read. read >>= add table) (package-first p)
    ∙ cut-goes first_of_listed (package_at p) (add table) (add table) (add-first table)

-- ---- recipes

one-of-two : (sources : SourceTable) (entries : Relations)
    → one_source sources (take 2 entries) ≡ one_source sources entries
one-of-two sources [] = refl
one-of-two sources (entry ∷ []) = refl
one-of-two sources (entry ∷ next ∷ more) = refl

source-first : (sources : SourceTable) (text : List ℕ)
    → first_source_in sources text ≡ source_in sources text
unfolding first_source_in source_in first_relations_at
source-first sources text =
    cut-goes (take 2) (relations_at Provide text) _ _
    (λ entries. ap (λ source. ok_or source UNKNOWN_SOURCE) (one-of-two sources entries))

-- a function that gives the source that a value names
pub gives_source : {X : Type 0} (view : X → Source) (sources : SourceTable) (text : List ℕ)
    (result : Result X FieldFault) → Gives refusal_of view result (first_source_in sources text)
    → Gives refusal_of view result (source_in sources text)
gives_source view sources text result gives = rw (← source-first sources text) gives

build-over : (count entries : ℕ) (build : Build)
    → is_build_over count entries (first_of_build build) ≡ is_build_over count entries build
build-over count entries build =
    ap (λ over. nat_le MOST_RECIPES count || over) (by (nat_lt MOST_ENTRIES whole) refl)
  where
    whole : ℕ
    whole = entries + (length build.needs + length build.clashes)

    cut : ℕ
    cut = entries + (length (first_entries build.needs) + length (first_entries build.clashes))

    by : (b : Bool) → nat_lt MOST_ENTRIES whole ≡ b → nat_lt MOST_ENTRIES cut
        ≡ nat_lt MOST_ENTRIES whole
    by true is =
        lt-ltb _ _ (omega (
          arith,
          ltb-true _ _ is,
          length-take KEPT_ENTRIES build.needs,
          length-take KEPT_ENTRIES build.clashes,
        )) ∙ sym is
    by false is =
        le-ltb _ _ (omega (
          arith,
          ltb-false _ _ is,
          length-take KEPT_ENTRIES build.needs,
          length-take KEPT_ENTRIES build.clashes,
        )) ∙ sym is

all-built : (count entries : ℕ) (build : Build) → is_build_over count entries build ≡ false
    → first_of_build build ≡ build
all-built count entries build is =
    let few = ltb-false MOST_ENTRIES (entries + (length build.needs + length build.clashes))
    (or_parts (nat_le MOST_RECIPES count) _ is).1 in
    λ j. record {
      needs = first-all build.needs (omega (arith, few)) j;
      clashes = first-all build.clashes (omega (arith, few)) j;
    }

-- a build whose entries are left out is refused
over-goes : (count entries : ℕ) (build : Build) (k : Build → Result Recipe ℕ)
    → (refused_if (is_build_over count entries (first_of_build build)) OVER_LIMIT
    >>= λ free. k (first_of_build build))
    ≡ (refused_if (is_build_over count entries build) OVER_LIMIT >>= λ free. k build)
over-goes count entries build k =
    ap (λ over. refused_if over OVER_LIMIT >>= λ free. k (first_of_build build))
    (build-over count entries build)
    ∙ by (is_build_over count entries build) refl
  where
    by : (over : Bool) → is_build_over count entries build ≡ over
        → (refused_if over OVER_LIMIT >>= λ free. k (first_of_build build))
        ≡ (refused_if over OVER_LIMIT >>= λ free. k build)
    by true is = refl
    by false is = ap k (all-built count entries build is)

build-goes : {B : Type 0} (land : Land) (p : Paragraph) (k h : Build → Result B ℕ)
    → ((build : Build) → k (first_of_build build) ≡ h build)
    → (first_build_at land p >>= k) ≡ (build_at land p >>= h)
unfolding first_build_at
build-goes land p k h same = cut-goes first_of_build (build_at land p) k h same

recipe-first : (land : Land) (before : List Recipe) (p : Paragraph) (given : List ℕ)
    → first_recipe_at land before p given ≡ recipe_at land before p given
unfolding recipe_by
recipe-first land before p given =
    goes-on (recipe_name before given) _ _ (λ name.
    build-goes land p _ _ (λ build.
    goes-on (needed_at p (codes "Steps")) _ _ (λ spent.
    goes-on (number_up_to MOST_SIZE spent) _ _ (λ steps.
    goes-on (size_at (value_of p (codes "Scratch"))) _ _ (λ scratch.
    goes-on (new_outputs land before p) _ _ (λ outputs.
    over-goes (length before) (sum (map build_entries before)) build (λ b. Ok (record {
      name = name;
      steps = steps;
      scratch = scratch;
      needs = b.needs;
      clashes = b.clashes;
      outputs = outputs;
    }))))))))

-- a function that gives what a recipe's paragraph says
pub gives_recipe : {X : Type 0} (view : X → Recipe) (land : Land) (before : List Recipe)
    (p : Paragraph) (given : List ℕ) (result : Result X FieldFault)
    → Gives refusal_of view result (first_recipe_at land before p given)
    → Gives refusal_of view result (recipe_at land before p given)
gives_recipe view land before p given result gives =
    rw (← recipe-first land before p given) gives
