-- What is true of a table stays true.
use Rattle.std.proofs.Common.{◌≡◌, ℕ, ◌+◌, ◌<◌, ◌≤◌, Bool, true, false, zero, suc, List, [], ◌∷◌, ◌++◌, length, length-append, length-set, get_or, refl, sym, ap, subst, ◌∙◌, true≢false, one-add, Option, Some, None, arith, nat_lt, nat_le, All, position, if◌then◌else◌}
use Rattle.std.specs.declared.cmp.Ordering.{Ordering}
use Rattle.std.specs.declared.cmp.Ordering.TheVariants.{Less, Equal, Greater}
use Rattle.std.specs.Ordering.{is_lt, is_eq}
use Rattle.std.specs.List.{list_any, list_all, position_or_len}
use Rattle.std.proofs.lemmas.List.Quantifiers.{position-Some}
use Rattle.std.specs.Str.{bytes_eq}
use Rattle.std.proofs.lemmas.Bool.{ltb-false, leb-false, or_parts, and_parts, and_from}
use Rattle.std.proofs.lemmas.List.Folds.{list_any-append}
use Rattle.std.proofs.lemmas.List.Elements.{All-cons, All-head, All-tail, All-nil, All-push, All-set, All-get_or}
use Rattle.deb_text.specs.Groups.{AllDistinct, in_order, place_in}
use Rattle.deb_text.proofs.ListLaws.{bytes-same, bytes-self}
use Rattle.deb_text.proofs.PlaceLaws.{position-any}
use Rattle.deb_version.specs.Grammar.{text_cmp}
use Rattle.deb_version.specs.OrderLaws.{text_cmp_total}
use Rattle.farm_universe.specs.declared.limits.TheConstants.{MOST_NAMES, MOST_ENTRIES, MOST_VARIANTS, MOST_SIZE}
use Rattle.farm_universe.specs.Keyed.{group_at}
use Rattle.farm_universe.specs.PackagesText.{Listed, PackageTable, is_below, is_same, is_over, entry_count, first_code}
use Rattle.farm_universe.specs.TableSteps.{put_at, code_at}
use Rattle.farm_universe.specs.TableView.{Rises, IsOrderly, IsFit, IsWithinTable}
use Rattle.farm_model.specs.Universe.{Package}

-- ---- the packages of a name rise

pub lt-less : (o : Ordering) → is_lt o ≡ true → o ≡ Less
lt-less Less e = refl
lt-less Equal e = absurd cc
lt-less Greater e = absurd cc

-- neither below nor the same: above
above : (v w : Package) → is_below v w ≡ false → is_same v w ≡ false → is_below w v ≡ true
above v w not_below not_same = by (text_cmp v.version w.version) refl not_below not_same where
  by : (o : Ordering) → text_cmp v.version w.version ≡ o → is_lt o ≡ false → is_eq o ≡ false
      → is_below w v ≡ true
  by Less is a b = absurd cc
  by Equal is a b = absurd cc
  by Greater is a b = rw (text_cmp_total.antisymm w.version v.version, is) refl

below_trans : (v w x : Package) → is_below v w ≡ true → is_below w x ≡ true → is_below v x ≡ true
below_trans v w x vw wx =
    rw (text_cmp_total.trans v.version w.version x.version (lt-less _ vw) (lt-less _ wx)) refl

all_below : (v w : Package) (xs : List Package) → is_below v w ≡ true
    → list_all (is_below w) xs ≡ true → list_all (is_below v) xs ≡ true
all_below v w [] vw all = refl
all_below v w (x ∷ xs) vw all =
    let p = and_parts (is_below w x) (list_all (is_below w) xs) all in
    rw (below_trans v w x vw p.0) (all_below v w xs vw p.1)

-- ---- a package above the last one

pub not_same : (v w : Package) → is_below w v ≡ true → is_same v w ≡ false
not_same v w below = rw (text_cmp_total.antisymm v.version w.version, lt-less _ below) refl

not_below : (v w : Package) → is_below w v ≡ true → is_below v w ≡ false
not_below v w below = rw (text_cmp_total.antisymm v.version w.version, lt-less _ below) refl

-- is above all
pub under-all : (v d : Package) (xs : List Package) → Rises xs → (k : ℕ) → suc k ≡ length xs
    → is_below (get_or xs k d) v ≡ true → list_all (λ w. is_below w v) xs ≡ true
under-all v d [] rises k e below = refl
under-all v d (x ∷ []) rises zero e below = rw below refl
under-all v d (x ∷ []) rises (suc k) e below = absurd (omega (arith, e))
under-all v d (x ∷ y ∷ ys) rises zero e below = absurd (omega (arith, e))
under-all v d (x ∷ y ∷ ys) rises (suc k) e below =
    let rest = under-all v d (y ∷ ys) rises.1 k (omega (arith, e)) below in
    let first = and_parts (is_below x y) (list_all (is_below x) ys) rises.0 in
    let next = and_parts (is_below y v) (list_all (λ w. is_below w v) ys) rest in
    and_from _ _ (below_trans x y v first.0 next.0) rest

-- is the same as none
pub newest-alone : (v : Package) (xs : List Package) → list_all (λ w. is_below w v) xs ≡ true
    → list_any (is_same v) xs ≡ false
newest-alone v [] all = refl
newest-alone v (x ∷ xs) all =
    let p = and_parts (is_below x v) (list_all (λ w. is_below w v) xs) all in
    rw (not_same v x p.0) (newest-alone v xs p.1)

-- and stands behind all
pub newest-last : (v : Package) (xs : List Package) → list_all (λ w. is_below w v) xs ≡ true
    → position_or_len (is_below v) xs ≡ length xs
newest-last v [] all = refl
newest-last v (x ∷ xs) all =
    let p = and_parts (is_below x v) (list_all (λ w. is_below w v) xs) all in
    rw (not_below v x p.0, one-add) (ap suc (newest-last v xs p.1))

-- the packages of a name rise
pub rises-at : (table : PackageTable) (at : Option ℕ) → IsFit table → IsWithinTable table at
    → Rises (group_at table.packages at)
rises-at table None fit within = tt
rises-at table (Some i) fit within =
    (All-get_or IsOrderly table.packages i [] within fit.orderly).rises

all-in_order : (p : Package → Bool) (v : Package) (xs : List Package) → p v ≡ true
    → list_all p xs ≡ true → list_all p (in_order is_below v xs) ≡ true
all-in_order p v [] is all = rw is refl
all-in_order p v (x ∷ xs) is all =
    let parts = and_parts (p x) (list_all p xs) all in
    by (is_below v x) parts (all-in_order p v xs is parts.1)
  where
    by : (b : Bool) → (p x ≡ true) × (list_all p xs ≡ true)
        → list_all p (in_order is_below v xs) ≡ true
        → list_all p (if b then v ∷ x ∷ xs else x ∷ in_order is_below v xs) ≡ true
    by true parts later = rw (is, parts.0) parts.1
    by false parts later = rw parts.0 later

Rises-in_order : (v : Package) (xs : List Package) → Rises xs → list_any (is_same v) xs ≡ false
    → Rises (in_order is_below v xs)
Rises-in_order v [] rises none = (refl, tt)
Rises-in_order v (x ∷ xs) rises none =
    let parts = or_parts (is_same v x) (list_any (is_same v) xs) none in
    by (is_below v x) refl parts.0 (Rises-in_order v xs rises.1 parts.1)
  where
    by : (b : Bool) → is_below v x ≡ b → is_same v x ≡ false → Rises (in_order is_below v xs)
        → Rises (if b then v ∷ x ∷ xs else x ∷ in_order is_below v xs)
    by true e other later = ((rw e (all_below v x xs e rises.0)), rises)
    by false e other later = (all-in_order (is_below x) v xs (above v x e other) rises.0, later)

length-in_order : (v : Package) (xs : List Package)
    → length (in_order is_below v xs) ≡ suc (length xs)
length-in_order v [] = refl
length-in_order v (x ∷ xs) = by (is_below v x) (length-in_order v xs) where
  by : (b : Bool) → length (in_order is_below v xs) ≡ suc (length xs)
      → length (if b then v ∷ x ∷ xs else x ∷ in_order is_below v xs) ≡ suc (suc (length xs))
  by true later = refl
  by false later = ap suc later

All-in_order : (P : Package → Type 0) (v : Package) (xs : List Package) → P v → All P xs
    → All P (in_order is_below v xs)
All-in_order P v [] is all = All-cons P v [] is all
All-in_order P v (x ∷ xs) is all =
    by (is_below v x) (All-in_order P v xs is (All-tail P x xs all))
  where
    by : (b : Bool) → All P (in_order is_below v xs)
        → All P (if b then v ∷ x ∷ xs else x ∷ in_order is_below v xs)
    by true later = All-cons P v (x ∷ xs) is all
    by false later = All-cons P x (in_order is_below v xs) (All-head P x xs all) later

IsOrderly-in_order : (v : Package) (xs : List Package) → IsOrderly xs
    → list_any (is_same v) xs ≡ false → length xs < MOST_VARIANTS → v.size ≤ MOST_SIZE
    → IsOrderly (in_order is_below v xs)
IsOrderly-in_order v xs is none room small = record {
  rises = Rises-in_order v xs is.rises none;
  few = rw length-in_order (omega (arith, room));
  small = All-in_order (λ w. w.size ≤ MOST_SIZE) v xs small is.small;
}

IsOrderly-one : (v : Package) → v.size ≤ MOST_SIZE → IsOrderly (v ∷ [])
IsOrderly-one v small = record {
  rises = (refl, tt);
  few = omega arith;
  small = All-cons (λ w. w.size ≤ MOST_SIZE) v [] small (All-nil (λ w. w.size ≤ MOST_SIZE));
}

-- ---- names stay different

flip : (x y : List ℕ) → bytes_eq x y ≡ false → bytes_eq y x ≡ false
flip x y none = by (bytes_eq y x) refl where
  by : (b : Bool) → bytes_eq y x ≡ b → b ≡ false
  by false e = refl
  by true e =
      absurd (true≢false
      (sym (subst (λ z. bytes_eq x z ≡ true) (sym (bytes-same y x e)) (bytes-self x)) ∙ none))

AllDistinct-push : (ks : List (List ℕ)) (k : List ℕ) → list_any (bytes_eq k) ks ≡ false
    → AllDistinct bytes_eq ks → AllDistinct bytes_eq (ks ++ k ∷ [])
AllDistinct-push [] k none d = (refl, tt)
AllDistinct-push (x ∷ xs) k none d =
    let p = or_parts (bytes_eq k x) (list_any (bytes_eq k) xs) none in (
      rw (list_any-append (bytes_eq x) xs (k ∷ []), d.0, flip k x p.0) refl,
      AllDistinct-push xs k p.1 d.1,
    )

-- ---- a table with one more package

no_code : (a b c : Bool) (x y z : ℕ) → first_code ((a, x) ∷ (b, y) ∷ (c, z) ∷ []) ≡ None
    → (a ≡ false) × (b ≡ false) × (c ≡ false)
no_code true b c x y z e = absurd cc
no_code false true c x y z e = absurd cc
no_code false false true x y z e = absurd cc
no_code false false false x y z e = (refl, refl, refl)

-- what is known where no rule holds
rules_fail : (table : PackageTable) (at : Option ℕ) (p : Listed) → code_at table at p ≡ None
    → (list_any (is_same p.binary) (group_at table.packages at) ≡ false)
    × (length (group_at table.packages at) < MOST_VARIANTS)
    × (length (put_at table at p).names ≤ MOST_NAMES) × ((put_at table at p).entries ≤ MOST_ENTRIES)
unfolding code_at
rules_fail table at p none =
    let parts =
    no_code (list_any (is_same p.binary) (group_at table.packages at))
    (nat_le MOST_VARIANTS (length (group_at table.packages at)))
    (is_over (put_at table at p)) _ _ _ none in
    let over =
    or_parts (nat_lt MOST_NAMES (length (put_at table at p).names))
    (nat_lt MOST_ENTRIES (put_at table at p).entries) parts.2 in
    (parts.0, leb-false _ _ parts.1, ltb-false _ _ over.0, ltb-false _ _ over.1)

-- there is room for its entries
pub room : (table : PackageTable) (at : Option ℕ) (p : Listed) → code_at table at p ≡ None
    → table.entries + entry_count p.binary ≤ MOST_ENTRIES
room table None p none = (rules_fail table None p none).3
room table (Some i) p none = (rules_fail table (Some i) p none).3

IsFit-put_at : (table : PackageTable) (at : Option ℕ) (p : Listed)
    → at ≡ place_in bytes_eq table.names p.name → IsWithinTable table at → IsFit table
    → code_at table at p ≡ None → p.binary.size ≤ MOST_SIZE → IsFit (put_at table at p)
IsFit-put_at table None p is within fit none small =
    let known = rules_fail table None p none in
    record {
      paired = rw (length-append table.names, length-append table.packages, fit.paired) refl;
      few_names = known.2;
      few_entries = known.3;
      distinct =
          AllDistinct-push table.names p.name
          (not_there (list_any (bytes_eq p.name) table.names) refl is) fit.distinct;
      orderly =
          All-push IsOrderly table.packages (p.binary ∷ []) fit.orderly
          (IsOrderly-one p.binary small);
    } where
      not_there : (b : Bool) → list_any (bytes_eq p.name) table.names ≡ b
          → None ≡ place_in bytes_eq table.names p.name
          → list_any (bytes_eq p.name) table.names ≡ false
      not_there false e h = e
      not_there true e h = absurd (let k = rw e at h in cc)
IsFit-put_at table (Some i) p is within fit none small =
    let known = rules_fail table (Some i) p none in
    record {
      paired = rw (length-set, fit.paired) refl;
      few_names = known.2;
      few_entries = known.3;
      distinct = fit.distinct;
      orderly =
          All-set IsOrderly table.packages i
          (in_order is_below p.binary (get_or table.packages i []))
          (IsOrderly-in_order p.binary (get_or table.packages i [])
          (All-get_or IsOrderly table.packages i [] within fit.orderly)
          known.0 known.1 small) fit.orderly;
    }

position_or_len-within : {X : Type 0} (p : X → Bool) (xs : List X) → list_any p xs ≡ true
    → position_or_len p xs < length xs
position_or_len-within p [] there = absurd cc
position_or_len-within p (x ∷ xs) there =
    let is : position p (x ∷ xs) ≡ Some (position_or_len p (x ∷ xs)) =
    position-any p (x ∷ xs)
    ∙ ap (λ b. if b then Some (position_or_len p (x ∷ xs)) else None) there in
    (position-Some p (x ∷ xs) (position_or_len p (x ∷ xs)) x is).0

-- the place of a name is a number of the table
pub within-place_in : (table : PackageTable) (name : List ℕ) → IsFit table
    → IsWithinTable table (place_in bytes_eq table.names name)
within-place_in table name fit = by (list_any (bytes_eq name) table.names) refl where
  by : (b : Bool) → list_any (bytes_eq name) table.names ≡ b
      → IsWithinTable table (if b then Some (position_or_len (bytes_eq name) table.names) else None)
  by true e = omega (arith, position_or_len-within (bytes_eq name) table.names e, fit.paired)
  by false e = tt

-- a package that no rule refuses keeps it
pub IsFit-put : (table : PackageTable) (at : Option ℕ) (p : Listed)
    → at ≡ place_in bytes_eq table.names p.name → IsFit table → code_at table at p ≡ None
    → p.binary.size ≤ MOST_SIZE → IsFit (put_at table at p)
IsFit-put table at p is fit none small =
    IsFit-put_at table at p is
    (subst (IsWithinTable table) (sym is) (within-place_in table p.name fit)) fit none small
