-- Variants that were found.
use Rattle.std.proofs.Common.{◌≡◌, ℕ, ◌+◌, ◌<◌, ◌≤◌, get_or, take, Bool, true, false, ◌&&◌, ◌||◌, ◌==◌, nat_lt, bit_or, zero, suc, [], ◌∷◌, slice_set, List, length, Option, None, Some, refl, sym, ap, subst, ◌∙◌, inl, inr, arith}
use Rattle.std.specs.Cmp.{both_ways as both_tests}
use Rattle.std.specs.List.{list_any}
use Rattle.std.specs.Option.{is_none}
use Rattle.std.proofs.Math.Bool.{and-false, or-false}
use Rattle.std.proofs.lemmas.Bool.{or_cases, or_left, or_right, and_parts, and_from, ltb-true, eqb-true, eq-eqb}
use Rattle.std.proofs.lemmas.List.Folds.{list_any_more}
use Rattle.std.proofs.lemmas.List.{take_all}
use Rattle.clause_kernel.specs.Rows.{word_has}
use Rattle.clause_kernel.proofs.Words.{word_has-or}
use Rattle.bit_rows.specs.Sets.{variants_of}
use Rattle.deb_relation.specs.Common.{Atom, Relations, is_its_own, is_provided}
use Rattle.farm_model.specs.Common.{Package, Universe, variant, names, variants, package_of, facts, satisfies}
use Rattle.farm_model.specs.declared.types.Variant.{Variant}
use Rattle.item_index.specs.declared.item.Item.{Item}
use Rattle.item_index.specs.Items.{item, item_of, listed, IsIn}
use Rattle.item_index.proofs.ItemLaws.{any_atom-at, any_atom-found}
use Rattle.sat_rows.proofs.RowLaws.{row_from_names}
use Rattle.sat_rows.specs.declared.found.NumberWord.{NumberWord}
use Rattle.sat_rows.specs.Index.{IsNaming}
use Rattle.sat_rows.specs.Rows.{variant_passes, IsRowOf}
use Rattle.sat_rows.specs.Found.{among, Puts, IsFound, Finds, GrowsBy, alternative_passes, some_atom, passes_there, HasItems}

or_spread : (a k p q : Bool) → ((a || (k && p)) || (k && q)) ≡ (a || (k && (p || q)))
or_spread true k p q = refl
or_spread false false p q = refl
or_spread false true p q = refl

module _ (u : Universe) (p : Variant → Bool) where
  -- variants of a name that are put to those found
  module _ (name word : ℕ) (old new : List NumberWord)
      (put : (n b : ℕ) → among new n b ≡ (among old n b || ((n == name) && word_has word b))) where
    pub put_grows : ((b : ℕ) → word_has word b ≡ true → variant_passes u p name b ≡ true)
        → GrowsBy u p old new
    put_grows only =
        record {
          kept = λ n b is. put n b ∙ or_left (among old n b) _ is;
          passing = λ n b is. back n b (sym (put n b) ∙ is);
        }
      where
        back : (n b : ℕ) → (among old n b || ((n == name) && word_has word b)) ≡ true
            → (among old n b || variant_passes u p n b) ≡ true
        back n b is =
            elim (or_cases (among old n b) _ is) [
              | inl before ↦ or_left (among old n b) _ before
              | inr both ↦
                  let parts = and_parts (n == name) _ both in
                  or_right (among old n b) _
                  (ap (λ k. variant_passes u p k b) (eqb-true n name parts.0) ∙ only b parts.1)
            ]

    pub put_has : (b : ℕ) → word_has word b ≡ true → among new name b ≡ true
    put_has b has =
        put name b ∙ or_right (among old name b) _ (and_from _ _ (eq-eqb name name refl) has)

  pub grows_trans : (a b c : List NumberWord) → GrowsBy u p a b → GrowsBy u p b c → GrowsBy u p a c
  grows_trans a b c first next =
      record {
        kept = λ n k is. next.kept n k (first.kept n k is);
        passing = λ n k is. back n k (next.passing n k is);
      }
    where
      back : (n k : ℕ) → (among b n k || variant_passes u p n k) ≡ true
          → (among a n k || variant_passes u p n k) ≡ true
      back n k is =
          elim (or_cases (among b n k) _ is) [
            | inl old ↦ first.passing n k old
            | inr pass ↦ or_right (among a n k) _ pass
          ]

  -- all that pass were found
  pub finds_from_grows : (old new : List NumberWord) → GrowsBy u p old new
      → ((n b : ℕ) → variant_passes u p n b ≡ true → among new n b ≡ true) → Finds u p old new
  finds_from_grows old new grows all n b =
      both_tests (among new n b) _ (grows.passing n b)
      (λ is. elim (or_cases (among old n b) _ is) [
        | inl before ↦ grows.kept n b before
        | inr pass ↦ all n b pass
      ])

  pub finds_next : (q r : Variant → Bool) (a b c : List NumberWord)
      → ((v : Variant) → r v ≡ (p v || q v)) → Finds u p a b → Finds u q b c → Finds u r a c
  finds_next q r a b c either first next n k =
      next n k ∙ ap (λ x. x || variant_passes u q n k) (first n k)
      ∙ or_spread (among a n k) (nat_lt k (variants u n)) (p (variant n k)) (q (variant n k))
      ∙ ap (λ x. among a n k || (nat_lt k (variants u n) && x)) (sym (either (variant n k)))

pub finds_none : (u : Universe) (vs : List NumberWord) → Finds u (λ v. false) vs vs
finds_none u vs n b =
    sym (ap (λ x. among vs n b || x) (and-false (nat_lt b (variants u n)))
    ∙ or-false (among vs n b))

-- where none passes, nothing is found
pub finds_never : (u : Universe) (p : Variant → Bool) (vs : List NumberWord)
    → ((v : Variant) → p v ≡ false) → Finds u p vs vs
finds_never u p vs never n b =
    sym (ap (λ x. among vs n b || (nat_lt b (variants u n) && x)) (never (variant n b))
    ∙ ap (λ x. among vs n b || x) (and-false (nat_lt b (variants u n))) ∙ or-false (among vs n b))

-- what an index lists
module _ (u : Universe) (field : Package → Relations) (test : Atom → Bool) where
  abbrev some : Variant → Bool
  some = some_atom u field test

  -- the bit of the owner of an item
  module _ (at : Item Variant) (word : ℕ)
      (is : (b : ℕ) → word_has word b ≡ (passes_there u field test at && (b == at.owner.bit))) where
    told : (o : Option Atom) → item_of at (field (package_of u at.owner)) ≡ o
        → alternative_passes test o ≡ true
        → some at.owner ≡ true
    told None e is = absurd cc
    told (Some a) e is =
        any_atom-at test (field (package_of u at.owner)) at.entry at.alternative a e is

    pub item_only : (b : ℕ) → word_has word b ≡ true → variant_passes u some at.owner.name b ≡ true
    item_only b has =
        let parts = and_parts (passes_there u field test at) _ (sym (is b) ∙ has) in
        let there = and_parts (nat_lt at.owner.bit (variants u at.owner.name)) _ parts.0 in
        ap (variant_passes u some at.owner.name) (eqb-true b at.owner.bit parts.1)
        ∙ and_from _ _ there.0
        (told (item_of at (field (package_of u at.owner))) refl there.1)

    pub item_has : passes_there u field test at ≡ true → word_has word at.owner.bit ≡ true
    item_has pass =
        is at.owner.bit ∙ and_from _ _ pass (eq-eqb at.owner.bit at.owner.bit refl)

  -- a variant of whose field some alternative passes has an item under that alternative's name
  pub listed_owner : (lists : List (List (Item Variant))) (name : List ℕ) → IsNaming u field lists
      → ((a : Atom) → test a ≡ true → a.name ≡ name) → (n b : ℕ)
      → variant_passes u some n b ≡ true
      → (at : Item Variant) × IsIn (listed lists name) at × (at.owner ≡ variant n b)
      × (passes_there u field test at ≡ true)
  listed_owner lists name naming same n b pass =
      let v = variant n b in
      let both = and_parts (nat_lt b (variants u n)) _ pass in
      let found = any_atom-found test (field (package_of u v)) both.1 in
      let at : Item Variant = item v found.0 found.2 in
      let there =
      naming.names n b (ltb-true b (variants u n) both.0) found.0 found.1 found.4 found.2
      found.3
      found.5 in (
        at,
        subst (λ text. IsIn (listed lists text) at) (same found.3 found.7) there,
        refl,
        and_from _ _ both.0 (ap (alternative_passes test) found.6 ∙ found.7),
      )

  -- those under a name are all, where what passes has that name
  pub finds_listed : (lists : List (List (Item Variant))) (name : List ℕ)
      (old new : List NumberWord)
      → IsNaming u field lists → ((a : Atom) → test a ≡ true → a.name ≡ name)
      → GrowsBy u some old new → HasItems u field test (listed lists name) new
      → Finds u some old new
  finds_listed lists name old new naming same grows has = finds_from_grows u some old new grows
      every
    where
      every : (n b : ℕ) → variant_passes u some n b ≡ true → among new n b ≡ true
      every n b pass =
          let found = listed_owner lists name naming same n b pass in
          ap (λ (v : Variant). among new v.name v.bit) (sym found.2)
          ∙ has found.0 found.1 found.3

-- an alternative is satisfied by a variant's own name, or by an item that it provides
module _ (u : Universe) (v : Variant) where
  abbrev by_item : Atom → Bool
  by_item a = is_provided (facts u v).provides a

  pub satisfies-bare : (a : Atom) → is_none a.qualifier ≡ true
      → satisfies u a v ≡ (is_its_own (facts u v) a || by_item a)
  unfolding satisfies
  satisfies-bare a bare = ap (λ b. b && (is_its_own (facts u v) a || by_item a)) bare

  pub satisfies-qualified : (a : Atom) → is_none a.qualifier ≡ false → satisfies u a v ≡ false
  unfolding satisfies
  satisfies-qualified a named = ap (λ b. b && (is_its_own (facts u v) a || by_item a)) named

-- one more element
pub any_next : {X : Type 0} (p : X → Bool) (xs : List X) (i : ℕ) (x : X) → i < length xs
    → x ≡ get_or xs i x → list_any p (take (i + 1) xs) ≡ (list_any p (take i xs) || p x)
any_next p xs i x lt is =
    list_any_more p xs i x lt ∙ ap (λ y. list_any p (take i xs) || p y) (sym is)

-- what is read past the end of a list
abbrev pub first : Item Variant
first = item (variant 0 0) 0 0

abbrev pub no_word : NumberWord
no_word = record { number = 0; word = 0 }

-- the row of those found, one more
pub found_next : (ws : List NumberWord) (i : ℕ) (w : NumberWord) (n b : ℕ) (old new : Bool)
    → i < length ws → w ≡ get_or ws i w → old ≡ among (take i ws) n b
    → new ≡ (old || ((n == w.number) && word_has w.word b)) → new ≡ among (take (i + 1) ws) n b
found_next ws i w n b old new lt is before step =
    step
    ∙ ap (λ x. x || ((n == w.number) && word_has w.word b)) before
    ∙ sym (any_next (λ w. (n == w.number) && word_has w.word b) ws i w lt is)

-- the row of all that were found
pub found_row : (u : Universe) (ws : List NumberWord) (i : ℕ) (row : List ℕ) → length row ≡ names u
    → length ws ≤ i
    → ((n b : ℕ) → n < length row → variants_of row n b ≡ among (take i ws) n b)
    → (p : Variant → Bool) → IsFound u p ws → IsRowOf u p row
found_row u ws i row long le each p found =
    row_from_names u p row long
    (λ n b lt. each n b (omega (arith, long))
    ∙ ap (λ xs. among xs n b) (take_all i ws le) ∙ found n b)

-- a word joined to one of its number
join_spread : (s x y r : Bool) → ((s && (x || y)) || r) ≡ (((s && x) || r) || (s && y))
join_spread true true y r = refl
join_spread true false true true = refl
join_spread true false true false = refl
join_spread true false false true = refl
join_spread true false false false = refl
join_spread false x y true = refl
join_spread false x y false = refl

pub or_assoc : (p a c : Bool) → (p || (a || c)) ≡ ((p || a) || c)
or_assoc true a c = refl
or_assoc false a c = refl

pub puts_joined : (vs : List NumberWord) (i number word : ℕ) → i < length vs
    → (get_or vs i no_word).number ≡ number
    → Puts number word vs
    (slice_set vs i (record { number = number; word = bit_or (get_or vs i no_word).word word }))
puts_joined [] i number word lt is n b = absurd (omega arith)
puts_joined (v ∷ vs) zero number word lt is n b =
    ap (λ x. ((n == number) && x) || among vs n b) (word_has-or v.word word b)
    ∙ join_spread (n == number) (word_has v.word b) (word_has word b) (among vs n b)
    ∙ ap (λ k. (((n == k) && word_has v.word b) || among vs n b)
    || ((n == number) && word_has word b))
    (sym is)
puts_joined (v ∷ vs) (suc i) number word lt is n b =
    ap (λ x. ((n == v.number) && word_has v.word b) || x)
    (puts_joined vs i number word (omega arith) is n b)
    ∙ or_assoc ((n == v.number) && word_has v.word b) (among vs n b)
    ((n == number) && word_has word b)
