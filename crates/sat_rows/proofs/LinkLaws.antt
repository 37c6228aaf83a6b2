-- Which variants lead to which others, by way of entries.
use Rattle.std.proofs.Common.{◌≡◌, ◌↔◌, ◌⊎◌, ℕ, ◌<◌, Bool, true, not, ◌&&◌, ◌||◌, ◌==◌, nat_lt, List, [], length, refl, sym, ap, subst, ◌∙◌, inl, inr, arith, slice_index}
use Rattle.std.proofs.lemmas.Bool.{cases_lt, both_ways, and_parts, and_from, or_cases, or_left, or_right, ltb-true, lt-ltb, eqb-true, eq-eqb}
use Rattle.std.proofs.lemmas.List.{get_or_past}
use Rattle.clause_kernel.specs.Rows.{word_has}
use Rattle.clause_kernel.proofs.Words.{shares_bit-bits}
use Rattle.bit_rows.specs.Sets.{variants_of, HaveCommon}
use Rattle.deb_relation.specs.Relations.{Entry, Relations}
use Rattle.farm_model.specs.Common.{Package, Universe, variant, names, variants, package_of, satisfies_entry, IsKnown}
use Rattle.farm_model.specs.declared.types.Variant.{Variant}
use Rattle.farm_universe.proofs.PlaceLaws.{named}
use Rattle.item_index.proofs.ItemLaws.{any-at, any-found}
use Rattle.sat_rows.specs.declared.found.NumberWord.{NumberWord}
use Rattle.sat_rows.specs.Found.{among, shares_other, hits_other}
use Rattle.sat_rows.specs.Rows.{variant_passes, of_another_name}
use Rattle.sat_rows.specs.Links.{Links, nth_list, Leads, reaches, IsLinks, AreNumbered, AreSets, AreTurned, declares, Exclusion, AreBoth, IsExclusion}

-- what a list has stands within the lists
pub within : (lists : List (List NumberWord)) (i k b : ℕ) → among (nth_list lists i) k b ≡ true
    → i < length lists
within lists i k b has =
    elim (cases_lt i (length lists)) [
      | inl lt ↦ lt
      | inr past ↦
          absurd (both_ways _ (ap (λ vs. among vs k b) (get_or_past lists i [] past)) has)
    ]

-- the entries of a field, and those who satisfy them
pub declared : (u : Universe) (field : Package → Relations) (entries : List Entry)
    (noted sets : List (List NumberWord)) → AreNumbered u field entries (names u) noted
    → AreSets u entries sets
    → IsLinks u (declares u field) (record { by_name = noted; by_entry = sets })
declared u field entries noted sets are all =
    record { only = only; every = every }
  where
    x : Links
    x = record { by_name = noted; by_entry = sets }

    only : (n b m c : ℕ) → Leads x n b m c
        → (b < variants u n) × (c < variants u m)
        × (declares u field (variant n b) (variant m c) ≡ true)
    only n b m c leads =
        let there = within noted n leads.entry b leads.has in
        let from = (are.each n (omega (arith, are.long))).only leads.entry b leads.has in
        let e = from.1 in
        let to = and_parts (nat_lt c (variants u m)) _
        (sym (all.each leads.entry e.entry e.number m c) ∙ leads.to) in (
          from.0,
          ltb-true c (variants u m) to.0,
          any-at (λ e. satisfies_entry u e (variant m c)) (field (package_of u (variant n b)))
              e.place e.entry e.there to.1,
        )

    every : (n b m c : ℕ) → b < variants u n → c < variants u m
        → declares u field (variant n b) (variant m c) ≡ true → Leads x n b m c
    every n b m c known other is =
        let found = any-found (λ e. satisfies_entry u e (variant m c))
        (field (package_of u (variant n b))) is in
        let from = (are.each n (named u n b known)).every b found.0 found.1 known found.2 in
        record {
          entry = from.number;
          has = from.has;
          to = all.each from.number found.1 from.is m c
              ∙ and_from _ _ (lt-ltb c (variants u m) other) found.3;
        }

-- the other way round
module _ (u : Universe) (test : Variant → Variant → Bool) (x : Links) (links : IsLinks u test x)
    (satisfied owners : List (List NumberWord)) (from : AreTurned x.by_entry (names u) satisfied)
    (to : AreTurned x.by_name (length x.by_entry) owners) where
  abbrev back : Links
  back = record { by_name = satisfied; by_entry = owners }

  swap : (n b m c : ℕ) → Leads back n b m c → Leads x m c n b
  swap n b m c leads =
      let first = within satisfied n leads.entry b leads.has in
      let second = within owners leads.entry m c leads.to in
      record {
        entry = leads.entry;
        has = sym (to.each leads.entry m c (omega (arith, to.long))) ∙ leads.to;
        to = sym (from.each n leads.entry b (omega (arith, from.long))) ∙ leads.has;
      }

  unswap : (n b m c : ℕ) → n < names u → Leads x m c n b → Leads back n b m c
  unswap n b m c there leads =
      record {
        entry = leads.entry;
        has = from.each n leads.entry b there ∙ leads.to;
        to = to.each leads.entry m c (within x.by_entry leads.entry n b leads.to) ∙ leads.has;
      }

  pub turned_links : IsLinks u (λ v w. test w v) back
  turned_links =
      record {
        only = λ n b m c leads.
            let told = links.only m c n b (swap n b m c leads) in (told.1, told.0, told.2);
        every = λ n b m c known other is.
            unswap n b m c (named u n b known) (links.every m c n b other known is);
      }

-- the question
module _ (u : Universe) (test : Variant → Variant → Bool) (x : Links) (links : IsLinks u test x)
    (v : Variant) (known : IsKnown u v) (words : List ℕ) where
  abbrev Common : Type 0
  Common = HaveCommon (variants_of words) (variant_passes u (of_another_name v (test v)))

  abbrev way : NumberWord → Bool
  way e = word_has e.word v.bit && hits_other v.name words (nth_list x.by_entry e.number)

  pub reaches_some : reaches x v words ≡ true → Common
  reaches_some is =
      let e = any-found way (nth_list x.by_name v.name) is in
      let both = and_parts (word_has e.1.word v.bit) _ e.3 in
      let w = any-found (shares_other v.name words) (nth_list x.by_entry e.1.number) both.1 in
      let parts = and_parts (not (w.1.number == v.name)) _ w.3 in
      let shared = (shares_bit-bits (slice_index words w.1.number) w.1.word).0 parts.1 in
      let leads : Leads x v.name v.bit w.1.number shared.0 =
      record {
        entry = e.1.number;
        has = any-at (λ t. (e.1.number == t.number) && word_has t.word v.bit)
            (nth_list x.by_name v.name) e.0 e.1 e.2
            (and_from _ _ (eq-eqb e.1.number e.1.number refl) both.0);
        to = any-at (λ t. (w.1.number == t.number) && word_has t.word shared.0)
            (nth_list x.by_entry e.1.number) w.0 w.1 w.2
            (and_from _ _ (eq-eqb w.1.number w.1.number refl) shared.2);
      } in
      let told = links.only v.name v.bit w.1.number shared.0 leads in (
        w.1.number,
        shared.0,
        shared.1,
        and_from _ _ (lt-ltb shared.0 (variants u w.1.number) told.1)
            (and_from _ _ parts.0 told.2),
      )

  pub some_reached : Common → reaches x v words ≡ true
  some_reached common =
      let m = common.0 in
      let c = common.1 in
      let passing = and_parts (nat_lt c (variants u m)) _ common.3 in
      let other = and_parts (not (m == v.name)) _ passing.1 in
      let leads = links.every v.name v.bit m c known (ltb-true c (variants u m) passing.0)
      other.1 in
      let e = any-found (λ t. (leads.entry == t.number) && word_has t.word v.bit)
      (nth_list x.by_name v.name) leads.has in
      let first = and_parts (leads.entry == e.1.number) _ e.3 in
      let to : among (nth_list x.by_entry e.1.number) m c ≡ true =
      subst (λ k. among (nth_list x.by_entry k) m c ≡ true)
      (eqb-true leads.entry e.1.number first.0) leads.to in
      let w = any-found (λ t. (m == t.number) && word_has t.word c)
      (nth_list x.by_entry e.1.number) to in
      let second = and_parts (m == w.1.number) _ w.3 in
      let same = eqb-true m w.1.number second.0 in
      let shared = (shares_bit-bits (slice_index words w.1.number) w.1.word).1
      (c, subst (λ k. variants_of words k c ≡ true) same common.2, second.1) in
      any-at way (nth_list x.by_name v.name) e.0 e.1 e.2
      (and_from _ _ first.1
      (any-at (shares_other v.name words) (nth_list x.by_entry e.1.number) w.0 w.1 w.2
      (and_from _ _ (subst (λ k. not (k == v.name) ≡ true) same other.0) shared)))

  pub reaches_is : (t : Bool) → t ≡ reaches x v words → (t ≡ true) ↔ Common
  reaches_is t is =
      (λ yes. reaches_some (sym is ∙ yes), λ common. is ∙ some_reached common)

-- variants that pass one of two tests
module _ (u : Universe) (v : Variant) (p q : Variant → Bool) (words : List ℕ) where
  abbrev Has : (Variant → Bool) → Type 0
  Has r = HaveCommon (variants_of words) (variant_passes u (of_another_name v r))

  wider : (r s : Variant → Bool) → ((w : Variant) → r w ≡ true → s w ≡ true) → Has r → Has s
  wider r s on has =
      let parts = and_parts (nat_lt has.1 (variants u has.0)) _ has.3 in
      let other = and_parts (not (has.0 == v.name)) _ parts.1 in (
        has.0,
        has.1,
        has.2,
        and_from _ _ parts.0 (and_from _ _ other.0 (on (variant has.0 has.1) other.1)),
      )

  apart : Has (λ w. p w || q w) → Has p ⊎ Has q
  apart has =
      let parts = and_parts (nat_lt has.1 (variants u has.0)) _ has.3 in
      let other = and_parts (not (has.0 == v.name)) _ parts.1 in
      elim (or_cases (p (variant has.0 has.1)) _ other.1) [
        | inl one ↦ inl (
          has.0,
          has.1,
          has.2,
          and_from _ _ parts.0 (and_from _ _ other.0 one),
        )
        | inr one ↦ inr (
          has.0,
          has.1,
          has.2,
          and_from _ _ parts.0 (and_from _ _ other.0 one),
        )
      ]

  pub either_is : (first second t : Bool) → t ≡ (first || second) → (first ≡ true) ↔ Has p
      → (second ≡ true) ↔ Has q → (t ≡ true) ↔ Has (λ w. p w || q w)
  either_is first second t is one two = (
    λ yes. elim (or_cases first _ (sym is ∙ yes)) [
      | inl here ↦ wider p (λ w. p w || q w) (λ w has. or_left (p w) _ has) (one.0 here)
      | inr here ↦ wider q (λ w. p w || q w) (λ w has. or_right (p w) _ has) (two.0 here)
    ],
    λ has. is ∙ elim (apart has) [
      | inl here ↦ or_left first _ (one.1 here)
      | inr here ↦ or_right first _ (two.1 here)
    ],
  )

-- both directions
pub exclusion : (u : Universe) (field : Package → Relations) (entries : List Entry)
    (noted sets : List (List NumberWord)) (x : Exclusion)
    → AreNumbered u field entries (names u) noted
    → AreSets u entries sets → AreBoth (names u) noted sets x → IsExclusion u field x
exclusion u field entries noted sets x are all both =
    let from =
    subst (λ s. AreTurned s (names u) x.declaring.by_name) (sym both.by_entry) both.satisfied in
    let to = subst (λ s. AreTurned x.declared.by_name (length s) x.declaring.by_entry)
    (sym both.by_entry)
    (subst (λ s. AreTurned s (length sets) x.declaring.by_entry) (sym both.by_name) both.owners) in
    let links = declared u field entries x.declared.by_name x.declared.by_entry
    (subst (AreNumbered u field entries (names u)) (sym both.by_name) are)
    (subst (AreSets u entries) (sym both.by_entry) all) in
    record {
      declared = links;
      declaring = turned_links u (declares u field) x.declared links x.declaring.by_name
          x.declaring.by_entry from to;
    }
