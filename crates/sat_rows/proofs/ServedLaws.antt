-- Whether words miss what satisfied an entry, by the lists of those who satisfy and who have it.
use Rattle.std.proofs.Common.{◌≡◌, ◌↔◌, ℕ, ◌<◌, Bool, true, not, ◌&&◌, ◌==◌, nat_lt, List, [], length, get_or, Some, refl, sym, ap, subst, ◌∙◌, inl, inr, arith, slice_index}
use Rattle.std.specs.List.{slice_get}
use Rattle.std.proofs.lemmas.Bool.{cases_Bool, and_parts, and_from, both_ways, not-true, not_from_false, ltb-true, eqb-true, eq-eqb}
use Rattle.std.proofs.lemmas.Option.{slice_get_within, slice_get-get_or}
use Rattle.clause_kernel.specs.Kernels.{shares_bit, meets, met}
use Rattle.clause_kernel.specs.Rows.{word_has}
use Rattle.clause_kernel.proofs.Meanings.{met-bits}
use Rattle.clause_kernel.proofs.Words.{shares_bit-bits, meets-bits}
use Rattle.bit_rows.specs.Sets.{variants_of, HasNameInside}
use Rattle.deb_relation.specs.Relations.{Entry}
use Rattle.farm_model.specs.Common.{Universe, variant, names, variants, satisfies_entry}
use Rattle.farm_model.specs.declared.types.Variant.{Variant}
use Rattle.farm_universe.proofs.PlaceLaws.{named}
use Rattle.item_index.proofs.ItemLaws.{any-at, any-found}
use Rattle.sat_rows.specs.declared.found.NumberWord.{NumberWord}
use Rattle.sat_rows.specs.Found.{among}
use Rattle.sat_rows.specs.Links.{Links, nth_list}
use Rattle.sat_rows.specs.Rows.{variant_passes, IsRowOf}
use Rattle.sat_rows.specs.Served.{AreServed, shares, hits_some, is_unmet, is_missed_by, misses, IsMissed}
use Rattle.sat_rows.proofs.LinkLaws.{within}
use Rattle.sat_rows.proofs.WantedLaws.{wanted_is}

-- words that hit a list have one of its variants
hit_found : (words : List ℕ) (vs : List NumberWord) → hits_some words vs ≡ true
    → (n : ℕ) × (b : ℕ) × (variants_of words n b ≡ true) × (among vs n b ≡ true)
hit_found words vs hit =
    let w = any-found (shares words) vs hit in
    let shared = (shares_bit-bits (slice_index words w.1.number) w.1.word).0 w.3 in (
      w.1.number,
      shared.0,
      shared.1,
      any-at (λ t. (w.1.number == t.number) && word_has t.word shared.0) vs w.0 w.1 w.2
          (and_from _ _ (eq-eqb w.1.number w.1.number refl) shared.2),
    )

hit_from : (words : List ℕ) (vs : List NumberWord) (n b : ℕ) → variants_of words n b ≡ true
    → among vs n b ≡ true → hits_some words vs ≡ true
hit_from words vs n b held has =
    let w = any-found (λ t. (n == t.number) && word_has t.word b) vs has in
    let parts = and_parts (n == w.1.number) _ w.3 in
    let same = eqb-true n w.1.number parts.0 in
    any-at (shares words) vs w.0 w.1 w.2
    ((shares_bit-bits (slice_index words w.1.number) w.1.word).1
    (b, subst (λ k. variants_of words k b ≡ true) same held, parts.1))

-- the row of variants that pass, and these
inside_row : (u : Universe) (p : Variant → Bool) (row words : List ℕ) → IsRowOf u p row
    → HasNameInside (variants_of words) (variants_of row)
    → HasNameInside (variants_of words) (variant_passes u p)
inside_row u p row words is inside =
    (inside.0, inside.1, λ b has. sym (is.set inside.0 b) ∙ inside.2 b has)

inside_passing : (u : Universe) (p : Variant → Bool) (row words : List ℕ) → IsRowOf u p row
    → HasNameInside (variants_of words) (variant_passes u p)
    → HasNameInside (variants_of words) (variants_of row)
inside_passing u p row words is inside =
    (inside.0, inside.1, λ b has. is.set inside.0 b ∙ inside.2 b has)

module _ (u : Universe) (rows : List (List ℕ)) (x : Links) (are : AreServed u rows x)
    (words : List ℕ) (long : length words ≡ names u) where
  -- each row is as long as the words
  pub rows_long : (k : ℕ) → k < length rows → length words ≡ length (get_or rows k [])
  rows_long k lt =
      let e = slice_get-get_or are.entries k [] (omega (arith, lt, are.rows_of.long)) in
      long ∙ sym (are.rows_of.each k _ e).long

  module _ (k : ℕ) (e : Entry) (at : slice_get are.entries k ≡ Some e) where
    abbrev p : Variant → Bool
    p = satisfies_entry u e

    row_there : slice_get rows k ≡ Some (get_or rows k [])
    row_there =
        slice_get-get_or rows k []
        (let lt = slice_get_within are.entries k e at in omega (arith, lt, are.rows_of.long))

    row_is : IsRowOf u p (get_or rows k [])
    row_is = are.rows_of.each k e at

    unmet_is : is_unmet words (slice_get rows k) ≡ true
        → HasNameInside (variants_of words) (variant_passes u p) → ⊥
    unmet_is told inside =
        let not_met = not-true _ (sym (ap (is_unmet words) row_there) ∙ told) in
        both_ways _ not_met
        ((met-bits words (get_or rows k []) (long ∙ sym row_is.long)).1
        (inside_passing u p (get_or rows k []) words row_is inside))

    unmet_from : (HasNameInside (variants_of words) (variant_passes u p) → ⊥)
        → is_unmet words (slice_get rows k) ≡ true
    unmet_from none =
        ap (is_unmet words) row_there
        ∙ not_from_false _ (elim (cases_Bool (met words (get_or rows k []))) [
          | inr out ↦ out
          | inl is ↦ absurd (none (inside_row u p (get_or rows k []) words row_is
              ((met-bits words (get_or rows k []) (long ∙ sym row_is.long)).0 is)))
        ])

  module _ (name word : ℕ) where
    pub missed_found : misses x rows name word words ≡ true → IsMissed u name word words
    missed_found some =
        let serving = are.serving in
        let own = slice_index words name in
        let at = any-found (is_missed_by x rows word own words) (nth_list x.by_name name) some in
        let k = at.1.number in
        let first = and_parts (shares_bit word at.1.word) _ at.3 in
        let others = and_parts (not (meets own at.1.word)) _ first.1 in
        let second = and_parts (hits_some words (nth_list x.by_entry k)) _ others.1 in
        let shared = (shares_bit-bits word at.1.word).0 first.0 in
        let listed : among (nth_list x.by_name name) k shared.0 ≡ true =
        any-at (λ t. (k == t.number) && word_has t.word shared.0) (nth_list x.by_name name) at.0
        at.1
        at.2
        (and_from _ _ (eq-eqb k k refl) shared.2) in
        let there = within x.by_name name k shared.0 listed in
        let set : among (nth_list serving.sets k) name shared.0 ≡ true =
        sym (serving.satisfied.each name k shared.0 (omega (arith, there, serving.satisfied.long)))
        ∙ listed in
        let owner = hit_found words (nth_list x.by_entry k) second.0 in
        let owned = within x.by_entry k owner.0 owner.1 owner.3 in
        let noted : among (nth_list serving.noted owner.0) k owner.1 ≡ true =
        sym (serving.owners.each k owner.0 owner.1 (omega (arith, owned, serving.owners.long)))
        ∙ owner.3 in
        let name_there = within serving.noted owner.0 k owner.1 noted in
        let told = (serving.are_noted.each owner.0
        (omega (arith, name_there, serving.are_noted.long))).only
        k owner.1 noted in
        let e = told.1 in
        record {
          owner = variant owner.0 owner.1;
          known = told.0;
          held = owner.2;
          place = e.place;
          entry = e.entry;
          has = subst (λ es. slice_get es e.place ≡ Some e.entry)
              (sym (wanted_is u (variant owner.0 owner.1))) e.there;
          bit = shared.0;
          taken = shared.1;
          satisfied = sym (serving.are_sets.each k e.entry e.number name shared.0) ∙ set;
          unmet = unmet_is k e.entry e.number second.1;
        }

    -- an entry that is listed under the name, where all that the words have of the name is in its
    -- word, is met by it
    met_by_own : (at : NumberWord) (e : Entry) → slice_get are.entries at.number ≡ Some e
        → (i : ℕ) → slice_get (nth_list x.by_name name) i ≡ Some at
        → meets (slice_index words name) at.word ≡ true
        → HasNameInside (variants_of words) (variant_passes u (satisfies_entry u e))
    met_by_own at e is i listed meets_it =
        let parts = (meets-bits (slice_index words name) at.word).0 meets_it in (
          name,
          parts.0,
          λ b has.
              let serving = are.serving in
              let k = at.number in
              let among_it : among (nth_list x.by_name name) k b ≡ true =
              any-at (λ t. (k == t.number) && word_has t.word b) (nth_list x.by_name name) i at
              listed
              (and_from _ _ (eq-eqb k k refl) (parts.1 b has)) in
              let name_there = within x.by_name name k b among_it in
              sym (serving.are_sets.each k e is name b)
              ∙ (sym (serving.satisfied.each name k b
              (omega (arith, name_there, serving.satisfied.long))) ∙ among_it),
        )

    pub missed_from : IsMissed u name word words → misses x rows name word words ≡ true
    missed_from is =
        let serving = are.serving in
        let v = is.owner in
        let noted = (serving.are_noted.each v.name (named u v.name v.bit is.known)).every v.bit
        is.place
        is.entry is.known
        (subst (λ es. slice_get es is.place ≡ Some is.entry) (wanted_is u v) is.has) in
        let k = noted.number in
        let inside = slice_get_within are.entries k is.entry noted.is in
        let count = serving.are_sets.long in
        let owned : among (nth_list x.by_entry k) v.name v.bit ≡ true =
        serving.owners.each k v.name v.bit (omega (arith, inside, count)) ∙ noted.has in
        let passing = and_parts (nat_lt is.bit (variants u name)) _ is.satisfied in
        let there = named u name is.bit (ltb-true is.bit (variants u name) passing.0) in
        let listed : among (nth_list x.by_name name) k is.bit ≡ true =
        serving.satisfied.each name k is.bit there
        ∙ (serving.are_sets.each k is.entry noted.is name is.bit ∙ is.satisfied) in
        let at = any-found (λ t. (k == t.number) && word_has t.word is.bit)
        (nth_list x.by_name name)
        listed in
        let parts = and_parts (k == at.1.number) _ at.3 in
        let same = eqb-true k at.1.number parts.0 in
        let own = slice_index words name in
        let entry_is : slice_get are.entries at.1.number ≡ Some is.entry =
        subst (λ j. slice_get are.entries j ≡ Some is.entry) same noted.is in
        let not_own : not (meets own at.1.word) ≡ true =
        not_from_false _ (elim (cases_Bool (meets own at.1.word)) [
          | inr out ↦ out
          | inl it ↦ absurd (is.unmet (met_by_own at.1 is.entry entry_is at.0 at.2 it))
        ]) in
        any-at (is_missed_by x rows word own words) (nth_list x.by_name name) at.0 at.1 at.2
        (and_from _ _ ((shares_bit-bits word at.1.word).1 (is.bit, is.taken, parts.1))
        (and_from _ _ not_own
        (subst (λ j. (hits_some words (nth_list x.by_entry j) && is_unmet words (slice_get rows j))
        ≡ true) same
        (and_from _ _ (hit_from words (nth_list x.by_entry k) v.name v.bit is.held owned)
        (unmet_from k is.entry noted.is is.unmet)))))

    pub misses_is : (t : Bool) → t ≡ misses x rows name word words
        → (t ≡ true) ↔ IsMissed u name word words
    misses_is t is = (λ yes. missed_found (sym is ∙ yes), λ missed. is ∙ missed_from missed)
