-- To whom a variant leads, as one list.
use Rattle.std.proofs.Common.{◌≡◌, ℕ, ◌+◌, ◌<◌, ◌≤◌, Bool, true, not, ◌&&◌, ◌||◌, ◌==◌, List, [], length, get_or, take, refl, sym, ap, subst, ◌∙◌, arith, slice_index}
use Rattle.std.specs.Cmp.{both_ways as both_tests}
use Rattle.std.specs.List.{list_any}
use Rattle.std.proofs.lemmas.Bool.{and_parts, and_from, eqb-true, eq-eqb}
use Rattle.std.proofs.lemmas.List.{take_all}
use Rattle.std.proofs.lemmas.Option.{slice_get_within, get_or_from_slice_get}
use Rattle.clause_kernel.specs.Rows.{word_has}
use Rattle.clause_kernel.proofs.Words.{shares_bit-bits}
use Rattle.item_index.proofs.ItemLaws.{any-at, any-found}
use Rattle.sat_rows.specs.declared.found.NumberWord.{NumberWord}
use Rattle.sat_rows.specs.Found.{among, shares_other, hits_other}
use Rattle.sat_rows.specs.Links.{nth_list, leads_by, IsJoined, AreJoined}
use Rattle.sat_rows.proofs.FoundLaws.{any_next, or_assoc}

-- words put to others, one more
pub added_next : (start old new ws : List NumberWord) (i : ℕ) (w : NumberWord) → i < length ws
    → w ≡ get_or ws i w
    → ((n b : ℕ) → among old n b ≡ (among start n b || among (take i ws) n b))
    → ((n b : ℕ) → among new n b ≡ (among old n b || ((n == w.number) && word_has w.word b)))
    → (n b : ℕ) → among new n b ≡ (among start n b || among (take (i + 1) ws) n b)
added_next start old new ws i w lt is so_far put n b =
    put n b
    ∙ ap (λ x. x || ((n == w.number) && word_has w.word b)) (so_far n b)
    ∙ sym (or_assoc (among start n b) (among (take i ws) n b)
    ((n == w.number) && word_has w.word b))
    ∙ ap (λ x. among start n b || x)
    (sym (any_next (λ w. (n == w.number) && word_has w.word b) ws i w lt is))

-- the variants of one entry more
pub leads_next : (by_entry : List (List NumberWord)) (bit : ℕ) (old new es : List NumberWord)
    (i : ℕ)
    (e : NumberWord) → i < length es → e ≡ get_or es i e → IsJoined (take i es) by_entry bit old
    → ((m c : ℕ) → among new m c ≡ (among old m c
    || (word_has e.word bit && among (nth_list by_entry e.number) m c)))
    → IsJoined (take (i + 1) es) by_entry bit new
leads_next by_entry bit old new es i e lt is so_far put m c =
    put m c
    ∙ ap (λ x. x || (word_has e.word bit && among (nth_list by_entry e.number) m c)) (so_far m c)
    ∙ sym (any_next (λ e. word_has e.word bit && among (nth_list by_entry e.number) m c) es i e lt
    is)

pub leads_all : (by_entry : List (List NumberWord)) (bit : ℕ) (vs es : List NumberWord) (i : ℕ)
    → length es ≤ i → IsJoined (take i es) by_entry bit vs → IsJoined es by_entry bit vs
leads_all by_entry bit vs es i all is m c =
    is m c ∙ ap (λ es. leads_by es by_entry bit m c) (take_all i es all)

-- the list is hit where the entries are
module _ (entries : List NumberWord) (by_entry : List (List NumberWord)) (bit name : ℕ)
    (words : List ℕ) (vs : List NumberWord) (is : IsJoined entries by_entry bit vs) where
  abbrev way : NumberWord → Bool
  way e = word_has e.word bit && hits_other name words (nth_list by_entry e.number)

  -- a variant of a list that the words have
  meets : (list : List NumberWord) → hits_other name words list ≡ true
      → (m : ℕ) × (c : ℕ) × (not (m == name) ≡ true) × (word_has (slice_index words m) c ≡ true)
      × (among list m c ≡ true)
  meets list hit =
      let w = any-found (shares_other name words) list hit in
      let parts = and_parts (not (w.1.number == name)) _ w.3 in
      let shared = (shares_bit-bits (slice_index words w.1.number) w.1.word).0 parts.1 in (
        w.1.number,
        shared.0,
        parts.0,
        shared.1,
        any-at (λ t. (w.1.number == t.number) && word_has t.word shared.0) list w.0 w.1 w.2
            (and_from _ _ (eq-eqb w.1.number w.1.number refl) shared.2),
      )

  met : (list : List NumberWord) (m c : ℕ) → not (m == name) ≡ true
      → word_has (slice_index words m) c ≡ true → among list m c ≡ true
      → hits_other name words list ≡ true
  met list m c other there has =
      let w = any-found (λ t. (m == t.number) && word_has t.word c) list has in
      let parts = and_parts (m == w.1.number) _ w.3 in
      let same = eqb-true m w.1.number parts.0 in
      any-at (shares_other name words) list w.0 w.1 w.2
      (and_from _ _ (subst (λ k. not (k == name) ≡ true) same other)
      ((shares_bit-bits (slice_index words w.1.number) w.1.word).1
      (c, subst (λ k. word_has (slice_index words k) c ≡ true) same there, parts.1)))

  pub joined_hits : hits_other name words vs ≡ list_any way entries
  joined_hits = both_tests _ _ on back where
    on : hits_other name words vs ≡ true → list_any way entries ≡ true
    on hit =
        let at = meets vs hit in
        let e = any-found (λ e. word_has e.word bit && among (nth_list by_entry e.number) at.0 at.1)
        entries (sym (is at.0 at.1) ∙ at.4) in
        let both = and_parts (word_has e.1.word bit) _ e.3 in
        any-at way entries e.0 e.1 e.2
        (and_from _ _ both.0 (met (nth_list by_entry e.1.number) at.0 at.1 at.2 at.3 both.1))

    back : list_any way entries ≡ true → hits_other name words vs ≡ true
    back some =
        let e = any-found way entries some in
        let both = and_parts (word_has e.1.word bit) _ e.3 in
        let at = meets (nth_list by_entry e.1.number) both.1 in
        met vs at.0 at.1 at.2 at.3
        (is at.0 at.1
        ∙ any-at (λ e. word_has e.word bit && among (nth_list by_entry e.number) at.0 at.1) entries
        e.0
        e.1 e.2 (and_from _ _ both.0 at.4))

-- the lists by bit
pub joined_none : (entries : List NumberWord) (by_entry : List (List NumberWord))
    → AreJoined entries by_entry []
joined_none entries by_entry b vs at = absurd
    (let lt = slice_get_within [] b vs at in omega (arith, lt))

pub joined_get : (entries : List NumberWord) (by_entry lists : List (List NumberWord))
    → ((b : ℕ) → b < length lists → IsJoined entries by_entry b (get_or lists b []))
    → AreJoined entries by_entry lists
joined_get entries by_entry lists each b vs at =
    subst (IsJoined entries by_entry b) (get_or_from_slice_get lists b vs [] at)
    (each b (slice_get_within lists b vs at))
