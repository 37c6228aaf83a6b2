-- The halt word.
use Rattle.std.proofs.Common.{Bool, List, Some, ap, arith, bit_or, eqb, false, inl, inr, map, not, refl, set, slice_get, subst, sym, take, true, ℕ, ⊎_elim, ◌+◌, ◌<◌, ◌||◌, ◌∙◌, ◌≡◌, ◌≢◌, ◌⊎◌}
use Rattle.std.proofs.lemmas.Bool.{both_ways, cases_eq, eq-eqb, not-true}
use Rattle.std.proofs.lemmas.List.{take-set-le}
use Rattle.std.proofs.lemmas.Nat.Bits.{bit_at-lt, bit_at-zero, bit_at_or}
use Rattle.std.specs.Int.{bit_at}
use Rattle.std.specs.Prelude.{slice_index}
use Rattle.farm_model.specs.Packages.{names}
use Rattle.plan_model.specs.Turn.{LaneState}
use Rattle.archive_laws.specs.Shown.{IsReached}
use Rattle.archive_laws.specs.Records.{Record}
use Rattle.plan_verifier.specs.Accepted.{AcceptedPlan}
use Rattle.word_archive.specs.Rule.{AreWordsOf, HasHalted, IsHalted, halt_word, shown_world}
use Rattle.word_archive.proofs.Lists.{get_map, get_set, get_set_other, index_set, index_set_other, map_set, set_same}
use Rattle.word_archive.proofs.Moves.{changed, same_record}

-- a record changes, and its halt does not
pub halts_stay : (word : ℕ) (records : List Record) (stopped : Bool) (l : ℕ) (r r' : Record)
    → IsHalted word records stopped → slice_get records l ≡ Some r → r'.halted ≡ r.halted
    → (r'.saw ≡ true → word ≢ 0) → IsHalted word (set records l r') stopped
halts_stay word records stopped l r r' h here halted saw = record {
  set = (
    (λ ne. ⊎_elim (λ s. inl s) (λ (t : HasHalted records). inr (still t (cases_eq t.0 l)))
        (h.set.0 ne)),
    (λ s. h.set.1 (⊎_elim (λ q. inl q) (λ (t : HasHalted (set records l r')). inr
        (was t (cases_eq t.0 l))) s)),
  );
  sights = changed (λ k q. q.saw ≡ true → word ≢ 0) records l r r' here saw h.sights;
}
  where
    still : (t : HasHalted records) → (t.0 ≡ l) ⊎ (t.0 ≢ l) → HasHalted (set records l r')
    still t (inl is) =
        let same : t.1 ≡ r =
        same_record records l t.1 r (ap (slice_get records) (sym is) ∙ t.2) here in (
          l,
          r',
          get_set records l r r' here,
          halted
              ∙ (ap (λ (y : Record). y.halted) (sym same) ∙ t.3),
        )
    still t (inr apart) = (t.0, t.1, get_set_other records l t.0 r' apart ∙ t.2, t.3)

    was : (t : HasHalted (set records l r')) → (t.0 ≡ l) ⊎ (t.0 ≢ l) → HasHalted records
    was t (inl is) =
        let same : t.1 ≡ r' =
        same_record (set records l r') l t.1 r' (ap (slice_get (set records l r')) (sym is)
        ∙ t.2) (get_set records l r r' here) in
        (l, r, here, sym halted ∙ (ap (λ (y : Record). y.halted) (sym same) ∙ t.3))
    was t (inr apart) = (t.0, t.1, sym (get_set_other records l t.0 r' apart) ∙ t.2, t.3)

-- a record whose lane stays where it is shows the same world
pub same_world : (a : AcceptedPlan) (words : List ℕ) (records : List Record) (l : ℕ)
    (r r' : Record)
    → slice_get records l ≡ Some r → r'.at ≡ r.at
    → IsReached a.universe a.plan (shown_world a words records)
    → IsReached a.universe a.plan (shown_world a words (set records l r'))
same_world a words records l r r' here at h =
    subst (λ (ls : List LaneState). IsReached a.universe a.plan
    (record { words = take (names a.universe) words; lanes = ls }))
    (sym (map_set (λ (q : Record). q.at) records l r'
    ∙ (ap (set (map (λ (q : Record). q.at) records) l) at
    ∙ set_same (map (λ (q : Record). q.at) records) l r.at
    (get_map (λ (q : Record). q.at) records l r here)))) h

-- a lane that was told before or now has seen the word set
pub saw_true : (b : Bool) (n : ℕ) → (b || not (eqb n 0)) ≡ true → (b ≡ true → n ≢ 0) → n ≢ 0
saw_true true n e h = h refl
saw_true false n e h = λ z. absurd (both_ways (eqb n 0) (not-true (eqb n 0) e) (eq-eqb n 0 z))

-- a word with bit 0 set is not 0
or_one : (x : ℕ) → bit_or x 1 ≢ 0
or_one x z =
    let m = bit_at_or x 1 0 in
    let b = bit_at-lt x 0 in
    let o : bit_at 1 0 ≡ 1 = refl in
    let y : bit_at (bit_or x 1) 0 ≡ bit_at 0 0 = ap (λ n. bit_at n 0) z in
    let w = bit_at-zero 0 in
    absurd (omega arith)

-- the words with the halt word set, and what they keep of records that change in no other way
module _ (a : AcceptedPlan) (words : List ℕ) (records : List Record) (stopped : Bool)
    (st : AreWordsOf a words records stopped) where
  -- the halt word before
  abbrev pub found : ℕ
  found = slice_index words (names a.universe + 1)

  -- the words with the halt word set
  abbrev pub words_after : List ℕ
  words_after = set words (names a.universe + 1) (bit_or found 1)

  -- it is set then
  pub is_set : halt_word a words_after ≢ 0
  is_set z =
      or_one found (sym (index_set words (names a.universe + 1) (bit_or found 1)
      (omega (arith, st.long))) ∙ z)

  -- the other words are as they were
  pub other_words : (n : ℕ) → n < names a.universe + 1
      → slice_index words_after n ≡ slice_index words n
  other_words n lt =
      index_set_other words (names a.universe + 1) n (bit_or found 1) (λ e. omega arith)

  -- so the world shown is the same
  pub reached_after : (rs : List Record) → IsReached a.universe a.plan (shown_world a words rs)
      → IsReached a.universe a.plan (shown_world a words_after rs)
  reached_after rs h =
      subst (λ (ws : List ℕ). IsReached a.universe a.plan
      (record { words = ws; lanes = map (λ (q : Record). q.at) rs }))
      (sym (take-set-le (names a.universe) words (names a.universe + 1) (bit_or found 1)
      (omega arith)))
      h
