-- The rows that a certificate states, instruction by instruction.
use Rattle.std.proofs.Common.{◌≡◌, ℕ, zero, suc, ◌+◌, ◌<◌, Bool, true, false, cond, ◌||◌, nat_lt, List, [], ◌∷◌, length, take, drop, get_or, Some, slice_index_or, count_by, inl, inr, refl, sym, ap, subst, ◌∙◌, arith, take-append-drop}
use Rattle.std.specs.Cmp.{both_ways as same_tests}
use Rattle.std.proofs.lemmas.Bool.{or_cases, and_parts, and_from, cases_lt, lt-ltb, false≢true}
use Rattle.std.proofs.lemmas.List.{get_or_past}
use Rattle.std.proofs.lemmas.List.Sums.{sum_by-append}
use Rattle.bit_rows.specs.Sets.{variants_of, IsDifference}
use Rattle.cert_text.specs.Certificates.{Certificate, lane_rows, count_rows, IsNewRow, IsCertificate}
use Rattle.clause_kernel.proofs.Words.{word_has_zero}
use Rattle.farm_laws.proofs.Archive.{take_some}
use Rattle.farm_model.specs.Common.{Universe, variants, initial, IsKnown, IsUniverse}
use Rattle.farm_model.specs.declared.types.Variant.{Variant}
use Rattle.plan_model.specs.Common.{row_before, teaches, Plan, lane, instruction_at}
use Rattle.plan_model.specs.declared.instructions.Instruction.{Instruction}
use Rattle.sat_rows.specs.Rows.{IsRowOf}
use Rattle.known_rows.proofs.ArchiveRows.{row_same}
use Rattle.plan_cert.proofs.HeldLaws.{held-quiet, held-learns}
use Rattle.plan_cert.specs.PlaceRows.{IsRowAt}
use Rattle.plan_cert.specs.Stated.{rows_before, held_at, in_row, last_row_lists, listed_rows, stated_rows}

module _ (p : Plan) (l i : ℕ) (x : Instruction) (at : instruction_at p l i ≡ Some x) where
  abbrev one : Instruction → ℕ
  one y = cond (teaches y) 1 0

  next : rows_before p l (i + 1) ≡ rows_before p l i + one x
  next =
      let e : i + 1 ≡ suc i = omega arith in
      let split = sum_by-append one (take i (lane p l).instructions) (x ∷ []) in
      ap (λ k. count_by teaches (take k (lane p l).instructions)) e
      ∙ ap (count_by teaches) (take_some (lane p l).instructions i x at)
      ∙ omega (arith, split)

  pub next-quiet : teaches x ≡ false → rows_before p l (i + 1) ≡ rows_before p l i
  next-quiet e = let none : one x ≡ 0 = rw e refl in omega (arith, next, none)

  pub next-learns : teaches x ≡ true → rows_before p l (i + 1) ≡ rows_before p l i + 1
  next-learns e = let some : one x ≡ 1 = rw e refl in omega (arith, next, some)

  pub row-there : teaches x ≡ true → rows_before p l i < count_rows (lane p l)
  row-there e =
      let is = (lane p l).instructions in
      let split = sum_by-append one (take (i + 1) is) (drop (i + 1) is) in
      let whole = ap (count_by teaches) (take-append-drop (i + 1) is) in
      omega (arith, next-learns e, split, whole)

-- a row of known variants is that of its own
pub new-row : (u : Universe) (row : List ℕ) → IsNewRow u row → IsRowOf u (in_row row) row
new-row u row new = record {
  long = new.long;
  set = λ n b. same_tests _ _
      (λ e. and_from _ _ (lt-ltb b (variants u n) (new.known n b e)) e)
      (λ e. (and_parts (nat_lt b (variants u n)) (variants_of row n b) e).1);
}

-- what is left of a row without another
pub left-new : (u : Universe) (row other left : List ℕ) → IsNewRow u row
    → length left ≡ length row
    → IsDifference (variants_of row) (variants_of other) (variants_of left) → IsNewRow u left
left-new u row other left new long less = record {
  long = long ∙ new.long;
  known = λ n b e. new.known n b (has n b e);
  new = λ n b e. new.new n b (has n b e);
}
  where
    has : (n b : ℕ) → variants_of left n b ≡ true → variants_of row n b ≡ true
    has n b e = (and_parts (variants_of row n b) _ (sym (less n b) ∙ e)).0

pub new-known : (u : Universe) (row : List ℕ) → IsNewRow u row → (v : Variant)
    → in_row row v ≡ true → IsKnown u v
new-known u row new v e = new.known v.name v.bit e

-- a certificate of the plan
module _ (u : Universe) (p : Plan) (c : Certificate) (is : IsCertificate u p c) where
  pub lists-known : (l k : ℕ) (v : Variant) → last_row_lists (lane_rows c l) k v ≡ true → IsKnown u v
  lists-known l zero v e = absurd (false≢true e)
  lists-known l (suc k) v e =
      elim (cases_lt k (length (lane_rows c l))) [
        | inl lt ↦ (is.rows l k [] lt).known v.name v.bit e
        | inr past ↦
            let none : in_row (slice_index_or (lane_rows c l) k []) v ≡ false =
            ap (λ row. in_row row v) (get_or_past (lane_rows c l) k [] past)
            ∙ word_has_zero v.bit in
            absurd (false≢true (sym none ∙ e))
      ]

  pub stated-known : IsUniverse u → (l i : ℕ) (v : Variant) → stated_rows u p c l i v ≡ true
      → IsKnown u v
  stated-known sound l i v e =
      elim (or_cases (initial u v) _ e) [
        | inl here ↦ sound.initial_known v here
        | inr some ↦ lists-known l (held_at p l i).here v some
      ]

  -- a lane begins with the initial archive
  pub stated-start : (l : ℕ) (v : Variant) → stated_rows u p c l 0 v ≡ true → initial u v ≡ true
  stated-start l v e =
      elim (or_cases (initial u v) _ e) [
        | inl here ↦ here
        | inr some ↦ absurd (false≢true some)
      ]

  -- behind an instruction without a row
  listed-quiet : (l i : ℕ) (x : Instruction) (v : Variant) → instruction_at p l i ≡ Some x
      → teaches x ≡ false → listed_rows p c l (suc i) v ≡ listed_rows p c l (row_before p l i x) v
  listed-quiet l i x v at quiet =
      ap (λ k. last_row_lists (lane_rows c l) k v) (held-quiet p l i x at quiet)

  pub stated-quiet : (l i : ℕ) (x : Instruction) (v : Variant) → instruction_at p l i ≡ Some x
      → teaches x ≡ false
      → stated_rows u p c l (suc i) v ≡ stated_rows u p c l (row_before p l i x) v
  stated-quiet l i x v at quiet = ap (λ held. initial u v || held) (listed-quiet l i x v at quiet)

  pub row-quiet : (l i n : ℕ) (x : Instruction) (rows : List (List ℕ))
      → instruction_at p l i ≡ Some x → teaches x ≡ false
      → IsRowAt u (listed_rows p c l (row_before p l i x)) rows n
      → IsRowAt u (listed_rows p c l (i + 1)) rows n
  row-quiet l i n x rows at quiet r = record {
    within = r.within;
    row = row_same u (listed_rows p c l (row_before p l i x)) (listed_rows p c l (i + 1))
        (slice_index_or rows n [])
        (λ v. sym (listed-quiet l i x v at quiet)
        ∙ ap (λ k. listed_rows p c l k v) (let e : suc i ≡ i + 1 = omega arith in e)) r.row;
  }

  pub listed-new : (l k : ℕ) (listed : List ℕ) → k < length (lane_rows c l)
      → listed ≡ get_or (lane_rows c l) k listed → IsNewRow u listed
  listed-new l k listed lt at = subst (IsNewRow u) (sym at) (is.rows l k listed lt)

  -- and behind one with a row, of which so many are listed before it
  pub row-listed : (l i k : ℕ) (x : Instruction) (listed : List ℕ)
      → instruction_at p l i ≡ Some x → teaches x ≡ true → k ≡ rows_before p l i
      → k < length (lane_rows c l) → listed ≡ get_or (lane_rows c l) k listed
      → IsRowOf u (listed_rows p c l (i + 1)) listed
  row-listed l i k x listed there learnt used lt at =
      let more = next-learns p l i x there learnt in
      let i_next : i + 1 ≡ suc i = omega arith in
      let next : (held_at p l (i + 1)).here ≡ suc k =
      ap (λ n. (held_at p l n).here) i_next ∙ held-learns p l i x there learnt
      ∙ ap (rows_before p l) (sym i_next)
      ∙ (let n : rows_before p l (i + 1) ≡ suc k = omega (arith, more, used) in n) in
      let here : listed ≡ get_or (lane_rows c l) k [] = at
      ∙ same-at (lane_rows c l) k listed [] lt in
      row_same u _ _ listed
      (λ v. ap (λ r. in_row r v) here ∙ ap (λ n. last_row_lists (lane_rows c l) n v) (sym next))
      (new-row u listed (listed-new l k listed lt at))
    where
      same-at : (xs : List (List ℕ)) (i : ℕ) (a b : List ℕ) → i < length xs → get_or xs i a
          ≡ get_or xs i b
      same-at [] i a b h = absurd (omega arith)
      same-at (x ∷ xs) zero a b h = refl
      same-at (x ∷ xs) (suc i) a b h = same-at xs i a b (omega arith)

-- the row of a test of known variants has just those that pass
pub row-has : (u : Universe) (test : Variant → Bool) (row : List ℕ) → IsRowOf u test row
    → ((v : Variant) → test v ≡ true → IsKnown u v) → (v : Variant) → in_row row v ≡ test v
row-has u test row r known v =
    r.set v.name v.bit
    ∙ same_tests _ _ (λ e. (and_parts (nat_lt v.bit (variants u v.name)) (test v) e).1)
    (λ e. and_from _ _ (lt-ltb v.bit (variants u v.name) (known v e)) e)
