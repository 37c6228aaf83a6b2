-- The rows of a certificate as they are made: one behind each wait, publish and `when`.
use Rattle.std.proofs.Common.{◌≡◌, ℕ, suc, ◌+◌, ◌<◌, ◌≤◌, true, false, cond, not, ◌&&◌, List, [], ◌∷◌, ◌++◌, length, take, get_or, Some, slice_index_or, count_by, inl, inr, refl, sym, ap, subst, ◌∙◌, arith}
use Rattle.std.proofs.Math.Seq.{get_or-append_seam}
use Rattle.std.proofs.lemmas.Bool.{cases_eq, false≢true}
use Rattle.std.proofs.lemmas.List.{length-append, get_or_append_left, take-take}
use Rattle.std.proofs.lemmas.List.Elements.{All-nil, All-push}
use Rattle.std.proofs.lemmas.List.Sums.{sum_by-take-le}
use Rattle.bit_rows.specs.Sets.{variants_of, IsDifference}
use Rattle.cert_text.specs.Certificates.{IsNewRow}
use Rattle.farm_model.specs.Common.{Universe, initial, IsUniverse}
use Rattle.plan_model.specs.Common.{Rows, KeepsRows, teaches, Plan, lane, instruction_at}
use Rattle.plan_model.specs.declared.instructions.Instruction.{Instruction}
use Rattle.sat_rows.specs.Rows.{IsRowOf}
use Rattle.verdict_laws.proofs.Inclusions.{possible-known}
use Rattle.verdict_laws.proofs.Unions.{known_are_possible}
use Rattle.plan_cert.proofs.StatedLaws.{next-quiet, next-learns, row-has}
use Rattle.plan_cert.specs.Made.{IsNewAt, AreNewRows, AreNewLanes}
use Rattle.plan_cert.specs.Places.{HaveKnown}
use Rattle.plan_cert.specs.Stated.{rows_before, in_row}

-- ---- one row

-- rows that keep to the inclusions have known variants alone
pub known-there : (u : Universe) (p : Plan) (known : Rows) → IsUniverse u → KeepsRows u p known
    → HaveKnown u p known
known-there u p known sound keeps l i v lt le e =
    possible-known u sound p l i v (known_are_possible u p known keeps l i v lt le e)

module _ (u : Universe) (p : Plan) (known : Rows) (sound : IsUniverse u)
    (keeps : KeepsRows u p known)
    (l i : ℕ) (lt : l < length p) (le : i ≤ length (lane p l).instructions)
    (there archive row : List ℕ) (is : IsRowOf u (known l i) there)
    (start : IsRowOf u (initial u) archive)
    (rest : IsDifference (variants_of there) (variants_of archive) (variants_of row)) where
  -- what is left of a row without the initial archive
  pub row-new-at : IsNewAt u known l i row
  row-new-at v =
      rest v.name v.bit
      ∙ ap (λ b. b && not (in_row archive v)) (row-has u (known l i) there is
      (λ w. known-there u p known sound keeps l i w lt le) v)
      ∙ ap (λ b. known l i v && not b) (row-has u (initial u) archive start sound.initial_known v)

-- ---- the rows of a lane

pub rows-none : (u : Universe) (p : Plan) (known : Rows) (l : ℕ) → AreNewRows u p known l 0 []
rows-none u p known l = record {
  counted = refl;
  new = All-nil (IsNewRow u);
  each = λ k x lt. absurd (omega (arith, lt));
}

abbrev count-one : Instruction → ℕ
count-one x = cond (teaches x) 1 0

-- a row that is listed before a place is counted there
row-counted : (p : Plan) (l i k : ℕ) (x : Instruction) → k < i → instruction_at p l k ≡ Some x
    → teaches x ≡ true → rows_before p l k < rows_before p l i
row-counted p l i k x lt at learnt =
    let is = (lane p l).instructions in
    let more = next-learns p l k x at learnt in
    let part = sum_by-take-le count-one (take i is) (k + 1) in
    let same = ap (count_by teaches) (take-take (k + 1) i is (omega (arith, lt))) in
    omega (arith, more, part, same)

module _ (u : Universe) (p : Plan) (known : Rows) (l i : ℕ) (x : Instruction)
    (at : instruction_at p l i ≡ Some x) (rows : List (List ℕ))
    (are : AreNewRows u p known l i rows) where
  -- behind an instruction without a row
  pub rows-quiet : teaches x ≡ false → AreNewRows u p known l (i + 1) rows
  rows-quiet quiet =
      record {
        counted = are.counted ∙ sym (next-quiet p l i x at quiet);
        new = are.new;
        each = λ k y lt there learnt.
            elim (cases_eq k i) [
              | inl here ↦ absurd (false≢true
                  (sym quiet ∙ sym (ap teaches (same k y here there)) ∙ learnt))
              | inr other ↦ are.each k y (omega (arith, lt, other)) there learnt
            ];
      }
    where
      same : (k : ℕ) (y : Instruction) → k ≡ i → instruction_at p l k ≡ Some y → y ≡ x
      same k y here there =
          let e : Some y ≡ Some x = sym there ∙ ap (instruction_at p l) here ∙ at in cc

  -- behind one with a row
  pub rows-learnt : (row : List ℕ) (more : List (List ℕ)) → teaches x ≡ true → IsNewRow u row
      → IsNewAt u known l (i + 1) row → more ≡ rows ++ row ∷ []
      → AreNewRows u p known l (i + 1) more
  rows-learnt row more learnt new is items =
      subst (AreNewRows u p known l (i + 1)) (sym items) (record {
        counted = length-append rows (row ∷ []) ∙ ap (λ n. n + 1) are.counted
            ∙ sym (next-learns p l i x at learnt);
        new = All-push (IsNewRow u) rows row are.new new;
        each = λ k y lt there learns_y.
            elim (cases_eq k i) [
              | inl here ↦ last k here
              | inr other ↦ earlier k y (omega (arith, lt, other)) there learns_y
            ];
      })
    where
      last : (k : ℕ) → k ≡ i → IsNewAt u known l (suc k)
          (slice_index_or (rows ++ row ∷ []) (rows_before p l k) [])
      last k here v =
          let place : rows_before p l k ≡ length rows = ap (rows_before p l) here
          ∙ sym are.counted in
          let next : i + 1 ≡ suc k = omega (arith, here) in
          ap (λ n. in_row (get_or (rows ++ row ∷ []) n []) v) place
          ∙ ap (λ r. in_row r v) (get_or-append_seam rows row [] [])
          ∙ is v ∙ ap (λ n. known l n v && not (initial u v)) next

      earlier : (k : ℕ) (y : Instruction) → k < i → instruction_at p l k ≡ Some y → teaches y ≡ true
          → IsNewAt u known l (suc k) (slice_index_or (rows ++ row ∷ []) (rows_before p l k) [])
      earlier k y lt there learns_y v =
          let within = row-counted p l i k y lt there learns_y in
          ap (λ r. in_row r v)
          (get_or_append_left rows (row ∷ []) [] (rows_before p l k)
          (omega (arith, within, are.counted)))
          ∙ are.each k y lt there learns_y v

-- ---- the rows of all lanes

pub lanes-none : (u : Universe) (p : Plan) (known : Rows) → AreNewLanes u p known 0 []
lanes-none u p known = record { long = refl; each = λ l lt. absurd (omega (arith, lt)) }

pub lanes-next : (u : Universe) (p : Plan) (known : Rows) (n : ℕ)
    (lanes more : List (List (List ℕ)))
    (rows : List (List ℕ)) → more ≡ lanes ++ rows ∷ [] → AreNewLanes u p known n lanes
    → AreNewRows u p known n (length (lane p n).instructions) rows
    → AreNewLanes u p known (n + 1) more
lanes-next u p known n lanes more rows items so_far are =
    subst (AreNewLanes u p known (n + 1)) (sym items) (record {
      long = length-append lanes (rows ∷ []) ∙ ap (λ k. k + 1) so_far.long;
      each = λ l lt. elim (cases_eq l n) [
        | inl here ↦
            let at : slice_index_or (lanes ++ rows ∷ []) l [] ≡ rows =
            ap (λ k. get_or (lanes ++ rows ∷ []) k []) (here ∙ sym so_far.long)
            ∙ get_or-append_seam lanes rows [] [] in
            subst (AreNewRows u p known l (length (lane p l).instructions)) (sym at)
            (subst (λ k. AreNewRows u p known k (length (lane p k).instructions) rows) (sym here)
            are)
        | inr other ↦
            let below : l < n = omega (arith, lt, other) in
            subst (AreNewRows u p known l (length (lane p l).instructions))
            (sym (get_or_append_left lanes (rows ∷ []) [] l (omega (arith, below, so_far.long))))
            (so_far.each l below)
      ];
    })
