-- The certificate that is written is that of the plan.
use Rattle.std.proofs.Common.{◌≡◌, inl, inr, ℕ, zero, suc, ◌+◌, ◌<◌, ◌≤◌, true, false, not, nat_lt, List, ◌++◌, length, map, take, Some, refl, sym, ap, subst, ◌∙◌, arith}
use Rattle.std.specs.List.{range_with_len}
use Rattle.std.proofs.lemmas.Bool.{cases_Bool, and_parts, ltb-true, not-true}
use Rattle.std.proofs.lemmas.List.{append-nil, take_all, map-append}
use Rattle.std.proofs.lemmas.List.FromFn.{map-range_with_len_more}
use Rattle.std.proofs.lemmas.Option.{slice_get_cases}
use Rattle.bit_rows.specs.Sets.{variants_of}
use Rattle.cert_text.specs.Certificates.{learns, places_from, IsNewRow, IsCertificate}
use Rattle.farm_model.specs.Common.{Universe, variant, variants, initial, IsUniverse}
use Rattle.plan_cert.proofs.MadeLaws.{made-shape, made-exact, made-certifies}
use Rattle.plan_cert.proofs.NewRows.{known-there, rows-none, rows-quiet, rows-learnt, lanes-none, lanes-next}
use Rattle.plan_cert.proofs.StatedLaws.{row-has}
use Rattle.plan_cert.specs.Certified.{Certifies}
use Rattle.plan_cert.specs.Made.{IsNewAt, IsCertificateOf, AreNewRows, AreNewLanes}
use Rattle.plan_model.specs.Common.{Rows, KeepsRows, Plan, lane, instruction_at}
use Rattle.plan_model.specs.declared.instructions.Instruction.{Instruction}
use Rattle.plan_verifier.specs.Accepted.{AcceptedPlan, IsAccepted, known_rows}
use Rattle.cert_writer.proofs.Places.{places-next}
use Rattle.cert_writer.proofs.TestRows.{test-row}
use Rattle.cert_writer.specs.Lines.{places_at}
use Rattle.cert_writer.specs.NewRows.{new_at, new_row, new_rows, certificate_by}

-- ---- one row

module _ (u : Universe) (known : Rows) (l i : ℕ) where
  passed : (n b : ℕ) → variants_of (new_row u known l i) n b ≡ true
      → (nat_lt b (variants u n) ≡ true) × (new_at u known l i (variant n b) ≡ true)
  passed n b e =
      let both = and_parts (nat_lt b (variants u n)) (new_at u known l i (variant n b))
      (sym ((test-row u (new_at u known l i)).set n b) ∙ e) in (both.0, both.1)

  pub row-new : IsNewRow u (new_row u known l i)
  row-new = record {
    long = (test-row u (new_at u known l i)).long;
    known = λ n b e. ltb-true b (variants u n) (passed n b e).0;
    new = λ n b e. not-true (initial u (variant n b))
        (and_parts (known l i (variant n b)) (not (initial u (variant n b))) (passed n b e).1).1;
  }

module _ (u : Universe) (p : Plan) (known : Rows) (sound : IsUniverse u)
    (keeps : KeepsRows u p known) where
  row-at : (l i : ℕ) → l < length p → i ≤ length (lane p l).instructions
      → IsNewAt u known l i (new_row u known l i)
  row-at l i lt le =
      row-has u (new_at u known l i) (new_row u known l i) (test-row u (new_at u known l i))
      (λ v e. known-there u p known sound keeps l i v lt le
      (and_parts (known l i v) (not (initial u v)) e).0)

  -- ---- the rows of a lane

  module _ (l : ℕ) (lt : l < length p) where
    abbrev rows_to : ℕ → List (List ℕ)
    rows_to i = map (new_row u known l) (places_from 1 (take i (lane p l).instructions))

    rows-next : (i : ℕ) (x : Instruction) → instruction_at p l i ≡ Some x
        → rows_to (i + 1) ≡ rows_to i ++ map (new_row u known l) (places_at (i + 1) (Some x))
    rows-next i x at =
        ap (map (new_row u known l)) (places-next (lane p l).instructions i x at)
        ∙ map-append (new_row u known l) (places_from 1 (take i (lane p l).instructions))
        (places_at (i + 1) (Some x))

    one-more : (i : ℕ) (x : Instruction) → instruction_at p l i ≡ Some x
        → i + 1 ≤ length (lane p l).instructions → AreNewRows u p known l i (rows_to i)
        → AreNewRows u p known l (i + 1) (rows_to (i + 1))
    one-more i x at le are =
        elim (cases_Bool (learns x)) [
          | inl learnt ↦
              rows-learnt u p known l i x at (rows_to i) are (new_row u known l (i + 1))
              (rows_to (i + 1))
              learnt (row-new u known l (i + 1)) (row-at l (i + 1) lt le)
              (rows-next i x at ∙ rw learnt refl)
          | inr quiet ↦
              subst (AreNewRows u p known l (i + 1))
              (sym (rows-next i x at ∙ rw quiet (append-nil (rows_to i))))
              (rows-quiet u p known l i x at (rows_to i) are quiet)
        ]

    are-rows : (i : ℕ) → i ≤ length (lane p l).instructions → AreNewRows u p known l i (rows_to i)
    are-rows zero le = rows-none u p known l
    are-rows (suc i) le =
        elim (slice_get_cases (lane p l).instructions i).1 [
          | inl there ↦
              subst (λ n. AreNewRows u p known l n (rows_to n)) (sym next)
              (one-more i there.0 there.2 (omega (arith, le)) (are-rows i (omega (arith, le))))
          | inr past ↦ absurd (omega (arith, past.0, le))
        ]
      where
        next : suc i ≡ i + 1
        next = omega arith

    lane-rows : AreNewRows u p known l (length (lane p l).instructions) (new_rows u p known l)
    lane-rows =
        subst (λ xs. AreNewRows u p known l (length (lane p l).instructions)
        (map (new_row u known l) (places_from 1 xs)))
        (take_all (length (lane p l).instructions) (lane p l).instructions (omega arith))
        (are-rows (length (lane p l).instructions) (omega arith))

  -- ---- the rows of all lanes

  are-lanes : (n : ℕ) → n ≤ length p
      → AreNewLanes u p known n (map (new_rows u p known) (range_with_len 0 n))
  are-lanes zero le = lanes-none u p known
  are-lanes (suc n) le =
      subst (λ m. AreNewLanes u p known m (map (new_rows u p known) (range_with_len 0 m)))
      (sym next)
      (lanes-next u p known n (map (new_rows u p known) (range_with_len 0 n))
      (map (new_rows u p known) (range_with_len 0 (n + 1))) (new_rows u p known n)
      (map-range_with_len_more (new_rows u p known) 0 n n (omega arith))
      (are-lanes n (omega (arith, le))) (lane-rows n (omega (arith, le))))
    where
      next : suc n ≡ n + 1
      next = omega arith

  pub new-lanes : AreNewLanes u p known (length p)
      (map (new_rows u p known) (range_with_len 0 (length p)))
  new-lanes = are-lanes (length p) (omega arith)

-- ---- that of an accepted plan

module _ (a : AcceptedPlan) (is : IsAccepted a) where
  are : AreNewLanes a.universe a.plan (known_rows a) (length a.plan)
      (map (new_rows a.universe a.plan (known_rows a)) (range_with_len 0 (length a.plan)))
  are = new-lanes a.universe a.plan (known_rows a) is.sound.universe is.known.keeps

  pub written-shape : IsCertificate a.universe a.plan
      (certificate_by a.universe a.plan (known_rows a) a.order)
  written-shape =
      made-shape a.universe a.plan (known_rows a) a.order _ is.known is.safe is.order are

  pub written-exact : IsCertificateOf a.universe a.plan (known_rows a) a.order
      (certificate_by a.universe a.plan (known_rows a) a.order)
  written-exact =
      made-exact a.universe a.plan (known_rows a) a.order _ is.known is.safe is.order are

  pub written-certifies : Certifies a.universe a.plan
      (certificate_by a.universe a.plan (known_rows a) a.order)
  written-certifies =
      made-certifies a.universe a.plan (known_rows a) a.order _ is.known is.safe is.order are
