-- The certificate of a plan by its greatest known rows: it has the shape of one, and certifies.
use Rattle.std.proofs.Common.{◌≡◌, ℕ, suc, ◌+◌, ◌<◌, ◌≤◌, Bool, true, false, not, ◌&&◌, ◌||◌, List, [], length, Some, All, count_by, inl, inr, refl, sym, ap, subst, ◌∙◌, arith}
use Rattle.std.specs.Cmp.{both_ways as same_tests}
use Rattle.std.proofs.lemmas.Bool.{or_cases, or_left, cases_lt, cases_Bool, false≢true}
use Rattle.std.proofs.lemmas.List.{get_or_past, take_all}
use Rattle.std.proofs.lemmas.List.Elements.{All-nil}
use Rattle.std.proofs.lemmas.Option.{slice_get_cases, slice_get_within}
use Rattle.cert_text.specs.Certificates.{Certificate, lane_rows, IsNewRow, IsCertificate}
use Rattle.farm_model.specs.Common.{Universe, initial}
use Rattle.farm_model.specs.declared.types.Variant.{Variant}
use Rattle.plan_model.specs.Common.{Rows, row_before, IsGreatest, teaches, IsOrder, Plan, lane, instruction_at, IsSafeUnder}
use Rattle.plan_model.specs.declared.instructions.Instruction.{Instruction}
use Rattle.plan_verifier.specs.Accepted.{AcceptedPlan, IsAccepted, known_rows}
use Rattle.verdict_laws.proofs.Kept.{greatest_is_carried}
use Rattle.verdict_laws.proofs.Quiet.{adds_nothing}
use Rattle.verdict_laws.proofs.RowBefore.{row_before-le, each_place}
use Rattle.verdict_laws.specs.Agreeing.{Agree}
use Rattle.plan_cert.proofs.CheckLaws.{keeps-alike, safe-alike}
use Rattle.plan_cert.proofs.HeldLaws.{held-learns}
use Rattle.plan_cert.proofs.OrderLaws.{order-in-plan}
use Rattle.plan_cert.proofs.StatedLaws.{next-learns, stated-quiet}
use Rattle.plan_cert.specs.Certified.{Certifies}
use Rattle.plan_cert.specs.Made.{IsCertificateOf, AreNewLanes}
use Rattle.plan_cert.specs.Stated.{rows_before, held_at, last_row_lists, stated_rows}

-- the initial archive, and what is known besides
joined : (k s : Bool) → (s ≡ true → k ≡ true) → k ≡ (s || (k && not s))
joined true true h = refl
joined true false h = refl
joined false true h = h refl
joined false false h = refl

module _ (u : Universe) (p : Plan) (known : Rows) (order : List ℕ) (lanes : List (List (List ℕ)))
    (greatest : IsGreatest u p known) (safe : IsSafeUnder u p known)
    (is_order : IsOrder u p order) (are : AreNewLanes u p known (length p) lanes) where
  abbrev made : Certificate
  made = record { rows = lanes; order = order }

  pub made-shape : IsCertificate u p made
  made-shape =
      record {
        lanes = are.long;
        counts = λ l lt. (are.each l lt).counted
            ∙ ap (count_by teaches)
            (take_all (length (lane p l).instructions) (lane p l).instructions (omega arith));
        rows = λ l. elim (cases_lt l (length p)) [
          | inl lt ↦ (are.each l lt).new
          | inr past ↦ subst (All (IsNewRow u))
              (sym (get_or_past lanes l [] (omega (arith, past, are.long)))) (All-nil (IsNewRow u))
        ];
        order = order-in-plan u p order is_order;
      }

  pub made-exact : IsCertificateOf u p known order made
  made-exact =
      record {
        greatest = greatest;
        rows = λ l i x lt at learnt.
            (are.each l lt).each i x (slice_get_within (lane p l).instructions i x at) at learnt;
        order = refl;
      }

  -- what it states is what is known
  quiet-same : (l i : ℕ) (v : Variant) (x : Instruction) → l < length p
      → instruction_at p l i ≡ Some x → teaches x ≡ false
      → known l (suc i) v ≡ known l (row_before p l i x) v
  quiet-same l i v x lt at quiet =
      same_tests (known l (suc i) v) (known l (row_before p l i x) v)
      (λ e. elim (greatest.keeps.after l i x v lt at e) [
        | inl old ↦ old
        | inr new ↦ absurd (adds_nothing u p known l i v x quiet new)
      ])
      ((greatest_is_carried u p known greatest).kept l i x v lt at)

  abbrev IsSameAt : ℕ → ℕ → Type 0
  IsSameAt l i = (v : Variant) → l < length p → i ≤ length (lane p l).instructions
      → known l i v ≡ stated_rows u p made l i v

  -- one instruction further, of its row or of none
  next-same : (l i : ℕ) (v : Variant) (x : Instruction) → l < length p
      → suc i ≤ length (lane p l).instructions → instruction_at p l i ≡ Some x
      → IsSameAt l (row_before p l i x) → known l (suc i) v ≡ stated_rows u p made l (suc i) v
  next-same l i v x lt le at same =
      elim (cases_Bool (teaches x)) [
        | inl learnt ↦
            let count : suc (rows_before p l i) ≡ (held_at p l (suc i)).here =
            omega (
              arith,
              ap (rows_before p l) next,
              next-learns p l i x at learnt,
              held-learns p l i x at learnt,
            ) in
            joined (known l (suc i) v) (initial u v)
            ((greatest_is_carried u p known greatest).initial_known l (suc i) v lt le)
            ∙ ap (λ b. initial u v || b) (sym (made-exact.rows l i x lt at learnt v))
            ∙ ap (λ k. initial u v || last_row_lists (lane_rows made l) k v) count
        | inr quiet ↦
            quiet-same l i v x lt at quiet
            ∙ same v lt (let b = row_before-le p l i x in omega (arith, b, le))
            ∙ sym (stated-quiet u p made made-shape l i x v at quiet)
      ]
    where
      next : suc i ≡ i + 1
      next = omega arith

  same-start : (l : ℕ) → IsSameAt l 0
  same-start l v lt le =
      same_tests (known l 0 v) (initial u v || false)
      (λ e. or_left (initial u v) false (greatest.keeps.at_start l v lt e))
      (λ e. elim (or_cases (initial u v) false e) [
        | inl here ↦ (greatest_is_carried u p known greatest).initial_known l 0 v lt le here
        | inr none ↦ absurd (false≢true none)
      ])

  same-next : (l i : ℕ) → ((k : ℕ) → k ≤ i → IsSameAt l k) → IsSameAt l (suc i)
  same-next l i before v lt le =
      elim (slice_get_cases (lane p l).instructions i).1 [
        | inl there ↦
            next-same l i v there.0 lt le there.2
            (before (row_before p l i there.0) (row_before-le p l i there.0))
        | inr past ↦ absurd (omega (arith, past.0, le))
      ]

  stated-same : Agree p known (stated_rows u p made)
  stated-same l i v lt le = each_place (IsSameAt l) (same-start l) (same-next l) i v lt le

  pub made-certifies : Certifies u p made
  made-certifies =
      record {
        keeps = keeps-alike u p known (stated_rows u p made) stated-same greatest.keeps;
        safe = safe-alike u p known (stated_rows u p made) stated-same safe;
        order = is_order;
      }

-- that of an accepted plan
module _ (a : AcceptedPlan) (is : IsAccepted a) (lanes : List (List (List ℕ)))
    (are : AreNewLanes a.known.universe a.known.plan (known_rows a) (length a.known.plan) lanes)
  where
    abbrev of : Certificate
    of = record { rows = lanes; order = a.order }

    about : AreNewLanes a.universe a.plan (known_rows a) (length a.plan) lanes
    about =
        subst (λ p. AreNewLanes a.universe p (known_rows a) (length p) lanes) is.about.1
        (subst (λ u. AreNewLanes u a.known.plan (known_rows a)
        (length a.known.plan) lanes) is.about.0
        are)

    pub accepted-shape : IsCertificate a.universe a.plan of
    accepted-shape =
        made-shape a.universe a.plan (known_rows a) a.order lanes is.known is.safe is.order about

    pub accepted-exact : IsCertificateOf a.universe a.plan (known_rows a) a.order of
    accepted-exact =
        made-exact a.universe a.plan (known_rows a) a.order lanes is.known is.safe is.order about

    pub accepted-certifies : Certifies a.universe a.plan of
    accepted-certifies =
        made-certifies a.universe a.plan
        (known_rows a) a.order lanes is.known is.safe is.order about
