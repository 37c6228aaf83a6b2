-- What is read without a fault keeps to the limits and is a plan of its universe.
use Rattle.std.proofs.Common.{◌≡◌, ℕ, ◌<◌, ◌^◌, false, List, length, refl, subst, arith, Some, Result, Ok, Err, IfOk, All}
use Rattle.std.specs.Prelude.{slice_get}
use Rattle.std.proofs.lemmas.List.Elements.{All-nil, All-weaker}
use Rattle.std.proofs.lemmas.Option.{get_or_from_slice_get, slice_get_within}
use Rattle.deb_text.specs.Common.{Gives, refusal_of, Line}
use Rattle.deb_text.specs.declared.fault.Fault.{Fault}
use Rattle.farm_model.specs.Common.{names, IsUniverse, Universe}
use Rattle.plan_model.specs.Common.{Lane, Plan, lane, no_lane, has_double, IsInstruction, IsPlan}
use Rattle.plan_model.specs.declared.instructions.Instruction.{Instruction}
use Rattle.plan_model.specs.declared.instructions.Instruction.TheVariants.{Unpack, Configure, Deconfigure, Remove, Build, Publish, Wait, When, Otherwise, EndWhen}
use Rattle.plan_reader.specs.Drafts.{Reading, unread, all_lanes, instructions_of, published}
use Rattle.plan_reader.specs.CountedPlan.{CountedPlan}
use Rattle.plan_reader.specs.Ends.{IsWithinLimits}
use Rattle.plan_reader.specs.PlanText.{reading_of, plan_of}
use Rattle.deb_text.proofs.CarriedLaws.{always, has-ok}
use Rattle.plan_reader.specs.Forms.{Form, form_at}
use Rattle.plan_reader.proofs.BranchLaws.{IsWhole, IsWholeReading, unread-whole, leads-branched, take-whole}
use Rattle.plan_reader.proofs.DraftLaws.{IsGood, IsGoodBlock, IsGoodLane, IsGoodReading, take_form-has}
use Rattle.plan_reader.proofs.FormLaws.{IsForm, form-has}
use Rattle.plan_reader.proofs.Publishes.{once-in}
use Rattle.plan_reader.proofs.TextLaws.{reading-has, plan-has}

-- an instruction of a plan speaks of what there is
good-instruction : (u : Universe) → length u.names ≡ names u → (x : Instruction) → IsGood u x
    → IsInstruction u x
good-instruction u listed (Unpack name wanted) good = rw listed at good
good-instruction u listed (Configure members) good =
    record { known = rw listed at good.0; distinct = good.1 }
good-instruction u listed (Deconfigure members) good =
    record { known = rw listed at good.0; distinct = good.1 }
good-instruction u listed (Remove members) good =
    record { known = rw listed at good.0; distinct = good.1 }
good-instruction u listed (Build r) good = good
good-instruction u listed (Publish r) good = good
good-instruction u listed (Wait e) good = tt
good-instruction u listed (When name wanted) good = rw listed at good
good-instruction u listed Otherwise good = tt
good-instruction u listed EndWhen good = tt

-- what a text without a fault stands for
record IsGoodPlan (u : Universe) (p : Plan) : Type 0 where
  lanes : All (IsGoodLane u) p
  once : has_double (published (instructions_of p)) ≡ false

module _ (u : Universe) where
  -- ---- lines

  unread-good : IsGoodReading u unread
  unread-good = record {
    blocks = All-nil (IsGoodBlock u);
    lanes = All-nil (IsGoodLane u);
    few = omega arith;
    small = omega arith;
    once = refl;
  }

  good-read : (r : Reading) → IsGoodReading u r
      → IsWithinLimits (all_lanes r.draft.lanes r.draft.current)
  good-read r good = record {
    lanes = good.few;
    instructions = good.small;
    budgets = All-weaker (IsGoodLane u) (λ (l : Lane). l.budget < 10 ^ 15) (λ l h. h.budget)
        (all_lanes r.draft.lanes r.draft.current) good.lanes;
  }

  -- lines that were read without a fault
  pub draft-read : (ls : List Line) (r : Reading) → reading_of u ls ≡ Ok r
      → IsWithinLimits (all_lanes r.draft.lanes r.draft.current)
  draft-read ls r is =
      good-read r (has-ok (IsGoodReading u) (reading_of u ls) r
      (reading-has u IsForm (IsGoodReading u) form-has (take_form-has u) unread-good ls) is)

  -- ---- a text

  text-has : (text : List ℕ) → IfOk (plan_of u text) (IsGoodPlan u)
  text-has =
      plan-has u IsForm (IsGoodReading u) form-has (take_form-has u) unread-good (IsGoodPlan u)
      (λ bs ls s good. record { lanes = good.lanes; once = good.once })

  -- its branches are whole
  pub branches-has : (text : List ℕ)
      → IfOk (plan_of u text) (All (λ (l : Lane). IsWhole l.instructions))
  branches-has =
      plan-has u (λ (form : Form). Unit {0}) IsWholeReading (λ line. always (form_at line))
      (take-whole u) unread-whole (All (λ (l : Lane). IsWhole l.instructions))
      (λ bs ls s whole. whole.lanes)

  -- ---- a plan

  good-at : (p : Plan) → All (IsGoodLane u) p → (l i : ℕ) (x : Instruction) → l < length p
      → slice_get (lane p l).instructions i ≡ Some x → IsGood u x
  good-at p good l i x lt is =
      let xs = (lane p l).instructions in
      subst (IsGood u) (get_or_from_slice_get xs i x x is)
      ((good l no_lane lt).instructions i x (slice_get_within xs i x is))

  good-plan : (p : Plan) → length u.names ≡ names u → IsGoodPlan u p
      → All (λ (l : Lane). IsWhole l.instructions) p → IsPlan u p
  good-plan p listed good whole = record {
    bases = λ l lt. (good.lanes l no_lane lt).base;
    instructions = λ l i x lt is. good-instruction u listed x (good-at p good.lanes l i x lt is);
    branched = λ l lt. leads-branched (lane p l).instructions (whole l no_lane lt);
    published_once = λ l k i j r l_lt k_lt at_l at_k.
        once-in p l k i j r good.once l_lt k_lt at_l at_k;
  }

  plan-sound : (text : List ℕ) (p : Plan) → plan_of u text ≡ Ok p → IsUniverse u → IsPlan u p
  unfolding names
  plan-sound text p is sound =
      good-plan p sound.listed (has-ok (IsGoodPlan u) (plan_of u text) p (text-has text) is)
      (has-ok (All (λ (l : Lane). IsWhole l.instructions)) (plan_of u text) p
      (branches-has text) is)

  -- a plan that was read over a sound universe
  pub gives-sound : (text : List ℕ) (r : Result CountedPlan Fault)
      → Gives refusal_of (λ p. p.lanes) r (plan_of u text)
      → IfOk r (λ p. IsUniverse u → IsPlan u p.lanes)
  gives-sound text (Ok p) gives = plan-sound text p.lanes gives
  gives-sound text (Err e) gives = tt
