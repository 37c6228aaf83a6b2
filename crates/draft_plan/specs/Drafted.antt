-- What is promised of a drafted plan. The project's own rules.
--
--   IsDrafted       a text is a plan that is accepted, and is what was wanted
--   SaysEnd         the first line of a text has a number as its last word
--   Answers         what is answered where this is wanted
--   AnswersSketch   the same of a sketch, or of the first fault of the texts
--   AnswersNumber   the same of a number of lanes
use Rattle.std.specs.Prelude.{◌≡◌, ℕ, Bool, false, List, [], Result, Ok, Err}
use Rattle.std.specs.Fmt.{decimal}
use Rattle.deb_text.specs.Common.{is_byte, after_last, before}
use Rattle.deb_text.specs.declared.fault.Fault.{Fault}
use Rattle.draft_plan.specs.Follows.{Follows}
use Rattle.draft_plan.specs.Wished.{Wanted}
use Rattle.plan_reader.specs.Input.{Texts}
use Rattle.plan_reader.specs.Planned.{FarmPlan, planned_of}
use Rattle.farm_model.specs.Universe.{Universe}
use Rattle.plan_model.specs.Promise.{IsSafe}
use Rattle.plan_verifier.specs.Accepted.{AcceptedPlan}
use Rattle.plan_verifier.specs.Verdict.{IsVerdict}
use Rattle.draft_plan.specs.declared.drafted.Drafted.{Drafted}
use Rattle.draft_plan.specs.declared.drafted.Drafted.TheVariants.{Plan as PlanText, Refused, Wrong, Failed}
use Rattle.draft_plan.specs.Wanted.{by_sketch, by_number}
use Rattle.timed_run.specs.Beginning.{from_start}
use Rattle.timed_run.specs.declared.event.Event.{Event}
use Rattle.timed_run.specs.Timed.{IsTimedRun}

-- Of a text that is drafted over packages, sources and a farm, some recipes being left out:
pub record IsDrafted (texts : Texts) (w : Wanted) (left text : List ℕ) (end : ℕ) : Type 0 where
  pub accepted : AcceptedPlan
  -- it is accepted, as a check of these four texts accepts it,
  pub verdict : IsVerdict (planned_of texts.packages texts.sources texts.farm text) (Ok accepted)
  -- so that no interleaving of its lanes goes wrong;
  pub safe : IsSafe accepted.universe accepted.plan
  -- it is what was wanted, but for what is left out;
  pub follows : Follows w left accepted.plan
  -- and this is when its timed run ends.
  pub events : List Event
  pub time : IsTimedRun accepted.universe accepted.plan
      (from_start accepted.universe accepted.plan) events end

abbrev pub SaysEnd : List ℕ → ℕ → Type 0
SaysEnd text end = after_last (is_byte 32) (before (is_byte 10) text) ≡ decimal end

-- of an accepted plan that is what was wanted, when its timed run ends
abbrev pub IsEnd : Wanted → List ℕ → AcceptedPlan → ℕ → Type 0
IsEnd w left a end =
    Follows w left a.plan × (events : List Event)
    × IsTimedRun a.universe a.plan (from_start a.universe a.plan) events end

-- a plan whose first line says when it ends, and of which something is left out only where that is
-- asked for; of a refusal nothing is said
abbrev pub Answers : Texts → Bool → Wanted → Drafted → Type 0
Answers texts partial w (PlanText text left told end) =
    IsDrafted texts w left.items text.items end × SaysEnd text.items end
    × (partial ≡ false → left.items ≡ [])
Answers texts partial w (Refused lines) = Unit {0}
Answers texts partial w (Wrong fault) = ⊥
Answers texts partial w Failed = Unit {0}

-- no plan where the texts have a fault, and that is the first
abbrev pub AnswersFault : Fault → Drafted → Type 0
AnswersFault fault (PlanText text left told end) = ⊥
AnswersFault fault (Refused lines) = Unit {0}
AnswersFault fault (Wrong told) = told ≡ fault
AnswersFault fault Failed = ⊥

-- what is answered to a sketch, which is the last of the texts
abbrev pub AnswersSketch : Texts → (rest partial : Bool) → Result FarmPlan Fault → Drafted → Type 0
AnswersSketch texts rest partial (Ok of) told =
    Answers texts partial (by_sketch rest of.universe of.plan) told
AnswersSketch texts rest partial (Err fault) told = AnswersFault fault told

-- what is answered to a number of lanes
abbrev pub AnswersNumber : Texts → (lanes : ℕ) → (partial : Bool) → Result Universe Fault → Drafted
    → Type 0
AnswersNumber texts lanes partial (Ok u) told = Answers texts partial (by_number u lanes) told
AnswersNumber texts lanes partial (Err fault) told = AnswersFault fault told
