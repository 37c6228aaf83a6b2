-- What `graph --needs` and `graph --of` answer to four texts. The project's own rules. How needs are
-- drawn, and how a name is refused, is tested, and not said here.
--
--   ShowsNeeds      of a verdict: the status where needs are drawn, or where no lane builds a recipe
--                   of one of the names; or the refusal
--   AnswersNeeds    that this text and this status are what is answered
use Rattle.std.specs.Prelude.{ℕ, Bool, List, Result, Ok, Err}
use Rattle.std.specs.Borrow.{Bor}
use Rattle.std.specs.Option.{is_none}
use Rattle.farm_answers.specs.Answers.{ShowsVerdict, planned_in, status_of}
use Rattle.farm_commands.specs.Pictures.{IsStatus}
use Rattle.plan_reader.specs.Input.{Texts}
use Rattle.plan_verifier.specs.Accepted.{AcceptedPlan}
use Rattle.plan_verifier.specs.Verdict.{IsVerdict}
use Rattle.plan_verifier.specs.declared.refusal.Refusal.{Refusal}
use Rattle.timeline_pictures.specs.Built.{first_unbuilt}

abbrev pub ShowsNeeds : Bool → List (Bor (List ℕ)) → Result AcceptedPlan Refusal → List ℕ → ℕ
    → Type 0
ShowsNeeds json names (Ok a) text status =
    IsStatus (status_of (is_none (first_unbuilt a.universe a.plan names))) text status
ShowsNeeds json names (Err refusal) text status = ShowsVerdict json (Err refusal) text status

-- that of a verdict on the texts
abbrev pub AnswersNeeds : Bool → List (Bor (List ℕ)) → Texts → List ℕ → ℕ → Type 0
AnswersNeeds json names texts text status =
    (verdict : Result AcceptedPlan Refusal) × IsVerdict (planned_in texts) verdict
    × ShowsNeeds json names verdict text status
