-- What `explain --cert` answers: a fault of the texts of the farm as `verify-cert` does; else what
-- that does, and lines below it, of which nothing is said here. The project's own rules.
--
--   ExplainsCert        the text and the status, by what the texts of the farm stand for
--   AnswersExplainCert  that this text and this status are what `explain --cert` answers
use Rattle.std.specs.Prelude.{◌≡◌, ℕ, List, ◌++◌, Result, Ok, Err}
use Rattle.deb_text.specs.declared.fault.Fault.{Fault}
use Rattle.farm_answers.specs.Answers.{planned_in}
use Rattle.farm_answers.specs.CertAnswers.{Verifies}
use Rattle.plan_reader.specs.Input.{Texts}
use Rattle.plan_reader.specs.Planned.{FarmPlan}

abbrev pub ExplainsCert : List ℕ → Result FarmPlan Fault → List ℕ → ℕ → Type 0
ExplainsCert cert (Ok of) text status =
    (first : List ℕ) × (rest : List ℕ) × Verifies cert (Ok of) first status
    × (text ≡ first ++ rest)
ExplainsCert cert (Err fault) text status = Verifies cert (Err fault) text status

abbrev pub AnswersExplainCert : List ℕ → Texts → List ℕ → ℕ → Type 0
AnswersExplainCert cert texts text status = ExplainsCert cert (planned_in texts) text status
