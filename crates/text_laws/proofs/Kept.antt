-- A plan that was read is one that can be listed.
use Rattle.std.proofs.Common.{ℕ, List, refl, arith, IfOk}
use Rattle.std.proofs.lemmas.List.Elements.{All-nil}
use Rattle.farm_model.specs.Universe.{Universe}
use Rattle.plan_reader.specs.Drafts.{unread}
use Rattle.plan_reader.specs.PlanText.{plan_of}
use Rattle.plan_reader.proofs.TextLaws as text
use Rattle.text_laws.proofs.Drafts.{IsListedPlan, IsListedBlock, IsListedReading, IsListedForm, form-has, take-has}

module _ (u : Universe) where
  unread-listed : IsListedReading u unread
  unread-listed = record {
    blocks = All-nil (IsListedBlock u);
    lanes = tt;
    current = record { once = refl; few = omega arith };
  }

  pub plan-has : (text : List ℕ) → IfOk (plan_of u text) (IsListedPlan u)
  plan-has =
      text.plan-has u IsListedForm (IsListedReading u) form-has (take-has u) unread-listed
      (IsListedPlan u) (λ bs ls s is. record { lanes = is.lanes; fits = is.current })
