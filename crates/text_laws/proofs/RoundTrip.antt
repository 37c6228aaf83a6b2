-- A plan that was read is the plan of its listing.
use Rattle.std.proofs.Common.{All}
use Rattle.deb_text.proofs.CarriedLaws.{has-ok}
use Rattle.text_laws.proofs.Again.{listing-again}
use Rattle.text_laws.proofs.Drafts.{IsListedPlan}
use Rattle.text_laws.proofs.Kept.{plan-has}
use Rattle.text_laws.specs.Laws.{ListingIsReadAgain}
use Rattle.plan_reader.specs.PlanText.{plan_of}
use Rattle.plan_reader.proofs.BranchLaws.{IsWhole}
use Rattle.plan_reader.proofs.Kept.{branches-has}
use Rattle.plan_model.specs.Plan.{Lane}

pub listing_is_read_again : ListingIsReadAgain
listing_is_read_again u text p is within =
    listing-again u p (has-ok (IsListedPlan u) (plan_of u text) p (plan-has u text) is)
    (has-ok (All (λ (l : Lane). IsWhole l.instructions)) (plan_of u text) p
    (branches-has u text) is)
    within
