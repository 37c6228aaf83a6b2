-- The listing of a plan (the project's own format) is read again as that plan: a law over texts and
-- the definition of what a text says, so that no instruction can be dropped by reader and writer
-- alike.
use Rattle.std.specs.Prelude.{◌≡◌, ◌≤◌, ℕ, List, length, Ok}
use Rattle.deb_stanza.specs.declared.error.TheConstants.{MOST_BYTES}
use Rattle.farm_model.specs.Universe.{Universe}
use Rattle.plan_reader.specs.Listing.{listing_of}
use Rattle.plan_reader.specs.PlanText.{plan_of}
use Rattle.plan_model.specs.Plan.{Plan}

-- each plan that some text stands for is the plan of its listing, where that is no longer than a
-- text may be
abbrev pub ListingIsReadAgain : Type 0
ListingIsReadAgain = (u : Universe) (text : List ℕ) (p : Plan) → plan_of u text ≡ Ok p
    → length (listing_of u p) ≤ MOST_BYTES → plan_of u (listing_of u p) ≡ Ok p
