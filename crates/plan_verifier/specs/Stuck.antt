-- How stuck lanes are told.
use Rattle.std.specs.Prelude.{◌≡◌, ℕ, List, map}
use Rattle.deb_text.specs.Lists.{lists}
use Rattle.plan_model.specs.Plan.{Plan, lane}
use Rattle.plan_verifier.specs.declared.refusal.Refusal.{Refusal}
use Rattle.plan_verifier.specs.declared.refusal.Refusal.TheVariants.{Stuck, Memory}

-- by their names, unless memory ran out
abbrev pub IsToldStuck : Plan → List ℕ → Refusal → Type 0
IsToldStuck p lanes (Stuck names) = lists names.items ≡ map (λ l. (lane p l).name) lanes
IsToldStuck p lanes Memory = Unit {0}
IsToldStuck p lanes other = ⊥
