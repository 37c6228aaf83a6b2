-- Verdicts as objects, whose members stand in the order of their names. The project's own format.
-- Parameter: a an accepted plan.
--
--   verdict_members verdict   the members of a verdict
--   check_line verdict        the line of a verdict
use Rattle.std.specs.Prelude.{ℕ, zero, suc, List, [], ◌∷◌, ◌++◌, length, codes, Result, Ok, Err}
use Rattle.shown_text.specs.Texts.{answer_line}
use Rattle.plan_model.specs.Common.{lane_cost, count, lane}
use Rattle.plan_verifier.specs.Accepted.{AcceptedPlan, known_rows}
use Rattle.plan_verifier.specs.declared.refusal.Refusal.{Refusal}
use Rattle.serde_json.specs.Data.{Data, Members, array, member, object}
use Rattle.serde_json.specs.View.{items_of}
use Rattle.farm_answers.specs.Refusals.{name_member, number_data, refusal_members, verdict_member}

-- the values of the numbers below n, from 0 up
abbrev pub data_below : ℕ → (ℕ → Data) → List Data
data_below zero f = []
data_below (suc n) f = data_below n f ++ f n ∷ []

-- a lane, with its cost and its budget
abbrev pub lane_data : AcceptedPlan → ℕ → Data
lane_data a l =
    object (member (codes "budget") (number_data (lane a.plan l).budget)
    (member (codes "cost") (number_data (lane_cost a.universe a.plan (known_rows a) l))
    (name_member (lane a.plan l).name)))

-- in file order
abbrev pub lanes_data : AcceptedPlan → Data
lanes_data a = array (items_of (data_below (length a.plan) (lane_data a)))

abbrev pub accepted_members : AcceptedPlan → Members
accepted_members a =
    member (codes "count") (number_data (count a.universe a.plan))
    (member (codes "lanes") (lanes_data a) (verdict_member (codes "accepted")))

abbrev pub verdict_members : Result AcceptedPlan Refusal → Members
verdict_members (Ok a) = accepted_members a
verdict_members (Err refusal) = refusal_members refusal

abbrev pub check_line : Result AcceptedPlan Refusal → List ℕ
check_line verdict = answer_line (object (verdict_members verdict))
