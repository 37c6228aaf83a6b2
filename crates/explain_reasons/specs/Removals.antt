-- The warnings of what `remove` may leave unpacked with an entry that nothing meets; dpkg refuses
-- such a removal without force (dpkg(1), `--force-depends`). The project's own format. Parameters:
-- u a universe, p a plan, rows what its lanes know, l a lane, i a place.
--
--   place_hazard, lane_hazard   the hazard of a place and a lane's first one, as they are told
--   left_of                     the entries that an instruction may leave unmet
--   looked_at                   how many instructions of a lane are looked at
--   lane_left, left_warnings    what a lane and all lanes may leave
use Rattle.std.specs.Prelude.{ℕ, ◌+◌, List, [], length, Option, Some, None, option_map, option_to_list, slice_get}
use Rattle.farm_model.specs.Universe.{Universe}
use Rattle.farm_model.specs.declared.types.Trap.{Trap}
use Rattle.plan_model.specs.Common.{Rows, May, may_at, Plan, lane, instruction_at, Hazard, Meets, Parts, hazard_at}
use Rattle.plan_model.specs.declared.instructions.Instruction.{Instruction}
use Rattle.plan_model.specs.declared.instructions.Instruction.TheVariants.{Remove}
use Rattle.plan_verifier.specs.Walk.{place_told}
use Rattle.explain_reasons.specs.Listed.{all_below, first_below}
use Rattle.explain_reasons.specs.Reasons.{needing}
use Rattle.explain_reasons.specs.declared.along.LaneHazard.{LaneHazard}
use Rattle.explain_reasons.specs.declared.held.Phase.{Phase}
use Rattle.explain_reasons.specs.declared.along.Left.{Left}
use Rattle.explain_reasons.specs.declared.types.Reason.{Reason}

-- the trap that may be met, none of branches that part
abbrev pub trap_of : Hazard → Option Trap
trap_of (Meets trap) = Some trap
trap_of Parts = None

-- a hazard with its place: branches that part are told by the number of their `when`
abbrev pub told : Plan → (l i : ℕ) → Hazard → LaneHazard
told p l i hazard =
    record { place = i; instruction = place_told p l i hazard + 1; trap = trap_of hazard }

abbrev pub place_hazard : Universe → Plan → Rows → (l i : ℕ) → Option LaneHazard
place_hazard u p rows l i = option_map (told p l i) (hazard_at u p rows l i)

abbrev pub lane_hazard : Universe → Plan → Rows → ℕ → Option LaneHazard
lane_hazard u p rows l =
    first_below (length (lane p l).instructions) (place_hazard u p rows l)

-- of what stays unpacked, where a removed member may satisfy them; none of another instruction
abbrev pub left_of : Universe → May → Option Instruction → List Reason
left_of u m (Some (Remove members)) = needing u Phase.Unpacked Phase.Present members m
left_of u m _ = []

-- of the first entry that the instruction at a place may leave
abbrev pub place_left : Universe → Plan → Rows → (l i : ℕ) → List Left
place_left u p rows l i =
    option_to_list (option_map (λ reason. record { lane = l; place = i; reason = reason })
    (slice_get (left_of u (may_at u p rows l i) (instruction_at p l i)) 0))

-- so many instructions of a lane: all, or up to and with that of its first hazard
abbrev pub looked_at : Plan → ℕ → Option LaneHazard → ℕ
looked_at p l None = length (lane p l).instructions
looked_at p l (Some it) = it.place + 1

abbrev pub lane_left : Universe → Plan → Rows → ℕ → List Left
lane_left u p rows l =
    all_below (looked_at p l (lane_hazard u p rows l)) (place_left u p rows l)

-- lane by lane, in file order
unfoldable pub left_warnings : Universe → Plan → Rows → List Left
left_warnings u p rows = all_below (length p) (lane_left u p rows)
