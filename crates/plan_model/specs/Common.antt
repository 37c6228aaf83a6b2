-- The names of this crate that others cite, passed on from one place. Declares nothing.
pub use Rattle.plan_model.specs.Branches.{InFirst, InSecond, IsBranched, Outside, Side, home, landing_before, may_stand, past_else, past_end, second_of, side_at, side_behind, side_behind_some}
unfoldable pub use Rattle.plan_model.specs.Branches.{landing}
pub use Rattle.plan_model.specs.Plan.{Lane, Plan, Ways, build_cost, else_place, events_of, instruction_at, lane, lane_outputs, next_place, no_lane, outputs_before, outputs_of, publish_cost, set_cost, size_cost, unpack_cost, wait_cost, ways, ways_ahead}
unfoldable pub use Rattle.plan_model.specs.Plan.{capacity, count}
pub use Rattle.plan_model.specs.Turn.{Ends, Fails, Gives, Goes, LaneState, Turn, Waits, first_only, given, no_builds, over_budget, passes, past, past_build, past_when, publish_traps, publishes, start_lane, turn_of, unless, unless_trapped, unpacks, was_built, with_built}
unfoldable pub use Rattle.plan_model.specs.Turn.{has_wanted, newest}
pub use Rattle.plan_model.specs.Run.{Blocked, Ending, Finished, Moved, Outcome, Publication, Reachable, Run, State, Stop, Trapped, Unknown, lane_state, no_state, outcome, play, play_on, publication, result_of, start}
unfoldable pub use Rattle.plan_model.specs.Run.{archive, is_finished, step}
pub use Rattle.plan_model.specs.Known.{Adds, Follows, IsFact, IsGreatest, KeepsRows, Rows, gives, initial_rows, is_of, published_by, publishing, row_before, teaches, within_reach}
unfoldable pub use Rattle.plan_model.specs.Known.{possible}
pub use Rattle.plan_model.specs.May.{Bits, May, MayAbsent, MayConfigured, MaySlot, MayUnpacked, all_of, all_satisfy, any_of, greatest_size, is_some_of, is_surely_configured, is_surely_present, is_surely_unpacked, may_have, may_have_configured, may_hold, may_hold_configured, may_size, some_name, some_of, some_other_name, surely_configured, surely_holds, surely_pre_meets}
unfoldable pub use Rattle.plan_model.specs.May.{may_use, surely_met, surely_met_with, surely_pre_met}
pub use Rattle.plan_model.specs.Allowed.{Allows, AllowsAll, AllowsLast, allows_absent, allows_configured, allows_unpacked, once, unknown}
pub use Rattle.plan_model.specs.Risk.{build_risks, configure_risks, deconfigure_risks, greatest_cost, may_exceed, publish_risks, remove_risks, risk, some_may_member, unpack_risk, unpack_risks, unpack_risks_by}
unfoldable pub use Rattle.plan_model.specs.Risk.{candidates, may_be_needed, may_be_unsettled, may_meet, surely_met_outside}
pub use Rattle.plan_model.specs.Join.{both_built, either, either_last, is_same_phase, joined_may, joined_slot}
unfoldable pub use Rattle.plan_model.specs.Join.{phases_differ}
pub use Rattle.plan_model.specs.MayAt.{Maps, maps_at, maps_behind, maps_behind_some, may_after, may_at, may_base, may_base_slot, may_be_configured, may_be_deconfigured, may_be_last, may_change, may_unpack, start_maps}
unfoldable pub use Rattle.plan_model.specs.MayAt.{lane_cost}
pub use Rattle.plan_model.specs.Safety.{Hazard, IsAnnotation, IsFirstUnsafe, IsSafeUnder, Meets, Parts, hazard_of, parts_of, risk_of}
unfoldable pub use Rattle.plan_model.specs.Safety.{hazard_at, risk_at}
pub use Rattle.plan_model.specs.Order.{AreStuck, Board, CannotEnd, Give, IsAtRest, IsOrder, OrderItem, Pass, Reaches, board_after, items_of, on_board, rest_of, start_board}
unfoldable pub use Rattle.plan_model.specs.Order.{items}
pub use Rattle.plan_model.specs.World.{IsAfterSteps, IsShown, Shows, World, goes_on, is_after_step, is_archive_step, is_behind_step, is_place_after_step, is_publish, nothing, ready, settled, start_world, with_bit, world_after, world_lane}
unfoldable pub use Rattle.plan_model.specs.World.{archive_step}
pub use Rattle.plan_model.specs.Sound.{IsInstruction, IsNameSet, IsPlan, IsSound, has_double}
pub use Rattle.plan_model.specs.Promise.{IsSafe}
pub use Rattle.plan_model.specs.Foreseen.{IsForeseen, IsWithinBudget, PlaysSafely}
