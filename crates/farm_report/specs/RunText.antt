-- A run of all lanes that came to its end, as it is printed. The project's own format. Parameters:
-- u a universe, p a plan, chroots and spent what its lanes hold and what they have spent, in steps,
-- in file order.
--
--   lane_end_text     a lane at its end
--   run_text          a run that came to its end
use Rattle.std.specs.Prelude.{ℕ, List, [], ◌++◌, length, codes, Option, Some, None, slice_get, slice_index_or}
use Rattle.std.specs.List.{flat_map, range_with_len}
use Rattle.chroot_state.specs.Held.{Held}
use Rattle.farm_archive.specs.declared.publication.Publication.{Publication}
use Rattle.farm_model.specs.Universe.{Universe}
use Rattle.plan_model.specs.Plan.{Plan, Lane, lane}
use Rattle.farm_report.specs.StateText.{published_text, lane_lines}

-- a lane that has done all its instructions, with this chroot and this cost
abbrev pub lane_done_text : Universe → Lane → Option Held → ℕ → List ℕ
lane_done_text u of None spent = []
lane_done_text u of (Some c) spent =
    lane_lines u of.name (length of.instructions) spent c.slots

-- lane l at its end
abbrev pub lane_end_text : Universe → Plan → List Held → List ℕ → ℕ → List ℕ
lane_end_text u p chroots spent l =
    lane_done_text u (lane p l) (slice_get chroots l) (slice_index_or spent l 0)

-- `finished`, what was published, by serial, and then the lanes in file order
abbrev pub run_text : Universe → Plan → List Held → List ℕ → List Publication → List ℕ
run_text u p chroots spent history =
    codes "finished\n" ++ (flat_map (published_text u p) history
    ++ flat_map (lane_end_text u p chroots spent) (range_with_len 0 (length p)))
