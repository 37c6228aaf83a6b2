-- The state of a farm as it is printed, and what a schedule comes to. The project's own format.
--
--   published_text, held_text     a publication; what a chroot holds of a name
--   lane_lines                    a lane by its parts: place, cost, chroot
--   lane_text, state_text         a lane in its state; a state
--   step_text                     what a schedule comes to
use Rattle.std.specs.Prelude.{ℕ, List, [], ◌++◌, length, codes, Option, Some, None}
use Rattle.std.specs.List.{flat_map, range_with_len}
use Rattle.chroot_state.specs.declared.phase.Phase.{Phase}
use Rattle.chroot_state.specs.declared.phase.Phase.TheVariants.{Absent as IsAbsent, Unpacked as IsUnpacked, Configured as IsConfigured}
use Rattle.farm_archive.specs.declared.publication.Publication.{Publication}
use Rattle.farm_archive.specs.Kept.{numbered}
use Rattle.farm_core.specs.Farm.{Farm}
use Rattle.farm_core.specs.declared.schedule.Stop.{Stop}
use Rattle.farm_model.specs.Common.{Chroot, slot, used, names, variant, trap_text, Universe}
use Rattle.farm_model.specs.declared.types.Variant.{Variant}
use Rattle.farm_model.specs.declared.types.Slot.{Slot}
use Rattle.farm_model.specs.declared.types.Slot.TheVariants.{Absent, Unpacked, Configured}
use Rattle.plan_model.specs.Common.{Plan, Lane, lane, State, lane_state, LaneState}
use Rattle.plan_reader.specs.Variants.{version_of}
use Rattle.plan_reader.specs.Listing.{name_of_number}
use Rattle.farm_report.specs.AnswerLines.{counted_line, trap_line, published_line, at_line, variant_line}

-- a publication, with its serial
abbrev pub published_text : Universe → Plan → Publication → List ℕ
published_text u p q =
    published_line q.serial (lane p q.lane).name (name_of_number u q.variant.name)
    (version_of u q.variant)

-- the phase of what is present; what is absent has none
abbrev pub phase_word : Phase → List ℕ
phase_word IsAbsent = []
phase_word IsUnpacked = codes "unpacked"
phase_word IsConfigured = codes "configured"

-- a present variant, in this phase
abbrev pub present_variant_text : Universe → Variant → Phase → List ℕ
present_variant_text u v phase = variant_line (name_of_number u v.name) (version_of u v)
    (phase_word phase)

-- what a chroot holds of a name; nothing of one that is absent
abbrev pub held_text : Universe → ℕ → Slot → List ℕ
held_text u n Absent = []
held_text u n (Unpacked b last) = present_variant_text u (variant n b) IsUnpacked
held_text u n (Configured b) = present_variant_text u (variant n b) IsConfigured

-- how many instructions of a lane of this name are done, what they have cost, and the disk space
-- that its chroot takes, in KiB; then what the chroot holds, by the number of the name
abbrev pub lane_lines : Universe → List ℕ → ℕ → ℕ → Chroot → List ℕ
lane_lines u name done spent chroot =
    at_line name done spent (used u chroot)
    ++ flat_map (λ n. held_text u n (slot chroot n)) (range_with_len 0 (names u))

-- a lane in this state
abbrev pub lane_text : Universe → Lane → LaneState → List ℕ
lane_text u of st = lane_lines u of.name st.done st.spent st.chroot

-- what was published, by serial, and then the lanes in file order
abbrev pub state_text : Universe → Plan → State → List ℕ
state_text u p s =
    flat_map (published_text u p) (numbered 0 s.published)
    ++ flat_map (λ l. lane_text u (lane p l) (lane_state s l)) (range_with_len 0 (length p))

-- a trap, where it was met
abbrev pub trapped_text : Plan → Stop → List ℕ
trapped_text p stop =
    trap_line stop.step (lane p stop.lane).name stop.instruction (trap_text stop.trap)

-- `ran N`, N being the length of the schedule, or its trap
abbrev pub end_text : Plan → Option Stop → ℕ → List ℕ
end_text p None count = counted_line (codes "ran") count
end_text p (Some stop) count = trapped_text p stop

-- how a schedule of this length ended, and the state that it led to
abbrev pub step_text : Farm → Option Stop → ℕ → List ℕ
step_text f stop count =
    end_text f.plan.lanes stop count ++ state_text f.universe f.plan.lanes f.state
