use Rattle.std.proofs.Common.{sym, ◌∙◌, rules}
use Rattle.explain_lanes.proofs.Hazards.{first_of, is_second}
use Rattle.explain_lanes.proofs.lanes.push_told.Goals as goal

pub push_phases-requires : goal.push_phases-requires
push_phases-requires g c =
    let it = first_of c.requires.stage c.args.at.lane c.args.hazard c.requires.hazard in
    let branched = c.requires.stage.sound.plan.branched c.args.at.lane
    (rw c.requires.same at c.args.at.in_plan) in
    let second = is_second c.in-Ok.ensures.1 (it.parts c.in_default-trap.is) branched in
    let same = sym c.in-Second.is ∙ second.2 in
    cc (same, second.3)

pub unreachable-requires : goal.unreachable-requires
unreachable-requires g c =
    let it = first_of c.requires.stage c.args.at.lane c.args.hazard c.requires.hazard in
    let branched = c.requires.stage.sound.plan.branched c.args.at.lane
    (rw c.requires.same at c.args.at.in_plan) in
    let second = is_second c.in-Ok.ensures.1 (it.parts c.in_default-trap.is) branched in
    c.in_default-branch.not-Second second.0 second.1 second.2

pub unreachable-requires-in_default-copied : goal.unreachable-requires-in_default-copied
unreachable-requires-in_default-copied g c =
    let it = first_of c.requires.stage c.args.at.lane c.args.hazard c.requires.hazard in
    let some = c.in_ok-found.ensures.there (sym it.risk ∙ c.in-Some.is) in
    search rules
