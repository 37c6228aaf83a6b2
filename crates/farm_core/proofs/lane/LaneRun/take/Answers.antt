use Rattle.std.proofs.Common.{Some, sym, subst, ◌∙◌}
use Rattle.farm_model.specs.Packages.{has_bit}
use Rattle.plan_model.specs.Turn.{turn_of}
use Rattle.plan_model.specs.declared.instructions.Instruction.{Instruction}
use Rattle.plan_model.specs.declared.instructions.Instruction.TheVariants.{Configure}
use Rattle.farm_core.specs.Lanes.{shown}
use Rattle.farm_core.specs.Turns.{MeetsNone}
use Rattle.farm_core.proofs.Picked.{newest-known}
use Rattle.farm_core.proofs.lane.LaneRun.take.Goals as goal

pub unpack_found-requires-clause-known : goal.unpack_found-requires-clause-known
unpack_found-requires-clause-known c = λ b found.
    newest-known c.args.universe.now _ c.in-Unpack.name _ b (sym c.newest-found.ensures ∙ found)

pub configure-requires-clause-free : goal.configure-requires-clause-free
configure-requires-clause-free c =
    let meets = λ (x : Instruction). MeetsNone c.args.traps
    (turn_of c.args.universe.now (has_bit c.args.archive.now.words) c.args.lane.now
    (shown c.args.self.now) (Some x)) in
    subst (λ members. meets (Configure members)) (sym c.as_slice.ensures)
    (subst meets c.in-Configure.is c.requires.free)
