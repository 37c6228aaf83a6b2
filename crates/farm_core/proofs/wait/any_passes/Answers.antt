use Rattle.std.proofs.Common.{sym, ◌∙◌, arith}
use Rattle.farm_core.proofs.Waits.{passes_at}
use Rattle.farm_core.proofs.wait.any_passes.Goals as goal

pub returns-then-some_satisfies : goal.returns-then-some_satisfies
returns-then-some_satisfies c =
    sym
    (passes_at c.args.universe.now c.args.archive.now.words c.args.entry.now c.loop-name.name
    c.word.result (omega (arith, c.names-name-end.ensures.number)) c.word.ensures
    (sym c.some_satisfies.ensures ∙ c.if-some_satisfies.true))
