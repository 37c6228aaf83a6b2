use Rattle.std.proofs.Common.{sym, ◌∙◌}
use Rattle.farm_core.proofs.Waits.{passes_at}
use Rattle.farm_core.proofs.wait.named_passes.Goals as goal

pub returns-then-some_satisfies : goal.returns-then-some_satisfies
returns-then-some_satisfies c = λ _.
    passes_at c.args.universe.now c.args.archive.now.words c.args.entry.now c.in-Some.name
    c.word.result c.in-Some.ensures.within c.word.ensures
    (sym c.some_satisfies.ensures ∙ c.if-some_satisfies.true)
