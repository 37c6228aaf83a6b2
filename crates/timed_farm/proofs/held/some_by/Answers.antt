use Rattle.std.proofs.Common.{subst}
use Rattle.plan_model.specs.Run.{archive}
use Rattle.farm_lookup.specs.Candidates.{HasAll}
use Rattle.timed_farm.proofs.HeldUp.{none_by}
use Rattle.timed_farm.proofs.held.some_by.Goals as goal

pub returns : goal.returns
returns c = λ none.
    let u = c.args.core.now.universe in
    none_by u c.args.candidates.now (archive u c.args.core.now.state.published)
    c.args.entry.now c.args.atom.now c.named.result.now c.requires
    (subst (λ text. HasAll c.args.candidates.now text c.named.result.now) c.name.ensures
    c.named.ensures)
    (c.some_has.ensures none)
