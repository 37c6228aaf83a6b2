use Rattle.std.proofs.Common.{◌++◌, ◌∷◌, [], None, ap, ◌∙◌}
use Rattle.known_rows.proofs.HitLaws.{start_none, start_some}
use Rattle.known_rows.proofs.supply.initial_sources.Goals as goal

pub returns-then-not-hits : goal.returns-then-not-hits
returns-then-not-hits c =
    λ test row_is p l i. start_none c.args.supply.universe.now c.requires.supply.sound.universe test
    c.args.supply.archive.now c.args.row.now c.hits.result c.hits.ensures.set
    c.requires.supply.archive_is
    row_is p l i c.new-sources.result.items c.new-sources.ensures.items
    c.if-not-hits.true

pub returns : goal.returns
returns c =
    λ test row_is p l i. start_some c.args.supply.universe.now c.requires.supply.sound.universe test
    c.args.supply.archive.now c.args.row.now c.hits.result c.hits.ensures.set
    c.requires.supply.archive_is
    row_is p l i c.push.new.self.items
    (c.in_ok-push.ensures.items
    ∙ ap (λ xs. xs ++ record { point = None; lane = 0; count = 0 } ∷ [])
    c.new-sources.ensures.items) c.if-not-hits.false
