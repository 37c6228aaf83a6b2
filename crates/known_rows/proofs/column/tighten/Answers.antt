use Rattle.known_rows.proofs.Falls.{tighten-above, tighten-stable}
use Rattle.known_rows.proofs.column.tighten.Goals as goal

pub returns-then-limit-x-clause-above : goal.returns-then-limit-x-clause-above
returns-then-limit-x-clause-above c = tighten-above _ _ c.args.points.now c.args.x.now c.args.w _
    c.index-points-w.result c.requires.placed c.requires.long c.requires.there c.index-points-w.is
    c.bound-limit.ensures

pub returns-clause-stable : goal.returns-clause-stable
returns-clause-stable c e p is = tighten-stable _ _ c.args.points.now c.args.x.now c.args.w _
    c.index-points-w.result p c.requires.there c.index-points-w.is c.bound-limit.ensures
    c.if-limit-x.false is
