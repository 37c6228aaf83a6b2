use Rattle.std.proofs.Common.{sym, ap, subst, ◌∙◌}
use Rattle.std.specs.List.{filter}
use Rattle.plan_model.specs.Known.{is_of}
use Rattle.known_rows.specs.Hits.{may_meet}
use Rattle.known_rows.specs.Points.{AreSources}
use Rattle.known_rows.proofs.MetSources.{met_are}
use Rattle.known_rows.proofs.points.when_sources.Goals as goal

pub returns : goal.returns
returns c =
    let u = c.args.supply.universe.now in
    let p = c.args.supply.plan.now.lanes in
    let mark = c.args.mark in
    let test = is_of u c.args.name c.args.relation.now in
    subst (AreSources u p mark.lane mark.place test)
    (sym (c.in_ok-sources.ensures ∙ ap (filter (may_meet mark)) c.deref.ensures.value))
    (met_are u p test mark c.requires.mark.lane_there c.requires.mark.own_is c.in_ok-all.all.items
    (c.in_ok-all.ensures test c.in_ok-row.ensures))
