use Rattle.std.proofs.Common.{length, sym, subst, ◌∙◌}
use Rattle.known_rows.specs.EntrySources.{AreMarkNumbers, AreAllSources}
use Rattle.known_rows.specs.Marks.{AreLanes}
use Rattle.known_rows.proofs.EntryLaws.{all_there, found_for}
use Rattle.known_rows.proofs.points.points.Goals as goal

pub stock_of-requires-clause-lanes : goal.stock_of-requires-clause-lanes
stock_of-requires-clause-lanes g c =
    subst (AreLanes c.args.universe.now c.args.plan.now.lanes) (sym c.as_slice-lanes.ensures.value)
    c.requires.lanes

pub named_entries-requires : goal.named_entries-requires
named_entries-requires g c =
    all_there c.args.universe.now c.args.plan.now.lanes c.as_slice-all.result.now
    (c.as_slice-all.ensures.value ∙ c.requires.marks)

pub points_by-requires-clause-marks : goal.points_by-requires-clause-marks
points_by-requires-clause-marks g c = c.as_slice-all.ensures.value ∙ c.requires.marks

pub points_by-requires-clause-sources : goal.points_by-requires-clause-sources
points_by-requires-clause-sources g c =
    let u = c.args.universe.now in
    let p = c.args.plan.now.lanes in
    let marks = c.as_slice-all.result.now in
    let es = c.in_ok-named.named.entries in
    found_for u p es c.deref-2.result.now marks c.deref.result.now
    (subst (λ numbers. AreMarkNumbers p es marks numbers (length marks)) (sym c.deref.ensures.value)
    c.in_ok-named.ensures)
    (subst (AreAllSources u p es) (sym c.deref-2.ensures.value) c.in_ok-sources.ensures)
