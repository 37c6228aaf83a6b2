use Rattle.std.proofs.Common.{ap, ◌∙◌}
use Rattle.deb_text.proofs.ListLaws.{lists-push}
use Rattle.deb_text.specs.Lists.{lists}
use Rattle.known_rows.specs.KnownRows.{rows_of}
use Rattle.plan_cert.proofs.NewRows.{lanes-next}
use Rattle.plan_cert.proofs.maker.all_rows.Goals as goal

pub loop-number-preserved : goal.loop-number-preserved
loop-number-preserved c =
    let known = c.args.making.known.now in
    lanes-next known.universe known.plan (rows_of known) c.loop-number.number
    (lists c.loop-number.lanes.items) (lists c.push.new.self.items) c.in_ok-lane_rows.field-0.items
    (ap lists c.in_ok-push.ensures.items ∙ lists-push c.loop-number.lanes.items
    c.in_ok-lane_rows.field-0)
    c.loop-number.invariant c.in_ok-lane_rows.ensures
