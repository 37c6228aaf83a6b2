use Rattle.std.proofs.Common.{◌≡◌, ◌≤◌, ◌+◌, length, ap, ◌∙◌, subst, IfOk}
use Rattle.std.specs.Prelude.{OnOk}
use Rattle.cert_text.proofs.PlaceLists.{length-places}
use Rattle.cert_text.proofs.reader.read_lane.Goals as goal

pub returns-clause-count : goal.returns-clause-count
returns-clause-count c =
    let long = ap length (c.deref.ensures.value ∙ c.in_ok-numbers.ensures)
    ∙ length-places c.args.lane.now in
    subst (λ n. IfOk c.read_rows.result (λ rows. length rows.items ≡ n)) long
    c.read_rows.ensures.count

pub returns-clause-there : goal.returns-clause-there
returns-clause-there c =
    let long = ap length (c.deref.ensures.value ∙ c.in_ok-numbers.ensures)
    ∙ length-places c.args.lane.now in
    subst (λ n. OnOk c.read_rows.result (c.args.start + n ≤ length c.args.source.lines.now)) long
    c.read_rows.ensures.there
