use Rattle.std.proofs.Common.{◌≡◌, ◌+◌, ◌-◌, ◌<◌, true, [], ◌∷◌, length, get_or, sym, ap, subst, ◌∙◌, arith}
use Rattle.std.proofs.lemmas.List.{length-append}
use Rattle.cert_text.specs.Certificates.{lane_rows, IsNewRow}
use Rattle.plan_model.specs.Known.{teaches}
use Rattle.sat_rows.specs.Rows.{IsRowOf}
use Rattle.plan_cert.proofs.PlaceLaws.{extended_push, row_push}
use Rattle.plan_cert.specs.Stated.{listed_rows}
use Rattle.plan_cert.proofs.StatedLaws.{next-quiet, next-learns, row-there, row-quiet, row-listed, listed-new}
use Rattle.plan_cert.proofs.stated.add_row.Goals as goal

pub returns-then-not-teaches-clause-used : goal.returns-then-not-teaches-clause-used
returns-then-not-teaches-clause-used c =
    c.requires.used
    ∙ sym (next-quiet c.args.stating.plan.now.lanes c.args.at.number c.args.at.place
    c.args.at.instruction.now
    c.requires.at (sym c.teaches.ensures ∙ c.if-not-teaches.true))

pub returns-then-not-teaches-clause-row : goal.returns-then-not-teaches-clause-row
returns-then-not-teaches-clause-row c =
    row-quiet c.args.stating.universe.now c.args.stating.plan.now.lanes
    c.args.stating.certificate.now
    c.args.stating.certificate_is c.args.at.number c.args.at.place c.args.before
    c.args.at.instruction.now
    c.args.rows.now.items c.requires.at (sym c.teaches.ensures ∙ c.if-not-teaches.true)
    c.requires.before

pub bounds-lane_rows-used : goal.bounds-lane_rows-used
bounds-lane_rows-used c =
    let p = c.args.stating.plan.now.lanes in
    let l = c.args.at.number in
    let there = row-there p l c.args.at.place c.args.at.instruction.now c.requires.at
    (sym c.teaches.ensures ∙ c.if-not-teaches.false) in
    omega (
      arith,
      there,
      c.requires.used,
      ap length c.lane_rows.ensures,
      c.args.stating.certificate_is.counts l c.requires.lane,
    )

pub returns-clause-more : goal.returns-clause-more
returns-clause-more c =
    let u = c.args.stating.universe.now in
    let p = c.args.stating.plan.now.lanes in
    let l = c.args.at.number in
    let there = row-there p l c.args.at.place c.args.at.instruction.now c.requires.at
    (sym c.teaches.ensures ∙ c.if-not-teaches.false) in
    let k : c.args.used < length (lane_rows c.args.stating.certificate.now l) =
    omega (arith, there, c.requires.used, c.args.stating.certificate_is.counts l c.requires.lane) in
    extended_push u c.args.rows.now.items c.push.new.self.items c.in_ok-clone.field-0
    c.in_ok-push.ensures.items
    (subst (IsNewRow u) (sym c.in_ok-clone.ensures.cases)
    (listed-new u p c.args.stating.certificate.now c.args.stating.certificate_is l c.args.used
    c.index-lane_rows-used.result k
    (c.index-lane_rows-used.is
    ∙ ap (λ rows. get_or rows c.args.used c.index-lane_rows-used.result) c.lane_rows.ensures)))

pub returns-clause-used : goal.returns-clause-used
returns-clause-used c =
    let more = next-learns c.args.stating.plan.now.lanes c.args.at.number c.args.at.place
    c.args.at.instruction.now c.requires.at (sym c.teaches.ensures ∙ c.if-not-teaches.false) in
    omega (arith, more, c.requires.used)

pub returns-clause-row : goal.returns-clause-row
returns-clause-row c =
    let u = c.args.stating.universe.now in
    let p = c.args.stating.plan.now.lanes in
    let l = c.args.at.number in
    let cert = c.args.stating.certificate.now in
    let learnt : teaches c.args.at.instruction.now ≡ true = sym c.teaches.ensures
    ∙ c.if-not-teaches.false in
    let there = row-there p l c.args.at.place c.args.at.instruction.now c.requires.at learnt in
    let k : c.args.used < length (lane_rows cert l) =
    omega (arith, there, c.requires.used, c.args.stating.certificate_is.counts l c.requires.lane) in
    row_push u (listed_rows p cert l (c.args.at.place + 1)) c.args.rows.now.items
    c.push.new.self.items c.in_ok-clone.field-0 (c.len.result - 1) c.in_ok-push.ensures.items
    (let n = ap length c.in_ok-push.ensures.items in
    let a = length-append c.args.rows.now.items (c.in_ok-clone.field-0 ∷ []) in
    omega (arith, n, a, c.len.ensures))
    (subst (IsRowOf u (listed_rows p cert l (c.args.at.place + 1)))
    (sym c.in_ok-clone.ensures.cases)
    (row-listed u p cert c.args.stating.certificate_is l c.args.at.place c.args.used
    c.args.at.instruction.now c.index-lane_rows-used.result c.requires.at learnt c.requires.used k
    (c.index-lane_rows-used.is
    ∙ ap (λ rows. get_or rows c.args.used c.index-lane_rows-used.result) c.lane_rows.ensures)))
