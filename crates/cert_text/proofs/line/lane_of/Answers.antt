use Rattle.std.proofs.Common.{◌≡◌, ◌<◌, false, get_or, [], length, sym, ◌∙◌, arith}
use borrow.Author.Count.{below_more}
use Rattle.std.specs.Str.{bytes_eq}
use Rattle.std.proofs.lemmas.List.{length-map}
use Rattle.plan_reader.proofs.Places.{place-first, place-none}
use Rattle.plan_model.specs.Plan.{Lane}
use Rattle.cert_text.specs.CertLines.{lane_names}
use Rattle.cert_text.proofs.Searches.{lane-name}
use Rattle.cert_text.proofs.line.lane_of.Goals as goal

pub returns-then-eq : goal.returns-then-eq
returns-then-eq c =
    let p = c.args.plan.now.lanes in
    let lt : c.loop-number.number < length (lane_names p) =
    omega (arith, length-map p (λ (of : Lane). of.name), c.lanes-number-end.ensures.lanes) in
    sym (place-first (lane_names p) c.args.name.now c.loop-number.number lt c.loop-number.invariant
    (rw (lane-name p c.loop-number.number, ← c.lane.ensures, ← c.name.ensures)
    (sym c.eq.ensures ∙ c.if-eq.true)))

pub loop-number-preserved : goal.loop-number-preserved
loop-number-preserved c =
    let p = c.args.plan.now.lanes in
    below_more (λ j. bytes_eq c.args.name.now (get_or (lane_names p) j []) ≡ false)
    c.loop-number.number c.loop-number.invariant
    (rw (lane-name p c.loop-number.number, ← c.lane.ensures, ← c.name.ensures)
    (sym c.eq.ensures ∙ c.if-eq.false))

pub returns : goal.returns
returns c =
    let p = c.args.plan.now.lanes in
    sym (place-none (lane_names p) c.args.name.now (λ j lt. c.loop-number.invariant j
    (omega (arith, lt, length-map p (λ (of : Lane). of.name), c.lanes-number-end.ensures.lanes))))
