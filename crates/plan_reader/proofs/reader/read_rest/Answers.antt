use Rattle.std.proofs.Common.{◌<◌, length, [], sym, ◌∙◌, arith}
use Rattle.std.proofs.lemmas.Result.{err_from_is_err_and}
use Rattle.deb_text.proofs.StepLaws.{place-goes, place-stops, place-ends}
use Rattle.deb_text.specs.Answers.{refusal_of}
use Rattle.plan_reader.proofs.TraceLaws.{fold-ends, fold-goes}
use Rattle.plan_reader.specs.PlanLines.{reading_with}
use Rattle.plan_reader.specs.PlanText.{take_line}
use Rattle.plan_reader.proofs.reader.read_rest.Goals as goal

pub returns-in_err-take_line-clause-reading : goal.returns-in_err-take_line-clause-reading
returns-in_err-take_line-clause-reading c =
    let from = c.from_residual in
    let p = err_from_is_err_and from.result from.ensures.1 in
    let lt : c.loop-i.i < length c.args.lines.now = omega arith in
    rw (p.1, p.2)
    (place-stops (take_line c.args.names.universe.now) refusal_of c.in_err-take_line.field-0.0
    c.args.lines.now c.loop-i.i (0, []) _ _ lt
    (rw (c.number.ensures, c.line.ensures) at c.in_err-take_line.ensures.reading)
    c.loop-i.invariant.reading)

pub loop-i-preserved : goal.loop-i-preserved
loop-i-preserved c =
    let ls = c.args.lines.now in
    let lt : c.loop-i.i < length ls = omega arith in
    record {
      reading = place-goes (take_line c.args.names.universe.now) ls c.loop-i.i (0, []) _ _ _ lt
          (rw (c.number.ensures, c.line.ensures) at c.in_ok-take_line.ensures.reading)
          c.loop-i.invariant.reading;
      lines = fold-goes reading_with ls c.loop-i.i (0, []) _ _ lt
          (rw (c.number.ensures, c.line.ensures) at c.in_ok-take_line.ensures.lines)
          ∙ c.loop-i.invariant.lines;
    }

pub returns : goal.returns
returns c =
    let ls = c.args.lines.now in
    record {
      reading = place-ends (take_line c.args.names.universe.now) ls c.loop-i.i _ _ (omega arith)
          c.loop-i.invariant.reading;
      lines = sym (fold-ends reading_with ls c.loop-i.i _ (omega arith))
          ∙ c.loop-i.invariant.lines;
    }
