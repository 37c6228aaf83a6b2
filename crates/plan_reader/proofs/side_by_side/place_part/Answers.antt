use Rattle.std.proofs.Common.{[], get_or, ◌∙◌, arith}
use Rattle.std.specs.Vec.Iter.{into_iter_items}
use Rattle.std.proofs.lemmas.Result.{err_from_is_err_and}
use Rattle.deb_text.proofs.StepLaws.{place-goes, place-stops}
use Rattle.deb_text.specs.Answers.{refusal_of}
use Rattle.plan_reader.specs.PlanText.{take_line}
use Rattle.plan_reader.proofs.PartLaws.{first-said}
use Rattle.plan_reader.proofs.TraceLaws.{fold-goes}
use Rattle.plan_reader.specs.PlanLines.{reading_with}
use Rattle.plan_reader.proofs.side_by_side.place_part.Goals as goal

pub returns-in_err-place_line-clause-reading : goal.returns-in_err-place_line-clause-reading
returns-in_err-place_line-clause-reading c =
    let u = c.args.universe.now in
    let ls = c.args.lines.now in
    let at = c.loop-read.at in
    let said = first-said u ls at c.in-Some.read (into_iter_items c.next.new.self)
    (rw c.in-Some.ensures.steps.0 at c.loop-read.invariant.rest) in
    let p = err_from_is_err_and c.from_residual.result c.from_residual.ensures.1 in
    rw (p.1, p.2)
    (place-stops (take_line u) refusal_of c.in_err-place_line.field-0.0 ls at (0, []) _ _ said.0
    (rw c.number.ensures at
    (c.in_err-place_line.ensures.reading (get_or ls at (0, [])).1 said.1))
    c.loop-read.invariant.steps)

pub overflow_add-at : goal.overflow_add-at
overflow_add-at c =
    let said = first-said c.args.universe.now c.args.lines.now c.loop-read.at c.in-Some.read
    (into_iter_items c.next.new.self)
    (rw c.in-Some.ensures.steps.0 at c.loop-read.invariant.rest) in
    let lt = said.0 in omega (arith, lt)

pub loop-read-preserved : goal.loop-read-preserved
loop-read-preserved c =
    let u = c.args.universe.now in
    let ls = c.args.lines.now in
    let at = c.loop-read.at in
    let kept = c.loop-read.invariant in
    let said = first-said u ls at c.in-Some.read (into_iter_items c.next.new.self)
    (rw c.in-Some.ensures.steps.0 at kept.rest) in
    let count = rw c.in-Some.ensures.steps.0 at kept.count in
    record {
      count = omega (arith, count);
      rest = said.2;
      steps = place-goes (take_line u) ls at (0, []) _ _ _ said.0
          (rw c.number.ensures at
          (c.in_ok-place_line.ensures.reading (get_or ls at (0, [])).1 said.1))
          kept.steps;
      lines = fold-goes reading_with ls at (0, []) _ _ said.0
          (rw c.number.ensures at
          (c.in_ok-place_line.ensures.lines (get_or ls at (0, [])).1 said.1))
          ∙ kept.lines;
    }
