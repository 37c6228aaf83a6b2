use Rattle.std.proofs.Common.{ap, arith}
use Rattle.std.proofs.lemmas.Result.{err_from_is_err_and}
use Rattle.deb_text.proofs.StepLaws.{traverse-ends}
use Rattle.farm_answers.specs.Turns.{turn_of, words_from, wrong_word}
use Rattle.farm_answers.proofs.TurnLaws.{lines-go, lines-stop, nothing-before}
use Rattle.farm_answers.proofs.turns.read_lines.Goals as goal

pub loop-content-init : goal.loop-content-init
loop-content-init c = record {
  same = rw c.new-turns.ensures.items
      (nothing-before c.args.plan.now.lanes c.args.text.now);
  in_range = omega arith;
}

pub returns-in_err-read_words : goal.returns-in_err-read_words
returns-in_err-read_words c =
    let p = err_from_is_err_and c.from_residual.result c.from_residual.ensures.1 in
    rw (p.1, p.2)
    (lines-stop c.args.plan.now.lanes wrong_word _ _ _ _ _ _ _ c.in-Some.ensures.line
    c.in_err-read_words.ensures c.loop-content.invariant.same)

pub loop-content-preserved : goal.loop-content-preserved
loop-content-preserved c = record {
  same = lines-go c.args.plan.now.lanes _ _ _ _ _ _ _ c.in-Some.ensures.line
      c.in_ok-read_words.ensures c.loop-content.invariant.same;
  in_range = omega (arith, c.in-Some.ensures.shorter, c.loop-content.invariant.in_range);
}

pub returns : goal.returns
returns c =
    traverse-ends (turn_of c.args.plan.now.lanes) _ _ _
    (ap (words_from c.loop-content.line) c.in_default.ensures.none)
    c.loop-content.invariant.same
