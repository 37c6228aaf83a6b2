use Rattle.std.proofs.Common.{ap, arith}
use Rattle.std.proofs.lemmas.Result.{err_from_is_err_and}
use Rattle.deb_text.proofs.StepLaws.{traverse-goes, traverse-stops, traverse-ends}
use Rattle.farm_answers.specs.Turns.{placed_from, turn_of, wrong_word}
use Rattle.farm_answers.proofs.turns.read_words.Goals as goal

pub returns-in_err-read_turn : goal.returns-in_err-read_turn
returns-in_err-read_turn c =
    let p = err_from_is_err_and c.from_residual.result c.from_residual.ensures.1 in
    rw (p.1, p.2)
    (traverse-stops (turn_of c.args.plan.now.lanes) wrong_word _ _ _ _ _ _
    (ap (placed_from c.args.line c.loop-word.place) c.in-Some.ensures.word)
    c.in_err-read_turn.ensures c.loop-word.invariant.same)

pub loop-word-preserved : goal.loop-word-preserved
loop-word-preserved c = record {
  same = rw c.in_ok-push.ensures.items
      (traverse-goes (turn_of c.args.plan.now.lanes) _ _ _ _ _ _
      (ap (placed_from c.args.line c.loop-word.place) c.in-Some.ensures.word)
      c.in_ok-read_turn.ensures c.loop-word.invariant.same);
  in_range = omega (arith, c.in-Some.ensures.shorter, c.loop-word.invariant.in_range);
}

pub returns : goal.returns
returns c =
    traverse-ends (turn_of c.args.plan.now.lanes) _ _ _
    (ap (placed_from c.args.line c.loop-word.place) c.in_default.ensures.none)
    c.loop-word.invariant.same
