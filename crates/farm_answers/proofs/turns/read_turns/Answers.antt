use Rattle.std.proofs.Common.{subst, Err, ◌≡◌, ◌∙◌}
use Rattle.deb_text.specs.Steps.{traverse}
use Rattle.farm_answers.specs.Turns.{PlacedWord, turn_of, turns_of, words_in}
use Rattle.farm_answers.proofs.turns.read_turns.Goals as goal

pub returns-in-Err-NoLane-clause-refused : goal.returns-in-Err-NoLane-clause-refused
unfolding turns_of
returns-in-Err-NoLane-clause-refused c =
    let turn = c.in-Err-NoLane.turn in
    let word : PlacedWord = (turn.line, turn.place, turn.word.now) in
    let is : traverse (turn_of c.args.plan.now.lanes) (words_in c.deref.result.now) ≡ Err word =
    rw c.in-Err-NoLane.field-0-is at c.in-Err-NoLane.ensures in (
      word,
      subst (λ text. traverse (turn_of c.args.plan.now.lanes) (words_in text) ≡ Err word)
          (c.deref.ensures.value ∙ c.in_ok-spaced.ensures) is,
    )
