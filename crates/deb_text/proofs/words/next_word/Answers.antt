use Rattle.std.proofs.Common.{sym, ◌∙◌}
use Rattle.std.proofs.lemmas.Bool.{eqb-true, eqb-false}
use Rattle.deb_text.proofs.WordLaws.{word_first, word_none, word_shorter}
use Rattle.deb_text.proofs.words.next_word.Goals as goal

pub returns-then-is_empty-clause-none : goal.returns-then-is_empty-clause-none
returns-then-is_empty-clause-none c =
    word_none c.args.text.now
    (rw c.skip_front-rest.ensures at (eqb-true _ _ (sym c.is_empty.ensures ∙ c.if-is_empty.true)))

pub returns-clause-word : goal.returns-clause-word
returns-clause-word c =
    rw (c.split_front.ensures.front, c.split_front.ensures.rest, c.skip_front-rest.ensures)
    (word_first c.args.text.now (rw c.skip_front-rest.ensures at (eqb-false _ _
    (sym c.is_empty.ensures ∙ c.if-is_empty.false))))

pub returns-clause-shorter : goal.returns-clause-shorter
returns-clause-shorter c =
    rw (c.split_front.ensures.rest, c.skip_front-rest.ensures)
    (word_shorter c.args.text.now (rw c.skip_front-rest.ensures at (eqb-false _ _
    (sym c.is_empty.ensures ∙ c.if-is_empty.false))))
