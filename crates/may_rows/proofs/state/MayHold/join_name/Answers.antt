use Rattle.std.proofs.Common.{sym, ap, ◌∙◌}
use Rattle.may_rows.specs.Words.{may_of, with_slot}
use Rattle.may_rows.proofs.JoinMaps.{name-joined, name-stays}
use Rattle.may_rows.proofs.state.MayHold.join_name.Goals as goal

pub returns-then-last-last_word-clause-map : goal.returns-then-last-last_word-clause-map
returns-then-last-last_word-clause-map c =
    name-stays c.args.universe.now c.args.first.now c.args.self.now c.args.name
    c.requires.first c.requires.words c.requires.phase
    (sym c.here_word-here.ensures ∙ c.if-here-here_word.true ∙ c.here_word.ensures)
    (sym c.last_word-last.ensures ∙ c.if-last-last_word.true ∙ c.last_word.ensures)

pub put-requires-clause-words : goal.put-requires-clause-words
put-requires-clause-words c =
    rw (
      c.here_word-here.ensures,
      c.here_word-2.ensures,
      c.ready_word.ensures,
      c.ready_word-2.ensures,
      c.either_last-last.ensures,
      c.last_word-last.ensures,
      c.last_word-2.ensures,
    )
    (name-joined c.args.universe.now c.args.first.now c.args.self.now c.args.name
    c.requires.first c.requires.words c.requires.phase).0

pub returns-clause-map : goal.returns-clause-map
returns-clause-map c =
    c.put.ensures.map
    ∙ ap (with_slot (may_of c.args.self.now) c.args.name)
    (rw (
      c.here_word-here.ensures,
      c.here_word-2.ensures,
      c.ready_word.ensures,
      c.ready_word-2.ensures,
      c.either_last-last.ensures,
      c.last_word-last.ensures,
      c.last_word-2.ensures,
    )
    (name-joined c.args.universe.now c.args.first.now c.args.self.now c.args.name
    c.requires.first c.requires.words c.requires.phase).1)
