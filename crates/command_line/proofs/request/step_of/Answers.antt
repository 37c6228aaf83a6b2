use Rattle.std.proofs.Common.{map, rules, sym, ◌∙◌}
use Rattle.command_line.proofs.WordLaws.{ends-word}
use Rattle.command_line.proofs.request.step_of.Goals as goal

pub returns-then-not-ends_word-clause-refused : goal.returns-then-not-ends_word-clause-refused
returns-then-not-ends_word-clause-refused g c = c.not_there.ensures (map g.S.AsStr.text c.args.words.now)

pub returns-then-text-list-clause-asked : goal.returns-then-text-list-clause-asked
returns-then-text-list-clause-asked g c = (
  ends-word g.S.AsStr.text c.args.words.now c.unwrap_or-text.result.now
      (sym c.ends_word.ensures ∙ c.if-not-ends_word.false),
  c.requires.paths,
)

pub returns-in-Ok-clause-asked : goal.returns-in-Ok-clause-asked
returns-in-Ok-clause-asked g c =
    let text = c.unwrap_or-text.result.now in (
      (
        text,
        ends-word g.S.AsStr.text c.args.words.now text
            (sym c.ends_word.ensures ∙ c.if-not-ends_word.false),
        search rules,
      ),
      c.requires.paths,
    )

pub returns-in-Err-BadSchedule-clause-refused : goal.returns-in-Err-BadSchedule-clause-refused
returns-in-Err-BadSchedule-clause-refused g c =
    let text = c.unwrap_or-text.result.now in (
      text,
      ends-word g.S.AsStr.text c.args.words.now text
          (sym c.ends_word.ensures ∙ c.if-not-ends_word.false),
      search rules,
    )
