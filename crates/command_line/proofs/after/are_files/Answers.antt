use Rattle.std.proofs.Common.{map, sym, ◌∙◌}
use Rattle.command_line.proofs.WordLaws.{ends-word, is-word}
use Rattle.command_line.proofs.after.are_files.Goals as goal

pub returns : goal.returns
returns g c h = record {
  paths = c.are_words.ensures c.if-not-are_words.false;
  journal = ends-word g.S.AsStr.text c.args.words.now c.args.files.journal.now
      (sym c.ends_word.ensures ∙ c.if-not-ends_word.false);
  folder = is-word g.S.AsStr.text c.args.words.now c.args.files.folder.now
      (sym c.is_word.ensures ∙ c.if-not-is_word.false);
  given = c.are_given.ensures h;
}
