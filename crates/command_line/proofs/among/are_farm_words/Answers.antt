use Rattle.std.proofs.Common.{sym, ◌∙◌}
use Rattle.command_line.proofs.WordLaws.{is-word}
use Rattle.command_line.proofs.among.are_farm_words.Goals as goal

pub returns : goal.returns
returns g c h =
    let text_of = g.S.AsStr.text in
    let words = c.args.words.now in
    let paths = c.args.paths in
    record {
      packages = is-word text_of words paths.packages.now
          (sym c.is_word.ensures ∙ c.if-not-is_word.false);
      sources = is-word text_of words paths.sources.now
          (sym c.is_word-2.ensures ∙ c.if-not-is_word-2.false);
      farm = is-word text_of words paths.farm.now (sym c.is_word-3.ensures ∙ h);
    }
