use Rattle.std.proofs.Common.{not, sym, ap, ◌∙◌}
use Rattle.plan_reader.proofs.WordTests.{words_all}
use Rattle.plan_reader.proofs.form.are_words.Goals as goal

pub returns : goal.returns
returns c = ap not c.has_outside_words.ensures ∙ sym (words_all c.args.text.now)
