use Rattle.std.proofs.Common.{ap, ◌∙◌}
use Rattle.deb_text.specs.Words.{words}
use Rattle.deb_profile.proofs.WordLaws.{no-words}
use Rattle.deb_profile.proofs.word_list.ProfileSet.none.Goals as goal

pub returns : goal.returns
returns c = ap words c.new.ensures.items ∙ no-words
