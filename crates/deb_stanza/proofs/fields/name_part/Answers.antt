use Rattle.std.proofs.Common.{sym}
use Rattle.deb_text.proofs.CutLaws.{before-none}
use Rattle.deb_stanza.specs.Stanza.{is_colon}
use Rattle.deb_stanza.proofs.fields.name_part.Goals as goal

pub returns-in-None : goal.returns-in-None
returns-in-None c = sym (before-none is_colon c.args.text.now c.in-None.ensures.none)
