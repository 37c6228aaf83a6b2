use Rattle.std.proofs.Common.{sym}
use Rattle.deb_text.specs.Bytes.{is_byte}
use Rattle.cross_laws.specs.Names.{dot}
use Rattle.cross_relations.proofs.NameLaws.{after_last-none}
use Rattle.cross_relations.proofs.names.mark_of.Goals as goal

pub returns-in-None : goal.returns-in-None
returns-in-None c = sym (after_last-none (is_byte dot) c.args.name.now c.in-None.ensures.none)
