use Rattle.std.proofs.Common.{sym, ap, ◌∙◌}
use Rattle.std.specs.Str.{str_to_ascii_lowercase}
use Rattle.deb_text.proofs.ListLaws.{bytes-self}
use Rattle.deb_stanza.specs.Stanza.{same_name}
use Rattle.deb_stanza.proofs.fields.is_same_name.Goals as goal

pub returns-then-is_same_text : goal.returns-then-is_same_text
returns-then-is_same_text c =
    sym (ap (same_name c.args.a.now) (sym (c.is_same_text.ensures.0 c.if-is_same_text.true))
    ∙ bytes-self (str_to_ascii_lowercase c.args.a.now))
