use Rattle.std.proofs.Common.{sym, ap, ◌∙◌}
use Rattle.deb_relation.specs.Field.{only_judged}
use Rattle.deb_relation.proofs.AtomLaws.{atom-name}
use Rattle.deb_relation.proofs.alternative.judge_atom.Goals as goal

pub returns-then-is_empty : goal.returns-then-is_empty
returns-then-is_empty c =
    ap only_judged
    (atom-name c.args.kind c.args.text.now _ _ c.requires c.in_ok-rest.ensures
    (sym c.is_empty.ensures ∙ c.if-is_empty.true))
