use Rattle.std.proofs.Common.{sym, ap, ◌∙◌}
use Rattle.deb_relation.specs.Field.{only_judged}
use Rattle.deb_relation.proofs.AtomLaws.{alternative-none, alternative-some, starts}
use Rattle.deb_relation.proofs.atom.Atom.judge.Goals as goal

pub returns-then-is_empty : goal.returns-then-is_empty
returns-then-is_empty c =
    ap only_judged (alternative-none c.args.kind c.args.text.now c.skip_front-text.result.now
    c.skip_front-text.ensures (sym c.is_empty.ensures ∙ c.if-is_empty.true))

pub judge_atom-requires : goal.judge_atom-requires
judge_atom-requires c =
    starts c.args.kind c.args.text.now c.skip_front-text.result.now c.skip_front-text.ensures

pub returns : goal.returns
returns c =
    rw (alternative-some c.args.kind c.args.text.now c.skip_front-text.result.now
    c.skip_front-text.ensures (sym c.is_empty.ensures ∙ c.if-is_empty.false)) c.judge_atom.ensures
