use Rattle.deb_relation.proofs.AtomLaws.{entry-one}
use Rattle.deb_relation.proofs.relations.Entry.judge.Goals as goal

pub returns-in_default : goal.returns-in_default
returns-in_default c =
    rw (entry-one c.args.kind c.args.text.now c.in_default.ensures.none) c.judge_alternative.ensures
