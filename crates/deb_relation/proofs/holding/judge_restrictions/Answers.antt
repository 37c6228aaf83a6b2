use Rattle.std.proofs.Common.{refl, sym, ◌∙◌}
use Rattle.deb_relation.proofs.AtomLaws.{limits-none}
use Rattle.deb_relation.proofs.holding.judge_restrictions.Goals as goal

pub returns-then-is_empty : goal.returns-then-is_empty
returns-then-is_empty g c =
    rw (limits-none c.args.kind c.args.text.now (sym c.is_empty.ensures ∙ c.if-is_empty.true)) refl
