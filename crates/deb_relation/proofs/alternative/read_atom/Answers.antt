use Rattle.std.proofs.Common.{sym, ◌∙◌}
use Rattle.deb_relation.proofs.AtomLaws.{atom-name, atom-unrestricted}
use Rattle.deb_relation.proofs.alternative.read_atom.Goals as goal

pub returns-then-is_empty : goal.returns-then-is_empty
returns-then-is_empty c =
    rw c.in_ok-unrestricted.ensures
    (atom-name c.args.kind c.args.text.now _ _ c.requires c.in_ok-name.ensures
    (sym c.is_empty.ensures ∙ c.if-is_empty.true))

pub returns-then-is_empty-2 : goal.returns-then-is_empty-2
returns-then-is_empty-2 c =
    let relation = rw c.skip_front.ensures at c.in_ok-relation.ensures in
    rw c.in_ok-unrestricted-2.ensures
    (atom-unrestricted c.args.kind c.args.text.now _ _ _ _ _ _ _ c.requires c.in_ok-name.ensures
    c.in_ok-qualifier.ensures relation c.skip_front-rest.ensures
    (sym c.is_empty-2.ensures ∙ c.if-is_empty-2.true))
