use Rattle.std.proofs.Common.{sym, ap, ◌∙◌}
use Rattle.deb_relation.specs.Holding.{left_for, told}
use Rattle.deb_relation.proofs.AtomLaws.{atom-name}
use Rattle.deb_relation.proofs.HoldingLaws.{atom-left}
use Rattle.deb_relation.proofs.alternative.read_left.Goals as goal

pub returns-then-is_empty : goal.returns-then-is_empty
returns-then-is_empty g c =
    let is_arch = g.H.Host.is_arch c.args.host.now in
    let is_active = g.H.Host.is_active c.args.host.now in
    rw c.in_ok-unrestricted.ensures
    (ap (told (left_for is_arch is_active))
    (atom-name c.args.kind c.args.text.now _ _ c.requires c.in_ok-name.ensures
    (sym c.is_empty.ensures ∙ c.if-is_empty.true)))

pub returns : goal.returns
returns g c =
    let is_arch = g.H.Host.is_arch c.args.host.now in
    let is_active = g.H.Host.is_active c.args.host.now in
    let relation = rw c.skip_front.ensures at c.in_ok-relation.ensures in
    let hold = rw c.if-not-branch.false at c.in_ok-judge_restrictions.ensures in
    rw c.in_ok-unrestricted-2.ensures
    (atom-left is_arch is_active c.args.kind _ _ _ c.args.text.now _ _ _ _ c.requires
    c.in_ok-name.ensures c.in_ok-qualifier.ensures relation c.skip_front-2.ensures hold)
