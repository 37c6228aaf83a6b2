use Rattle.std.proofs.Common.{sym, ap, ◌∙◌}
use Rattle.deb_relation.specs.Holding.{left_for, told}
use Rattle.deb_relation.proofs.AtomLaws.{alternative-none, alternative-some, starts}
use Rattle.deb_relation.proofs.atom.Atom.parse_for.Goals as goal

pub returns-then-is_empty : goal.returns-then-is_empty
returns-then-is_empty g c =
    let is_arch = g.H.Host.is_arch c.args.host.now in
    let is_active = g.H.Host.is_active c.args.host.now in
    ap (told (left_for is_arch is_active))
    (alternative-none c.args.kind c.args.text.now c.skip_front-text.result.now
    c.skip_front-text.ensures (sym c.is_empty.ensures ∙ c.if-is_empty.true))

pub read_left-requires : goal.read_left-requires
read_left-requires g c =
    starts c.args.kind c.args.text.now c.skip_front-text.result.now c.skip_front-text.ensures

pub returns : goal.returns
returns g c =
    rw (alternative-some c.args.kind c.args.text.now c.skip_front-text.result.now
    c.skip_front-text.ensures (sym c.is_empty.ensures ∙ c.if-is_empty.false)) c.read_left.ensures
