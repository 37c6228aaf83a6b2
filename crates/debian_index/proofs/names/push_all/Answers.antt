use Rattle.std.proofs.Common.{sym, ap, ◌∙◌}
use Rattle.deb_text.specs.Lists.{lists}
use Rattle.debian_index.proofs.SpreadLaws.{all-more}
use Rattle.debian_index.proofs.names.push_all.Goals as goal

pub loop-other-preserved : goal.loop-other-preserved
loop-other-preserved c =
    ap lists c.in_ok-push.ensures.items
    ∙ all-more c.args.names.now.items c.loop-other.names.items c.args.others.now
    c.loop-other.other-index c.other-item.result c.in_ok-from_slice.field-0 c.loop-other-test.true
    c.other-item.is c.loop-other.invariant
    (c.in_ok-from_slice.ensures.items ∙ c.deref.ensures.value)
