use Rattle.std.proofs.Common.{sym, ap, ◌∙◌, ◌++◌, ◌∷◌, []}
use Rattle.deb_text.specs.Lists.{lists}
use Rattle.debian_index.specs.Names.{any, joined}
use Rattle.debian_index.proofs.SpreadLaws.{spread-nil, spread-more}
use Rattle.debian_index.proofs.names.spread.Goals as goal

pub loop-tail-preserved : goal.loop-tail-preserved
loop-tail-preserved c =
    let first = c.in_ok-joined.field-0 in
    let second = c.in_ok-joined-2.field-0 in
    ap lists (c.in_ok-push-2.ensures.items ∙ ap (λ vs. vs ++ second ∷ []) c.in_ok-push.ensures.items)
    ∙ spread-more c.args.part.now c.args.tails.now c.loop-tail.names.items c.loop-tail.tail-index
    c.tail-item.result first second c.loop-tail-test.true c.tail-item.is c.loop-tail.invariant
    (c.in_ok-joined.ensures ∙ ap (joined c.args.part.now) c.deref.ensures.value)
    (c.in_ok-joined-2.ensures ∙ ap (joined any) c.deref-in-loop-tail.ensures.value)

pub loop-tail-init : goal.loop-tail-init
loop-tail-init c = ap lists c.new-names.ensures.items ∙ sym (spread-nil c.args.part.now)
