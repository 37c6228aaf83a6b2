use Rattle.std.proofs.Common.{ap, ◌∙◌, ◌++◌, drop}
use Rattle.deb_text.specs.Lists.{lists}
use Rattle.debian_index.specs.Names.{spread}
use Rattle.debian_index.specs.Tuples.{parts_of}
use Rattle.debian_index.proofs.SpreadLaws.{wildcards-put}
use Rattle.debian_index.proofs.names.push_wildcards.Goals as goal

pub returns : goal.returns
returns c =
    let parts = parts_of c.args.tuple.now in
    let n0 = lists c.args.names.now.items in
    let n1 = lists c.push_but_first.new.names.items in
    let n2 = lists c.push_but_first-2.new.names.items in
    wildcards-put parts (lists c.in_ok-ends.ends.items) (lists c.in_ok-two.two.items)
    (lists c.in_ok-three.three.items) (lists c.in_ok-four.four.items) n0 n1 n2
    (lists c.push_but_first-3.new.names.items)
    c.in_ok-ends.ensures
    (c.in_ok-two.ensures ∙ ap (λ vs. spread parts.system (lists vs)) c.deref.ensures.value)
    (c.in_ok-three.ensures ∙ ap (λ vs. spread parts.library (lists vs)) c.deref-2.ensures.value)
    (c.in_ok-four.ensures ∙ ap (λ vs. spread parts.abi (lists vs)) c.deref-3.ensures.value)
    (c.in_ok-push_but_first.ensures ∙ ap (λ vs. n0 ++ drop 1 (lists vs)) c.deref-4.ensures.value)
    (c.in_ok-push_but_first-2.ensures ∙ ap (λ vs. n1 ++ drop 1 (lists vs)) c.deref-5.ensures.value)
    (c.in_ok-push_but_first-3.ensures ∙ ap (λ vs. n2 ++ drop 1 (lists vs)) c.deref-6.ensures.value)
