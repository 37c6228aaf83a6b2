use Rattle.std.proofs.Common.{◌≡◌, ◌↔◌, true, ap, subst}
use Rattle.may_rows.specs.Words.{Words}
use Rattle.may_rows.proofs.MetWords.{any_unpacked-is}
use Rattle.may_rows.proofs.settled.any_unpacked.Goals as goal

pub returns : goal.returns
returns c u are =
    let here : c.deref.result.now ≡ c.args.state.now.here =
    cc (ap (λ (w : Words). w.here) c.state.view_is, c.deref.ensures.value) in
    let ready : c.deref-2.result.now ≡ c.args.state.now.ready =
    cc (ap (λ (w : Words). w.ready) c.state.view_is, c.deref-2.ensures.value) in
    any_unpacked-is u c.args.state.now are c.same.result
    (subst (λ ws. (c.same.result ≡ true) ↔ (c.args.state.now.here ≡ ws)) ready
    (subst (λ ws. (c.same.result ≡ true) ↔ (ws ≡ c.deref-2.result.now)) here c.same.ensures.equal))
