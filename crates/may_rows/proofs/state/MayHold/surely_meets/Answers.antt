use Rattle.std.proofs.Common.{◌≡◌, ◌↔◌, true, ap, subst}
use Rattle.bit_rows.specs.Sets.{variants_of, HasNameInside}
use Rattle.may_rows.specs.Words.{Words}
use Rattle.may_rows.proofs.Bridges.{met_is}
use Rattle.may_rows.proofs.state.MayHold.surely_meets.Goals as goal

pub returns : goal.returns
returns c u e is rows =
    let view = ap (λ (w : Words). w.ready) c.self.view_is in
    let words : c.deref.result.now ≡ c.args.self.now.ready = cc (view, c.deref.ensures.value) in
    met_is u c.args.self.now is e c.args.row.now rows c.is_met_by.result
    (subst (λ ws. (c.is_met_by.result ≡ true)
    ↔ HasNameInside (variants_of ws) (variants_of c.args.row.now)) words c.is_met_by.ensures.set)
