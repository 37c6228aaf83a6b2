use Rattle.std.proofs.Common.{◌≡◌, true, sym, ap, ◌∙◌}
use Rattle.std.specs.List.{list_any}
use Rattle.plan_model.specs.May.{is_surely_unpacked}
use Rattle.may_rows.specs.Met.{Doubt}
use Rattle.may_rows.specs.Words.{may_of}
use Rattle.may_rows.proofs.MetWords.{unpacked_among-is}
use Rattle.may_rows.proofs.settled.some_unpacked.Goals as goal

pub returns-then-doubts : goal.returns-then-doubts
returns-then-doubts c u are doubts =
    let view = c.doubts.view_is in
    let known : c.args.doubts.now.known ≡ true =
    sym (ap (λ (d : Doubt). d.known) view) ∙ c.if-doubts.true in
    let loose : c.args.doubts.now.loose ≡ c.deref.result.now =
    sym (ap (λ (d : Doubt). d.loose) view) ∙ sym c.deref.ensures.value in
    c.some_unpacked_among.ensures
    ∙ ap (list_any (λ k. is_surely_unpacked ((may_of c.args.state.now).slots k))) (sym loose)
    ∙ unpacked_among-is u c.args.state.now are c.args.doubts.now doubts known
