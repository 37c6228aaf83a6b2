use Rattle.std.proofs.Common.{Ok, sym, ap, ◌∙◌}
use Rattle.farm_universe.specs.FieldView.{entries_said}
use Rattle.farm_universe.proofs.FieldTextLaws.{judged-said}
use Rattle.farm_universe.proofs.field_text.FieldText.read.Goals as goal

pub invariant_of-result : goal.invariant_of-result
invariant_of-result c =
    rw c.in_ok-from_slice.ensures.items
    (judged-said c.args.kind c.args.text.now c.in_ok-judge.ensures)

pub returns : goal.returns
returns c =
    judged-said c.args.kind c.args.text.now c.in_ok-judge.ensures
    ∙ ap (λ text. Ok (entries_said c.args.kind text)) (sym c.in_ok-from_slice.ensures.items)
