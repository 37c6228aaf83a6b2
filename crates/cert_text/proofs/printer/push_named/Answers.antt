use Rattle.std.proofs.Common.{◌++◌, ◌∙◌, ap, sym, append_assoc, [], ◌∷◌, List}
use Rattle.farm_model.specs.Packages.{variant}
use Rattle.farm_model.specs.declared.types.Variant.{Variant}
use Rattle.cert_text.specs.Rows.{those_in_row}
use Rattle.cert_text.proofs.RowLists.{named_below, in_row-has, in_row-lacks}
use Rattle.cert_text.proofs.printer.push_named.Goals as goal
use Rattle.cert_text.proofs.printer.push_named.Goals.{then-has+in_ok-push, else-has}

pub loop-bit-preserved : goal.loop-bit-preserved
loop-bit-preserved c =
    let row = c.args.row.now in
    let n = c.args.name in
    let b = c.loop-bit.bit in
    elim c.if-has.branch [
      | then-has+in_ok-push w ↦
          rw (w.found-is, w.in_ok-push.ensures.items, c.loop-bit.invariant)
          (append_assoc c.args.found.now.items (those_in_row row (named_below n b))
          (variant n b ∷ [])
          ∙ ap (λ (vs : List Variant). c.args.found.now.items ++ vs)
          (sym (in_row-has row n b (sym c.has.ensures ∙ w.if-has.true))))
      | else-has w ↦
          rw (w.found-is, c.loop-bit.invariant)
          (ap (λ (vs : List Variant). c.args.found.now.items ++ vs)
          (sym (in_row-lacks row n b (sym c.has.ensures ∙ w.if-has.false))))
    ]
