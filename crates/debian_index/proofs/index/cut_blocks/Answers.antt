use Rattle.std.proofs.Common.{◌≡◌, ◌+◌, ◌<◌, ◌^◌, take, length, Ok, refl, sym, ap, subst, ◌∙◌, arith}
use Rattle.std.proofs.lemmas.List.{take_rest}
use Rattle.deb_text.specs.Common.{Fails, refusal_of, control_lines}
use Rattle.deb_stanza.specs.Stanza.{paragraphs_of}
use Rattle.debian_index.specs.Index.{block_at}
use Rattle.debian_index.specs.Rows.{row_size, AreFilled, IsFront}
use Rattle.debian_index.proofs.CutLaws.{IsCut, cut-blank, cut-block, cut-end, cut-fails}
use Rattle.debian_index.proofs.index.cut_blocks.Goals as goal

pub loop-start-preserved-then-rows-eq0 : goal.loop-start-preserved-then-rows-eq0
loop-start-preserved-then-rows-eq0 c =
    let text = c.args.text.now in
    let start = c.loop-start.start in
    let number = c.loop-start.number in
    let size = c.rows_to_blank-rows.result.size in
    let lines = c.rows_to_blank-rows.result.lines in
    let at = take_rest text start in
    subst (λ row. IsCut text c.loop-start.blocks.items (start + row) (number + 1))
    (sym (c.row_size-start.ensures.size ∙ ap row_size at))
    (cut-blank text c.loop-start.blocks.items start number size lines c.loop-start.invariant
    c.loop-start-test.true (subst (λ rest. IsFront rest size lines) at c.rows_to_blank-rows.ensures.front)
    c.if-rows-eq0.true)

pub loop-start-preserved : goal.loop-start-preserved
loop-start-preserved c =
    let text = c.args.text.now in
    let start = c.loop-start.start in
    let number = c.loop-start.number in
    let size = c.rows_to_blank-rows.result.size in
    let lines = c.rows_to_blank-rows.result.lines in
    let at = take_rest text start in
    let small : length text + 1 < 2 ^ 32 = omega arith in
    subst (λ blocks. IsCut text blocks (start + size) (number + lines))
    (sym c.in_ok-push.ensures.items)
    (cut-block text c.loop-start.blocks.items (record { start = start; size = size; number = number })
    lines small c.loop-start.invariant
    (subst (λ rest. IsFront rest size lines) at c.rows_to_blank-rows.ensures.front)
    (subst (λ rest. AreFilled rest size) at (c.rows_to_blank-rows.ensures.filled refl))
    (subst (λ rest. block_at number (take size rest)
    ≡ Ok (paragraphs_of (control_lines number (take size rest)))) at c.in_default.ensures))

pub returns-clause-read : goal.returns-clause-read
returns-clause-read c =
    cut-end c.args.text.now c.loop-start.blocks.items c.loop-start.start c.loop-start.number
    c.loop-start.invariant c.loop-start-test.false

pub returns-in-Err-clause-refused : goal.returns-in-Err-clause-refused
returns-in-Err-clause-refused c =
    let text = c.args.text.now in
    let start = c.loop-start.start in
    let number = c.loop-start.number in
    let size = c.rows_to_blank-rows.result.size in
    let lines = c.rows_to_blank-rows.result.lines in
    let at = take_rest text start in
    cut-fails text c.loop-start.blocks.items start number size lines c.in-Err.fault
    c.loop-start.invariant (subst (λ rest. IsFront rest size lines) at c.rows_to_blank-rows.ensures.front)
    (subst (λ rest. Fails refusal_of c.in-Err.fault (block_at number (take size rest))) at
    c.in-Err.ensures)
