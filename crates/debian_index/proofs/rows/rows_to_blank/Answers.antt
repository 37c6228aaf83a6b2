use Rattle.std.proofs.Common.{◌+◌, sym, ap, subst, ◌∙◌, arith}
use Rattle.std.proofs.lemmas.List.{take_rest}
use Rattle.deb_text.specs.Common.{is_newline, before, is_blank_line}
use Rattle.debian_index.specs.Rows.{row_size}
use Rattle.debian_index.proofs.RowLaws.{AreRowsTo, filled-more, filled-none, rows-none, rows-more, front-blank, front-all}
use Rattle.debian_index.proofs.rows.rows_to_blank.Goals.{else-least-size-via-then-least-size+else-begins_blank, else-least-size-via-else-least-size}
use Rattle.debian_index.proofs.rows.rows_to_blank.Goals as goal

pub loop-size-init : goal.loop-size-init
loop-size-init c = record { rows = rows-none c.args.text.now; filled = λ least. filled-none c.args.text.now }

pub returns-then-begins_blank-clause-front : goal.returns-then-begins_blank-clause-front
returns-then-begins_blank-clause-front c =
    let text = c.args.text.now in
    front-blank text c.loop-size.size c.loop-size.lines c.loop-size.invariant.rows c.loop-size-test.true
    (ap (λ rest. is_blank_line (before is_newline rest)) (sym (take_rest text c.loop-size.size))
    ∙ sym c.begins_blank.ensures ∙ c.if-begins_blank.true)

pub loop-size-preserved : goal.loop-size-preserved
loop-size-preserved c =
    let text = c.args.text.now in
    let size = c.loop-size.size in
    let lines = c.loop-size.lines in
    let at = take_rest text size in
    subst (λ row. AreRowsTo c.args.least text (size + row) (lines + 1))
    (sym (c.row_size-size.ensures.size ∙ ap row_size at))
    (record {
      rows = rows-more text size lines c.loop-size.invariant.rows c.loop-size-test.true;
      filled = λ least. elim c.else-least-size.branch [
        | else-least-size-via-then-least-size+else-begins_blank w ↦
            filled-more text size lines c.loop-size.invariant.rows c.loop-size-test.true
            (ap (λ rest. is_blank_line (before is_newline rest)) (sym at)
            ∙ sym w.begins_blank.ensures ∙ w.if-begins_blank.false)
            (c.loop-size.invariant.filled least)
        | else-least-size-via-else-least-size w ↦ absurd (omega (arith, w.if-least-size.false, least))
      ];
    })

pub returns-clause-front : goal.returns-clause-front
returns-clause-front c =
    front-all c.args.text.now c.loop-size.size c.loop-size.lines c.loop-size.invariant.rows
    c.loop-size-test.false
