use Rattle.std.proofs.Common.{sym, ◌∙◌, arith}
use Rattle.std.proofs.lemmas.Bool.{not-false}
use Rattle.std.proofs.lemmas.List.{take_all}
use Rattle.import_notes.proofs.NoteLaws.{noted-all, noted-known, noted-more}
use Rattle.import_notes.proofs.notes.push_all_unmet.Goals.{then-branch+in_ok-push_unmet, else-branch}
use Rattle.import_notes.proofs.notes.push_all_unmet.Goals as goal

pub loop-unmet-preserved : goal.loop-unmet-preserved
loop-unmet-preserved c =
    let unmet = c.args.farm.unmet.now in
    let count = c.loop-unmet.unmet-index in
    let need = c.unmet-item.result in
    elim c.if-branch.branch [
      | then-branch+in_ok-push_unmet w ↦
          rw w.text-is (noted-more unmet count need c.loop-unmet.seen c.args.text.now.items
          c.loop-unmet.text.items w.push_unmet.new.text.items c.in_ok-words_of.field-0
          c.loop-unmet.invariant c.loop-unmet-test.true c.unmet-item.is c.in_ok-words_of.ensures
          c.insert.new.self c.in_ok-insert.ensures.keys w.in_ok-push_unmet.ensures)
      | else-branch w ↦
          rw w.text-is (noted-known unmet count need c.loop-unmet.seen c.args.text.now.items
          c.loop-unmet.text.items c.in_ok-words_of.field-0 c.loop-unmet.invariant
          c.loop-unmet-test.true c.unmet-item.is c.in_ok-words_of.ensures
          (not-false _ (sym c.in_ok-insert.ensures.added ∙ w.if-branch.false)) c.insert.new.self
          c.in_ok-insert.ensures.keys)
    ]

pub returns : goal.returns
returns c =
    let unmet = c.args.farm.unmet.now in
    let count = c.loop-unmet.unmet-index in
    noted-all unmet count c.loop-unmet.seen c.args.text.now.items c.loop-unmet.text.items
    c.loop-unmet.invariant
    (take_all count unmet (omega (arith, c.loop-unmet-test.false)))
