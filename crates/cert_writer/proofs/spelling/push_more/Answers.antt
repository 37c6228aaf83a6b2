use Rattle.std.proofs.Common.{◌≡◌, true, false, refl, sym, ◌∙◌, eq-eqb}
use Rattle.std.proofs.lemmas.Bool.{ne_eqb}
use Rattle.std.proofs.lemmas.Nat.Bits.{shr_and_one}
use Rattle.std.specs.Int.{bit_at}
use Rattle.clause_kernel.specs.Rows.{word_has}
use Rattle.cert_writer.proofs.ListParts.{item-more, item-none}
use Rattle.cert_writer.proofs.spelling.push_more.Goals as goal
use Rattle.cert_writer.proofs.spelling.push_more.Goals.{then-word-bit-eq1+in_ok-push_item, else-word-bit-eq1}

pub loop-bit-preserved : goal.loop-bit-preserved
loop-bit-preserved c =
    let u = c.args.universe.now in
    let n = c.args.name in
    let b = c.loop-bit.bit in
    let word = c.args.word in
    elim c.if-word-bit-eq1.branch [
      | then-word-bit-eq1+in_ok-push_item w ↦
          let is : word_has word b ≡ true =
          eq-eqb (bit_at word b) 1 (sym (shr_and_one word b) ∙ w.if-word-bit-eq1.true) in
          item-more u false word n b c.args.text.now.items c.loop-bit.text.items
          c.loop-bit.invariant false c.if-word-bit-eq1.text.items refl is
          (rw w.text-is w.in_ok-push_item.ensures)
      | else-word-bit-eq1 w ↦
          let is : word_has word b ≡ false =
          ne_eqb (bit_at word b) 1 (λ e. w.if-word-bit-eq1.false (shr_and_one word b ∙ e)) in
          rw w.text-is (item-none u false word n b c.args.text.now.items c.loop-bit.text.items
          c.loop-bit.invariant is)
    ]
