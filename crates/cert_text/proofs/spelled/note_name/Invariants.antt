use Rattle.cert_text.specs.Items.{AreSaid}
use Rattle.cert_text.proofs.spelled.note_name.Given as goal

abbrev pub invariant-loop-bit : goal.invariant-loop-bit
invariant-loop-bit l = AreSaid l.universe l.variants.entries
