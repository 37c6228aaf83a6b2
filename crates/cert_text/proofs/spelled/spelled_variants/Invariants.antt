use Rattle.cert_text.specs.Items.{AreSaid}
use Rattle.cert_text.proofs.spelled.spelled_variants.Given as goal

abbrev pub invariant-loop-name : goal.invariant-loop-name
invariant-loop-name l = AreSaid l.universe l.variants.entries
