use Rattle.std.proofs.Common.{sym, ◌∙◌}
use Rattle.std.proofs.lemmas.Bool.{eq-eqb, ne_eqb}
use Rattle.deb_text.specs.Common.{is_byte}
use Rattle.deb_text.proofs.CutLaws.{without_end-shorter, without_end-whole}
use Rattle.drive_journal.proofs.begun.without_zeros.Goals as goal

pub returns-then-last-ne0 : goal.returns-then-last-ne0
returns-then-last-ne0 c =
    sym (without_end-whole (is_byte 0) c.loop-rest.rest.now 0 c.in-len1-up.len_at_least
    (ne_eqb _ 0 c.if-last-ne0.true))
    ∙ c.loop-rest.invariant

pub loop-rest-preserved : goal.loop-rest-preserved
loop-rest-preserved c =
    without_end-shorter (is_byte 0) c.loop-rest.rest.now 0 c.in-len1-up.len_at_least
    (eq-eqb _ 0 c.if-last-ne0.false)
    ∙ c.loop-rest.invariant
