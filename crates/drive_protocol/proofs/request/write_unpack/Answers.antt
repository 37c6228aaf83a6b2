use Rattle.std.proofs.Common.{[], ◌∷◌, sym}
use Rattle.std.specs.Prelude.{codes}
use Rattle.drive_protocol.specs.RequestText.{head_text, variant_words}
use Rattle.report_sink.proofs.SeriesLaws.{first_fails, second_fails, third_fails, four_written}
use Rattle.drive_protocol.proofs.request.write_unpack.Goals as goal

pub returns-in_err-write_head-clause-written : goal.returns-in_err-write_head-clause-written
returns-in_err-write_head-clause-written g c =
    let h = c.args.head in
    first_fails (head_text h.again h.lane.now h.number h.chroot.now) _ _
    c.write_head.ensures.written
    (codes " unpack" ∷ variant_words c.args.universe.now c.args.variant ∷ codes "\n" ∷ []) (sym c.in_err-write_head.ensures.told)

pub returns-in_err-write_text-clause-written : goal.returns-in_err-write_text-clause-written
returns-in_err-write_text-clause-written g c =
    let h = c.args.head in
    second_fails (head_text h.again h.lane.now h.number h.chroot.now) _ _
    c.write_head.ensures.written (codes " unpack") _ c.write_text.ensures.written
    (variant_words c.args.universe.now c.args.variant ∷ codes "\n" ∷ []) (sym c.in_err-write_text.ensures.told)

pub returns-in_err-write_variant-clause-written : goal.returns-in_err-write_variant-clause-written
returns-in_err-write_variant-clause-written g c =
    let h = c.args.head in
    third_fails (head_text h.again h.lane.now h.number h.chroot.now) _ _
    c.write_head.ensures.written (codes " unpack") _ c.write_text.ensures.written
    (variant_words c.args.universe.now c.args.variant) _ c.write_variant.ensures.written (codes "\n" ∷ []) (sym c.in_err-write_variant.ensures.told)

pub returns-clause-written : goal.returns-clause-written
returns-clause-written g c =
    let h = c.args.head in
    four_written (head_text h.again h.lane.now h.number h.chroot.now) _ _
    c.write_head.ensures.written (codes " unpack") _ c.write_text.ensures.written
    (variant_words c.args.universe.now c.args.variant) _ c.write_variant.ensures.written (codes "\n") _ c.write_text-2.ensures.written
