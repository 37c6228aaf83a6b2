use Rattle.std.proofs.Common.{arith, sym}
use Rattle.farm_model.specs.Packages.{variant}
use Rattle.drive_protocol.specs.RequestText.{variant_words}
use Rattle.report_sink.proofs.ItemLaws.{next_written, last_written}
use Rattle.drive_protocol.proofs.request.write_variants.Goals as goal

pub loop-variant-preserved : goal.loop-variant-preserved
loop-variant-preserved g c =
    next_written (variant_words c.args.universe.now) c.args.variants.now
    c.loop-variant.variant-index (variant 0 0)
    (omega (arith, c.loop-variant-test.true)) _ _ _ c.loop-variant.invariant
    c.write_variant.ensures.written

pub returns-in_err-write_variant-clause-written : goal.returns-in_err-write_variant-clause-written
returns-in_err-write_variant-clause-written g c =
    last_written (variant_words c.args.universe.now) c.args.variants.now
    c.loop-variant.variant-index (variant 0 0)
    (omega (arith, c.loop-variant-test.true)) _ _ _ c.loop-variant.invariant
    c.write_variant.ensures.written (sym c.in_err-write_variant.ensures.told)
