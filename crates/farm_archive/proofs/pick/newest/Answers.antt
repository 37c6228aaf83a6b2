use Rattle.std.proofs.Common.{◌-◌, sym, ◌∙◌, arith}
use Rattle.std.specs.Prelude.{◌&&◌}
use Rattle.farm_model.specs.Packages.{variant, word_has, is_wanted}
use Rattle.farm_archive.proofs.Picked.{highest-less}
use Rattle.farm_archive.proofs.pick.newest.Goals as goal

pub loop-bit-preserved : goal.loop-bit-preserved
loop-bit-preserved c = record {
  within = omega (arith, c.loop-bit.invariant.within);
  few = omega (arith, c.loop-bit.invariant.few);
  rest = c.loop-bit.invariant.rest
      ∙ highest-less
      (λ b. word_has c.args.word b
      && is_wanted c.args.universe.now c.args.relation.now (variant c.args.name b))
      (c.loop-bit.bit - 1) c.loop-bit.bit (omega (arith, c.loop-bit-test.true))
      (sym c.is_there.ensures ∙ c.if-is_there.false);
}
