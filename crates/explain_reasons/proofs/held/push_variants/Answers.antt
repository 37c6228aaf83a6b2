use Rattle.std.proofs.Common.{sym, subst, arith, All}
use Rattle.std.proofs.lemmas.Grind.{common_steps}
use Rattle.farm_model.specs.Sound.{IsKnown}
use Rattle.explain_reasons.proofs.HeldLists.{one_known}
use Rattle.explain_reasons.proofs.held.push_variants.Goals as goal

pub loop-bit-preserved : goal.loop-bit-preserved
loop-bit-preserved c = record {
  held = grind (arith, common_steps);
  known = λ start. subst (All (IsKnown c.args.universe.now)) (sym c.in_ok-push_if.ensures)
      (one_known _ _ _ _ (c.loop-bit.invariant.known start) (omega arith));
}
