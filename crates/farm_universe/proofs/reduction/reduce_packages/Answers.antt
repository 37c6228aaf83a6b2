use Rattle.std.proofs.Common.{◌∙◌, ap, sym, set}
use Rattle.std.proofs.lemmas.List.Edits.{map_over_more}
use Rattle.farm_universe.specs.Land.{reduced_package}
use Rattle.farm_universe.proofs.reduction.reduce_packages.Goals as goal

pub loop-binary-preserved : goal.loop-binary-preserved
loop-binary-preserved c =
    let reduced = reduced_package c.args.architectures.now in
    ap (set c.loop-binary.packages c.loop-binary.binary-index)
    (c.in_ok-reduce.ensures ∙ ap reduced (sym c.binary-item.is))
    ∙ map_over_more reduced c.args.packages.now c.loop-binary.packages
    c.loop-binary.binary-index c.binary-item.result
    c.loop-binary-test.true c.loop-binary.invariant c.binary-item.is
