use Rattle.std.proofs.Common.{◌≤◌, arith, sym}
use Rattle.farm_model.specs.Packages.{names, variants}
use Rattle.plan_reader.proofs.VariantLaws.{not_named, not_known}
use Rattle.plan_reader.proofs.variants.version_of.Goals as goal
use Rattle.plan_reader.proofs.variants.version_of.Goals.{else-variant-names-via-then-variant-names+else-variant-variants, else-variant-names-via-else-variant-names}

pub returns-else-variant-names : goal.returns-else-variant-names
returns-else-variant-names c =
    let u = c.args.universe.now in
    let v = c.args.variant in
    elim c.else-variant-names.branch [
      | else-variant-names-via-then-variant-names+else-variant-variants w ↦
          let past : variants u v.name ≤ v.bit = omega arith in sym (not_known u v past)
      | else-variant-names-via-else-variant-names w ↦
          let past : names u ≤ v.name = omega (arith, c.names.ensures.number) in
          sym (not_known u v (not_named u v past))
    ]
