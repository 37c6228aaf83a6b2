use Rattle.std.proofs.Common.{subst}
use Rattle.farm_model.specs.Packages.{variant, package_of}
use Rattle.item_index.specs.Items.{item, IsListedField}
use Rattle.sat_rows.proofs.Each.{below_next}
use Rattle.sat_rows.proofs.index.add_name.Goals as goal

pub loop-bit-preserved : goal.loop-bit-preserved
loop-bit-preserved g c =
    let so_far = c.loop-bit.invariant in
    let u = c.args.universe.now in
    let n = c.args.name in
    let field = g.F.Field.field in
    let step = c.in_ok-add_field.ensures in
    let new = c.add_field.new.self in
    record {
      kept = λ text at is. step.kept text at (so_far.kept text at is);
      names = below_next
          (λ b. IsListedField c.loop-bit.index (variant n b) (field (package_of u (variant n b))))
          (λ b. IsListedField new (variant n b) (field (package_of u (variant n b)))) c.loop-bit.bit
          (λ b is i e at j a also. step.kept a.name (item (variant n b) i j) (is i e at j a also))
          so_far.names
          (subst (IsListedField new (variant n c.loop-bit.bit)) c.of.ensures step.names);
    }
