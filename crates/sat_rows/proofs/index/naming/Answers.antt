use Rattle.std.proofs.Common.{arith}
use Rattle.farm_universe.proofs.PlaceLaws.{named}
use Rattle.farm_model.specs.Packages.{variant}
use Rattle.item_index.specs.Items.{item}
use Rattle.sat_rows.specs.Index.{AreNaming}
use Rattle.sat_rows.proofs.Each.{below_next}
use Rattle.sat_rows.proofs.index.naming.Goals as goal

pub loop-name-preserved : goal.loop-name-preserved
loop-name-preserved g c =
    let u = c.args.universe.now in
    let field = g.F.Field.field in
    let step = c.in_ok-add_name.ensures in
    below_next (λ n. AreNaming u field n c.loop-name.index)
    (λ n. AreNaming u field n c.add_name.new.index) c.loop-name.name
    (λ n is b lt i e at j a also. step.kept a.name (item (variant n b) i j)
    (is b lt i e at j a also))
    c.loop-name.invariant step.names

pub returns : goal.returns
returns g c =
    let so_far = c.loop-name.invariant in
    record {
      names = λ n b lt.
          let there = named c.args.universe.now n b lt in so_far n (omega arith) b lt;
    }
