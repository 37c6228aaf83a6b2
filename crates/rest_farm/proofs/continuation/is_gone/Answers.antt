use Rattle.std.proofs.Common.{sym, arith}
use Rattle.std.specs.Prelude.{nat_lt}
use Rattle.std.proofs.lemmas.Bool.{and_left, le-ltb}
use Rattle.farm_model.specs.Common.{variants}
use Rattle.leg_laws.specs.Named.{is_listed, item_of}
use Rattle.rest_farm.proofs.continuation.is_gone.Goals as goal

pub returns-then-variant-variant_count : goal.returns-then-variant-variant_count
returns-then-variant-variant_count c =
    let v = c.args.variant in
    let count = variants c.args.farm.now v.name in
    sym (and_left (nat_lt v.bit count) (is_listed c.args.gone.now (item_of c.args.farm.now v))
    (le-ltb v.bit count (omega (arith, c.variant_count.ensures.number))))
