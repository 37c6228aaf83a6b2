use Rattle.std.proofs.Common.{sym, ◌∙◌}
use Rattle.farm_universe.proofs.WrittenLaws.{at-written}
use Rattle.farm_universe.proofs.list.bit_of.Goals as goal

pub returns-then-is_some-clause-bit : goal.returns-then-is_some-clause-bit
returns-then-is_some-clause-bit c =
    at-written c.args.version.now c.args.packages.now c.written_at-written.result c.requires
    c.written_at-written.ensures.bit (sym c.is_some.ensures ∙ c.if-is_some.true)
