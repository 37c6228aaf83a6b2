use Rattle.std.proofs.Common.{arith}
use Rattle.farm_answers.proofs.ReadLaws.{whole_of}
use Rattle.farm_answers.proofs.source.read_input.Goals as goal

pub returns-clause-bytes : goal.returns-clause-bytes
returns-clause-bytes g c =
    whole_of _ _ 300000000 _ c.input.ensures c.in_ok-read.ensures.bytes
    (omega (arith, c.if-len.false, c.len.ensures, c.in_ok-read.read.ok.0))
