use Rattle.may_rows.proofs.Candidates.{one_within, bits_from}
use Rattle.may_rows.proofs.pick.from_bit.Goals as goal

pub overflow_sub-below : goal.overflow_sub-below
overflow_sub-below c = one_within c.args.bit c.requires

pub returns : goal.returns
returns c b = bits_from c.args.word c.args.bit c.requires b
