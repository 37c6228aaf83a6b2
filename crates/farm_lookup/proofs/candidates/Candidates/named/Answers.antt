use Rattle.std.proofs.Common.{sym}
use Rattle.farm_lookup.proofs.MetLaws.{named_all}
use Rattle.farm_lookup.proofs.candidates.Candidates.named.Goals as goal

pub returns : goal.returns
returns c =
    named_all c.self.inside.universe.value c.args.self.now c.self.inside.names c.args.text.now
    c.listed.result.now c.self.invariant (sym c.self.view_is) c.listed.ensures
