use Rattle.std.proofs.Common.{refl}
use Rattle.deb_stanza.proofs.draft.empty_draft.Goals as goal

pub returns-clause-fit : goal.returns-clause-fit
returns-clause-fit c = record {
  table = c.empty_table.ensures.sound;
  known = record { names = tt; colons = refl };
  some = λ is. absurd cc;
  latest = rw c.empty_table.ensures.keys c.new.ensures;
}
