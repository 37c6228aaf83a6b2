use Rattle.std.proofs.Common.{sym}
use Rattle.std.proofs.lemmas.Result.{on_ok_weaker}
use Rattle.cert_text.specs.Items.{IsSaid}
use Rattle.cert_text.proofs.spelled.note.Goals as goal

pub returns-in-Some : goal.returns-in-Some
returns-in-Some c =
    let u = c.args.universe.now in
    let is : IsSaid u c.in_ok-text.text.items c.in-Some.said = record {
      is = rw (c.in-Some.is, c.deref.ensures.value) at (sym c.in_ok-said.ensures.said);
      known = rw c.in-Some.is at c.in_ok-said.ensures.known;
    } in
    on_ok_weaker c.put.result (λ put. put u c.requires.said is) c.put.ensures
