use Rattle.std.proofs.Common.{[], sym, subst, get_or, arith, refl}
use Rattle.std.proofs.lemmas.List.{get_or_default}
use Rattle.sat_rows.specs.Links.{IsJoined}
use Rattle.sat_rows.proofs.FoundLaws.{no_word}
use Rattle.sat_rows.proofs.JoinLaws.{leads_next, leads_all}
use Rattle.sat_rows.proofs.joined.joined_at.Goals as goal

pub loop-entry-init : goal.loop-entry-init
loop-entry-init c =
    subst (IsJoined [] c.args.by_entry.now c.args.bit) (sym c.new-found.ensures) (λ m k. refl)

pub loop-entry-preserved : goal.loop-entry-preserved
loop-entry-preserved c =
    let es = c.args.entries.now in
    let i = c.loop-entry.entry-index in
    leads_next c.args.by_entry.now c.args.bit c.loop-entry.found c.add_entry.new.found es i
    (get_or es i no_word) c.loop-entry-test.true
    (get_or_default es i no_word _ c.loop-entry-test.true) c.loop-entry.invariant
    c.in_ok-add_entry.ensures

pub returns : goal.returns
returns c =
    leads_all c.args.by_entry.now c.args.bit c.loop-entry.found c.args.entries.now
    c.loop-entry.entry-index (omega arith) c.loop-entry.invariant
