use Rattle.std.proofs.Common.{◌∙◌, sym, ap, arith}
use Rattle.std.proofs.lemmas.Option.{slice_get_within}
use Rattle.farm_executor.specs.declared.link.Link.{Link}
use Rattle.farm_executor.proofs.Pairs.{some_at}
use Rattle.farm_executor.proofs.WereRun.{job_ready}
use Rattle.farm_executor.proofs.turns.lanes_in_turns.Goals as goal

pub in_turns-requires : goal.in_turns-requires
in_turns-requires c = record {
  ready = λ k j is.
      let lt = slice_get_within c.in_ok-jobs.jobs.items k j is in
      job_ready c.args.archive.now.table.shared.table_id c.args.accepted.now k j.lane j.chroot
      j.end.seat (omega (arith, lt, c.in_ok-jobs.ensures.long)) (c.in_ok-jobs.ensures.each k j is);
}

pub returns-clause-each : goal.returns-clause-each
returns-clause-each c k t is =
    let d = some_at c.in_ok-in_turns.field-0.items c.in_ok-jobs.jobs.items k t
    (sym c.in_ok-in_turns.ensures.long) is in
    ap (λ (l : Link). l.seat) (c.in_ok-in_turns.ensures.each k d.0 t d.1 is).0
    ∙ (c.in_ok-jobs.ensures.each k d.0 d.1).seated.seat_is

pub returns-clause-running : goal.returns-clause-running
returns-clause-running c k t is =
    let d = some_at c.in_ok-in_turns.field-0.items c.in_ok-jobs.jobs.items k t
    (sym c.in_ok-in_turns.ensures.long) is in
    (c.in_ok-in_turns.ensures.each k d.0 t d.1 is).1
