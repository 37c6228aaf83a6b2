use Rattle.plan_cert.specs.PlaceRows.{place_rows_of}
use Rattle.plan_cert.proofs.CheckLaws.{have-known}
use Rattle.plan_cert.proofs.checker.check_by_tables.Goals as goal

pub invariant_of-claim : goal.invariant_of-claim
invariant_of-claim g c = record {
  tables_are = c.requires.tables;
  of_universe = c.in_ok-known.ensures.universe;
  of_plan = c.in_ok-known.ensures.plan;
  have_known = have-known c.args.universe.now c.args.plan.now.lanes c.args.certificate.now
      c.requires.certificate c.requires.sound.universe (place_rows_of c.in_ok-known.known)
      c.in_ok-known.ensures.rows;
}
