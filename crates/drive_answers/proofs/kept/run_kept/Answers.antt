use Rattle.std.proofs.Common.{inr, subst}
use Rattle.drive_answers.proofs.kept.run_kept.Goals as goal
use Rattle.drive_journal.specs.Resuming.{IsRefused, IsResumed}

pub returns-in-Ok-run_by-clause-run : goal.returns-in-Ok-run_by-clause-run
returns-in-Ok-run_by-clause-run g c =
    let journal = g.F.Journal.Sink.state c.in-Ok-open_journal.journal in
    let resumed = c.in-Ok-run_by.ensures.resumed in (
      resumed.0,
      journal,
      resumed.1,
      c.in-Ok-open_journal.ensures,
      subst (λ h. IsResumed h resumed.0 journal resumed.1 c.in-Ok-run_by.run'.resumed)
          c.in-Ok.ensures resumed.2,
    )

pub returns-in-Ok-open_journal-clause-none : goal.returns-in-Ok-open_journal-clause-none
returns-in-Ok-open_journal-clause-none g c =
    let journal = g.F.Journal.Sink.state c.in-Ok-open_journal.journal in
    let refused = c.in-Err-run_by.ensures.refused in
    inr (
      refused.0,
      journal,
      refused.1,
      c.in-Ok-open_journal.ensures,
      subst (λ h. IsRefused h refused.0 journal refused.1 c.in-Err-run_by.fault) c.in-Ok.ensures
          refused.2,
    )
