use Rattle.std.proofs.Common.{[], ◌∷◌, sym}
use Rattle.std.specs.Prelude.{codes}
use Rattle.drive_journal.specs.Entries.{head_of, more_of}
use Rattle.drive_journal.specs.Said.{noted_in}
use Rattle.report_sink.proofs.SeriesLaws.{first_fails, second_fails, three_written}
use Rattle.drive_journal.proofs.Again.{entry_is_read_again}
use Rattle.drive_journal.proofs.entry.write_entry.Goals as goal

pub returns-in_err-write_head-clause-written : goal.returns-in_err-write_head-clause-written
returns-in_err-write_head-clause-written g c =
    let e = noted_in c.args.entry in
    first_fails (head_of e) _ _ c.write_head.ensures.written
    (more_of e.note ∷ codes "\n" ∷ []) (sym c.in_err-write_head.ensures.told)

pub returns-in_err-write_more-clause-written : goal.returns-in_err-write_more-clause-written
returns-in_err-write_more-clause-written g c =
    let e = noted_in c.args.entry in
    second_fails (head_of e) _ _ c.write_head.ensures.written (more_of e.note) _
    c.write_more.ensures.written (codes "\n" ∷ []) (sym c.in_err-write_more.ensures.told)

pub returns-clause-written : goal.returns-clause-written
returns-clause-written g c =
    let e = noted_in c.args.entry in
    three_written (head_of e) _ _ c.write_head.ensures.written (more_of e.note) _
    c.write_more.ensures.written (codes "\n") _ c.write_text.ensures.written

pub returns-in_err-write_head-clause-again : goal.returns-in_err-write_head-clause-again
returns-in_err-write_head-clause-again g c = entry_is_read_again (noted_in c.args.entry)

pub returns-in_err-write_more-clause-again : goal.returns-in_err-write_more-clause-again
returns-in_err-write_more-clause-again g c = entry_is_read_again (noted_in c.args.entry)

pub returns-clause-again : goal.returns-clause-again
returns-clause-again g c = entry_is_read_again (noted_in c.args.entry)
