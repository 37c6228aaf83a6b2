use Rattle.std.proofs.Common.{rules, IfErr, refl}
use Rattle.std.specs.String.{string_bytes}
use Rattle.drive_answers.proofs.begun.Beginning.by.Goals as goal
use Rattle.drive_journal.proofs.Keeping.{unchanged_by}
use Rattle.drive_journal.specs.HeadText.{head_text}
use Rattle.drive_journal.specs.Resuming.{IsNoMisfit}

pub returns-in_err-head-clause-refused : goal.returns-in_err-head-clause-refused
returns-in_err-head-clause-refused g c =
    let journal = g.J.Sink.state c.args.journal.now in
    let none : IfErr c.from_residual.result IsNoMisfit = search rules in
    unchanged_by (head_text c.args.self.now.sums) (string_bytes c.args.self.now.stamp) journal journal
    c.from_residual.result refl none
