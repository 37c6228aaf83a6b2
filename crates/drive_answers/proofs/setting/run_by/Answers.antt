use Rattle.std.proofs.Common.{refl}
use Rattle.std.specs.String.{string_bytes}
use Rattle.drive_answers.proofs.setting.run_by.Goals as goal
use Rattle.drive_journal.proofs.Keeping.{unchanged_refused}
use Rattle.drive_journal.specs.HeadText.{head_text}
use Rattle.drive_journal.specs.declared.start.StoreFault.TheVariants.{Memory}

pub returns-in-Err-name-clause-refused : goal.returns-in-Err-name-clause-refused
returns-in-Err-name-clause-refused g c =
    let stamp = string_bytes c.args.beginning.now.stamp in
    let journal = g.J.Sink.state c.args.journal in (
      stamp,
      journal,
      unchanged_refused (head_text c.args.beginning.now.sums) stamp journal journal Memory refl tt,
    )
