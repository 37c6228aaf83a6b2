-- What a drive comes to, from one meaning to another.
use Rattle.std.proofs.Common.{◌≡◌, ℕ, inl, inr, List, [], Option, Some, None, Result, Ok, Err, codes, refl, sym, subst, ◌∙◌}
use Rattle.std.specs.Prelude.{IfOk, IfSome, OnErr}
use Rattle.command_line.specs.declared.request.Paths.{Paths}
use Rattle.deb_text.proofs.LineLaws.{lines_of-nil}
use Rattle.deb_text.specs.Lines.{lines_of}
use Rattle.drive_answers.specs.DriveAnswers.{DrivesTo, IsDriveAnswered, IsDriveTold, Finishes, IsFirstMisfit, IsMisfitOf, Refuses, Stops, TellsRan, TellsStop}
use Rattle.drive_answers.specs.DriveLines.{IsLineTold, fault_line, misfit_line, no_run_line, open_line, start_line, store_line}
use Rattle.drive_answers.specs.KeptRuns.{IsWhyNone}
use Rattle.drive_answers.specs.declared.kept.NoRun.{NoRun}
use Rattle.drive_answers.specs.declared.kept.NoRun.TheVariants as no_run
use Rattle.drive_journal.specs.HeadText.{Finding, IsFresh, IsKnown, IsMisfit, finding}
use Rattle.drive_run.specs.Driven.{IsMisfitIn, IsNotBegun}
use Rattle.drive_run.specs.declared.driven.StartFault.{StartFault}
use Rattle.drive_run.specs.declared.driven.StartFault.TheVariants as start
use Rattle.drive_journal.specs.Resuming.{GoesOn, IsRefused, IsResumed}
use Rattle.drive_journal.specs.declared.start.Resumed.{Resumed}
use Rattle.drive_journal.specs.declared.start.StoreFault.{StoreFault}
use Rattle.drive_journal.specs.declared.start.StoreFault.TheVariants.{Unread, Misfit, Failed, Memory}
use Rattle.farm_answers.proofs.AnswerLaws.{answered-by}
use Rattle.farm_answers.specs.Answers.{IsAnswered, UnlessUnread}
use Rattle.farm_answers.specs.FarmAnswers.{ShowsEnd}
use Rattle.farm_answers.specs.Files.{AreFilesRead, OnFiles}
use Rattle.farm_answers.specs.declared.fault.OutsideFault.{OutsideFault}
use Rattle.farm_answers.specs.declared.fault.OutsideFault.TheVariants.{CannotRead, OutOfMemory, CutShort, BadSchedule, WriteFailed}
use Rattle.drive_run.specs.declared.office.Fault.TheVariants as fault
use Rattle.plan_reader.specs.Input.{Texts}
use Rattle.plan_verifier.specs.Accepted.{AcceptedPlan}
use Rattle.report_sink.specs.Sinks.{SinkState, IsWritten}

-- what is told in one meaning is told in another
pub told_by : (A B : List ℕ → ℕ → Type 0) (S T : List ℕ → Type 0)
    (new before after : SinkState) (told : Result ℕ OutsideFault)
    → ((text : List ℕ) (status : ℕ) → A text status → B text status)
    → ((line : List ℕ) → S line → T line)
    → IsDriveTold A S new before after told → IsDriveTold B T new before after told
told_by A B S T new before after told by tells (inl is) =
    inl (is.0, answered-by A B is.0 new told by is.1)
told_by A B S T new before after told by tells (inr is) =
    inr (is.0, is.1, tells is.1 is.2, is.3)

-- and so is a stop
pub stops_by : (a : AcceptedPlan) (M N : ℕ → Type 0) (old new : SinkState)
    → ((n : ℕ) → M n → N n) → (line : List ℕ) → TellsStop a M old new line
    → TellsStop a N old new line
stops_by a M N old new by line (inl is) = inl is
stops_by a M N old new by line (inr (same, inl is)) = inr (same, inl (is.0, by is.0 is.1, is.2))
stops_by a M N old new by line (inr (same, inr is)) = inr (same, inr is)

-- what an accepted plan comes to, by other misfits
pub drive_by : (a : AcceptedPlan) (M N : ℕ → Type 0) (old new before after : SinkState)
    (told : Result ℕ OutsideFault) → ((n : ℕ) → M n → N n)
    → IsDriveTold (ShowsEnd a) (TellsStop a M old new) new before after told
    → IsDriveTold (ShowsEnd a) (TellsStop a N old new) new before after told
drive_by a M N old new before after told by is =
    told_by (ShowsEnd a) (ShowsEnd a) (TellsStop a M old new) (TellsStop a N old new) new before
    after told (λ text status shows. shows) (stops_by a M N old new by) is

-- what the lanes came to
pub ran_told : (a : AcceptedPlan) (M : ℕ → Type 0) (old new before after : SinkState)
    (told : Result ℕ OutsideFault) → IsDriveTold (ShowsEnd a) (TellsRan a) new before after told
    → IsDriveTold (ShowsEnd a) (TellsStop a M old new) new before after told
ran_told a M old new before after told is =
    told_by (ShowsEnd a) (ShowsEnd a) (TellsRan a) (TellsStop a M old new) new before after told
    (λ text status shows. shows) (λ line tells. inl tells) is

-- want of memory, whatever was asked for
pub no_memory : (A : List ℕ → ℕ → Type 0) (S : List ℕ → Type 0) (new before after : SinkState)
    (told : Result ℕ OutsideFault) → told ≡ Err OutOfMemory → IsDriveTold A S new before after told
no_memory A S new before after told is =
    inl (new, subst (λ t. IsAnswered A new new t) (sym is) refl)

-- a line that is told is told with a status
pub line_quiet : (line : Option (List ℕ)) (before after : SinkState) (told : Result ℕ OutsideFault)
    → IsLineTold line before after told → OnErr told (after ≡ before)
line_quiet (Some line) before after told is = subst (λ t. OnErr t (after ≡ before)) (sym is.0) tt
line_quiet None before after told is = subst (λ t. OnErr t (after ≡ before)) (sym is.0) is.1

-- a drive that does not begin
pub start_told : (a : AcceptedPlan) (entries : List ℕ) (old new before after : SinkState)
    (f : StartFault) (told : Result ℕ OutsideFault) → IsNotBegun a entries old new f
    → IsLineTold (start_line f) before after told
    → IsDriveTold (ShowsEnd a) (TellsStop a (IsMisfitIn a (lines_of entries)) old new) new before
    after told
start_told a entries old new before after (start.Misfit n) told is line =
    inr (line.0, misfit_line n, inr (is.1, inl (n, is.0, refl)), line.1)
start_told a entries old new before after start.WriteFailed told is line =
    inr (line.0, fault_line fault.WriteFailed, inl (inr (fault.WriteFailed, refl)), line.1)
start_told a entries old new before after start.Memory told is line =
    no_memory (ShowsEnd a) (TellsStop a (IsMisfitIn a (lines_of entries)) old new) new before after
    told line.0

-- ---- the journal

-- no entry does not fit
pub no_misfit : (a : AcceptedPlan) (entries : List ℕ) (n : ℕ) → entries ≡ []
    → IsMisfitIn a (lines_of entries) n → ⊥
no_misfit a entries n none is =
    let differ = subst (λ lines. IsMisfitIn a lines n)
    (subst (λ e. lines_of e ≡ []) (sym none) lines_of-nil) is in absurd cc

head_misfit : (a : AcceptedPlan) (head : List ℕ) (kept held : Option (List ℕ)) (n : ℕ)
    → IfSome kept (λ bytes. held ≡ Some bytes)
    → IfSome held (λ text. finding head text ≡ IsMisfit n) → IsMisfitOf a head kept n
head_misfit a head None held n known is = tt
head_misfit a head (Some bytes) held n known is =
    subst (λ found. IsFirstMisfit a found n)
    (sym (subst (λ h. IfSome h (λ text. finding head text ≡ IsMisfit n)) known is)) refl

-- a journal by which no run goes on
pub store_told : (a : AcceptedPlan) (head stamp : List ℕ) (kept : Option (List ℕ))
    (journal later new before after : SinkState) (f : StoreFault) (told : Result ℕ OutsideFault)
    → IfSome kept (λ bytes. journal.contents ≡ Some bytes) → IsRefused head stamp journal later f
    → IsLineTold (store_line f) before after told
    → IsDriveTold (ShowsEnd a) (TellsStop a (IsMisfitOf a head kept) new new) new before after told
store_told a head stamp kept journal later new before after Unread told known is line =
    inr (line.0, codes "portfarm: cannot open journal\n", inr (refl, inr (inr (inl refl))), line.1)
store_told a head stamp kept journal later new before after (Misfit n) told known is line =
    inr (
      line.0,
      misfit_line n,
      inr (refl, inl (n, head_misfit a head kept journal.contents n known is.misfit.1, refl)),
      line.1,
    )
store_told a head stamp kept journal later new before after Failed told known is line =
    inr (line.0, codes "portfarm: journal failed\n", inr (refl, inr (inr (inr refl))), line.1)
store_told a head stamp kept journal later new before after Memory told known is line =
    no_memory (ShowsEnd a) (TellsStop a (IsMisfitOf a head kept) new new) new before after told
    line.0

-- why there is no run by a journal
pub none_told : (a : AcceptedPlan) (head : List ℕ) (kept : Option (List ℕ))
    (new before after : SinkState) (none : NoRun) (told : Result ℕ OutsideFault)
    → IsWhyNone head kept none → IsLineTold (no_run_line none) before after told
    → IsDriveTold (ShowsEnd a) (TellsStop a (IsMisfitOf a head kept) new new) new before after told
none_told a head kept new before after (no_run.Unopened fault) told why line =
    inr (line.0, open_line fault, inr (refl, inr (inl (fault, refl))), line.1)
none_told a head kept new before after (no_run.Unkept fault) told (inl memory) line =
    no_memory (ShowsEnd a) (TellsStop a (IsMisfitOf a head kept) new new) new before after told
    (subst (λ f. IsLineTold (store_line f) before after told) memory line).0
none_told a head kept new before after (no_run.Unkept fault) told (inr why) line =
    store_told a head why.0 kept why.1 why.2 new before after fault told why.3 why.4 line

found_misfit : (a : AcceptedPlan) (head stamp text : List ℕ) (found : Finding)
    (bytes : Option (List ℕ)) (run : Resumed) (n : ℕ) → GoesOn head stamp text found bytes run
    → IsMisfitIn a (lines_of run.entries.items) n → IsFirstMisfit a found n
found_misfit a head stamp text IsFresh bytes run n goes is =
    no_misfit a run.entries.items n goes.1 is
found_misfit a head stamp text (IsKnown name lines) bytes run n goes is =
    subst (λ ls. IsMisfitIn a ls n) goes.1 is
found_misfit a head stamp text (IsMisfit line) bytes run n goes is = absurd goes

-- an entry that does not fit is one of the journal
pub resumed_misfit : (a : AcceptedPlan) (head stamp : List ℕ) (kept : Option (List ℕ))
    (journal later : SinkState) (run : Resumed) (n : ℕ)
    → IfSome kept (λ bytes. journal.contents ≡ Some bytes)
    → IsResumed head stamp journal later run
    → IsMisfitIn a (lines_of run.entries.items) n → IsMisfitOf a head kept n
resumed_misfit a head stamp None journal later run n known goes is = tt
resumed_misfit a head stamp (Some bytes) journal later run n known goes is =
    found_misfit a head stamp bytes (finding head bytes) later.contents run n
    (subst (λ h. IfSome h (λ text. GoesOn head stamp text (finding head text) later.contents run))
    known goes) is

-- ---- files

-- a drive of texts that were read
pub unless_driven : (Names : List ℕ → Type 0) (R A : List ℕ → ℕ → Type 0) (S : List ℕ → Type 0)
    (old new before after : SinkState) (told : Result ℕ OutsideFault)
    → IsDriveAnswered R A S old new before after told
    → UnlessUnread Names (new ≡ old) (IsDriveAnswered R A S old new before after told) told
unless_driven Names R A S old new before after (Ok status) is = is
unless_driven Names R A S old new before after (Err WriteFailed) is = is
unless_driven Names R A S old new before after (Err CutShort) is = is
unless_driven Names R A S old new before after (Err (BadSchedule note)) is = is
unless_driven Names R A S old new before after (Err OutOfMemory) is = is
unless_driven Names R A S old new before after (Err (CannotRead unread)) (inl is) = absurd is
unless_driven Names R A S old new before after (Err (CannotRead unread)) (inr (inl is)) =
    absurd is.1
unless_driven Names R A S old new before after (Err (CannotRead unread)) (inr (inr is)) =
    let differ = is.0 in absurd cc

-- a drive of texts is one of their files
pub driven_by : (R Q A B : List ℕ → ℕ → Type 0) (S T : List ℕ → Type 0)
    (old new before after : SinkState) (told : Result ℕ OutsideFault)
    → ((text : List ℕ) (status : ℕ) → R text status → Q text status)
    → ((text : List ℕ) (status : ℕ) → A text status → B text status)
    → ((line : List ℕ) → S line → T line)
    → IsDriveAnswered R A S old new before after told
    → IsDriveAnswered Q B T old new before after told
driven_by R Q A B S T old new before after told refuses by tells (inl is) =
    inl (answered-by R Q old new told refuses is)
driven_by R Q A B S T old new before after told refuses by tells (inr is) =
    inr (told_by A B S T new before after told by tells is)

-- what a drive comes to does not hang on the line of a fault, which is told behind it
drive_before : (R A : List ℕ → ℕ → Type 0) (S : List ℕ → Type 0)
    (old new before after later : SinkState) (f : OutsideFault)
    → IsDriveAnswered R A S old new before after (Err f)
    → IsDriveAnswered R A S old new before later (Err f)
drive_before R A S old new before after later f (inl is) = inl is
drive_before R A S old new before after later f (inr (inl is)) = inr (inl is)
drive_before R A S old new before after later f (inr (inr is)) = let differ = is.0 in absurd cc

module _ (held : List ℕ → Option (List ℕ)) (kept : Option (List ℕ)) (paths : Paths) where
  abbrev refuses : List ℕ → ℕ → Type 0
  refuses = OnFiles held paths Refuses

  abbrev ends : List ℕ → ℕ → Type 0
  ends = OnFiles held paths Finishes

  abbrev stops : SinkState → SinkState → List ℕ → Type 0
  stops old new line = (texts : Texts) × AreFilesRead held paths texts × Stops texts kept old new line

  pub drives_before : (old new before after later : SinkState) (told : Result ℕ OutsideFault)
      → IfOk told (λ _. later ≡ after) → DrivesTo held kept paths old new before after told
      → DrivesTo held kept paths old new before later told
  drives_before old new before after later (Ok status) same (inl is) = inl is
  drives_before old new before after later (Ok status) same (inr (inl is)) = inr (inl is)
  drives_before old new before after later (Ok status) same (inr (inr is)) =
      inr (inr (
        is.0,
        is.1,
        is.2,
        subst (λ end. IsWritten before end is.1) (sym same) is.3,
      ))
  drives_before old new before after later (Err (CannotRead unread)) same is = is
  drives_before old new before after later (Err OutOfMemory) same is =
      drive_before refuses ends (stops old new) old new before after later OutOfMemory is
  drives_before old new before after later (Err CutShort) same is =
      drive_before refuses ends (stops old new) old new before after later CutShort is
  drives_before old new before after later (Err (BadSchedule note)) same is =
      drive_before refuses ends (stops old new) old new before after later (BadSchedule note) is
  drives_before old new before after later (Err WriteFailed) same is =
      drive_before refuses ends (stops old new) old new before after later WriteFailed is
