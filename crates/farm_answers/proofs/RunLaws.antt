-- What a run comes to, from one meaning to another.
use Rattle.std.proofs.Common.{◌≡◌, ℕ, inl, inr, List, Option, Some, Result, Ok, Err, slice_get, refl, sym, subst, ◌∙◌}
use Rattle.std.specs.Prelude.{IfOk}
use Rattle.chroot_state.specs.Held.{Held}
use Rattle.farm_archive.specs.declared.publication.Publication.{Publication}
use Rattle.farm_executor.proofs.Pairs.{some_at}
use Rattle.farm_executor.specs.FarmRuns.{IsFarmRun, IsStoppedRun}
use Rattle.farm_executor.specs.declared.causes.TheConstants.{NOT_STARTED}
use Rattle.farm_model.specs.Chroot.{used}
use Rattle.lane_runner.specs.declared.run.LaneStop.{LaneStop}
use Rattle.plan_verifier.specs.Accepted.{AcceptedPlan}
use Rattle.report_sink.specs.Sinks.{SinkState, IsWritten}
use Rattle.farm_answers.proofs.AnswerLaws.{answered-by}
use Rattle.farm_answers.specs.Answers.{UnlessUnread}
use Rattle.farm_answers.specs.FarmAnswers.{AnswersRun, ComesToEnd, RunsTo, StopsRun}
use Rattle.farm_answers.specs.Files.{AreFilesRead, OnFiles, named}
use Rattle.farm_answers.specs.declared.fault.OutsideFault.{OutsideFault}
use Rattle.farm_answers.specs.declared.fault.OutsideFault.TheVariants.{CannotRead, OutOfMemory, CutShort, BadSchedule, WriteFailed}
use Rattle.plan_reader.specs.Input.{Texts}
use Rattle.command_line.specs.declared.request.Paths.{Paths}

-- an end in one meaning is one in another
pub comes-by : (A B : List ℕ → ℕ → Type 0) (S T : List ℕ → Type 0)
    (old new before after : SinkState) (told : Result ℕ OutsideFault)
    → ((text : List ℕ) (status : ℕ) → A text status → B text status)
    → ((line : List ℕ) → S line → T line)
    → ComesToEnd A S old new before after told → ComesToEnd B T old new before after told
comes-by A B S T old new before after told by tells (inl is) =
    inl (answered-by A B old new told by is)
comes-by A B S T old new before after told by tells (inr is) =
    inr (is.0, is.1, is.2, tells is.2 is.3, is.4)

-- a run of texts that were read
pub unless-ended : (Names : List ℕ → Type 0) (A : List ℕ → ℕ → Type 0) (S : List ℕ → Type 0)
    (old new before after : SinkState) (told : Result ℕ OutsideFault)
    → ComesToEnd A S old new before after told
    → UnlessUnread Names (new ≡ old) (ComesToEnd A S old new before after told) told
unless-ended Names A S old new before after (Ok status) is = is
unless-ended Names A S old new before after (Err WriteFailed) is = is
unless-ended Names A S old new before after (Err CutShort) is = is
unless-ended Names A S old new before after (Err (BadSchedule note)) is = is
unless-ended Names A S old new before after (Err OutOfMemory) is = is
unless-ended Names A S old new before after (Err (CannotRead unread)) (inl is) = absurd is
unless-ended Names A S old new before after (Err (CannotRead unread)) (inr is) =
    let differ = is.1 in absurd cc

-- a gate that never gives up stops no lane
pub never_started : (a : AcceptedPlan) (ends : List LaneStop) (code l : ℕ)
    → IsStoppedRun a ⊥ ends code l → IsStoppedRun a ⊥ ends NOT_STARTED l
never_started a ends code l is = elim is.cause [
  | inl because ↦ record {
    long = is.long;
    codes = is.codes;
    unnamed = is.unnamed;
    cause = inl (refl, because.1);
    gave_up = is.gave_up;
  }
  | inr because ↦ elim (is.gave_up l because.2.there.0 because.2.there.1 because.2.there.2) [ ]
]

-- each chroot at the end of a run counts what it uses
pub all_used : (a : AcceptedPlan) (chroots : List Held) (spent : List ℕ)
    (history : List Publication)
    → IsFarmRun a chroots spent history → (l : ℕ) (c : Held) → slice_get chroots l ≡ Some c
    → c.used ≡ used a.universe c.slots
all_used a chroots spent history is l c here =
    let other = some_at chroots spent l c (is.long.1 ∙ sym is.long.0) here in
    (is.lanes l c other.0 here other.1).held.used

-- what a run comes to does not hang on the line of a fault, which is told behind it
ended-before : (A : List ℕ → ℕ → Type 0) (S : List ℕ → Type 0)
    (old new before after later : SinkState) (fault : OutsideFault)
    → ComesToEnd A S old new before after (Err fault)
    → ComesToEnd A S old new before later (Err fault)
ended-before A S old new before after later fault (inl is) = inl is
ended-before A S old new before after later fault (inr is) = let differ = is.1 in absurd cc

module _ (held : List ℕ → Option (List ℕ)) (paths : Paths) where
  abbrev answers : List ℕ → ℕ → Type 0
  answers = OnFiles held paths AnswersRun

  abbrev stops : List ℕ → Type 0
  stops line = (texts : Texts) × AreFilesRead held paths texts × StopsRun texts line

  pub runs-before : (old new before after later : SinkState) (told : Result ℕ OutsideFault)
      → IfOk told (λ _. later ≡ after) → RunsTo held paths old new before after told
      → RunsTo held paths old new before later told
  runs-before old new before after later (Ok status) same (inl is) = inl is
  runs-before old new before after later (Ok status) same (inr is) =
      inr (
        is.0,
        is.1,
        is.2,
        is.3,
        subst (λ end. IsWritten before end is.2) (sym same) is.4,
      )
  runs-before old new before after later (Err (CannotRead unread)) same is = is
  runs-before old new before after later (Err OutOfMemory) same is =
      ended-before answers stops old new before after later OutOfMemory is
  runs-before old new before after later (Err CutShort) same is =
      ended-before answers stops old new before after later CutShort is
  runs-before old new before after later (Err (BadSchedule note)) same is =
      ended-before answers stops old new before after later (BadSchedule note) is
  runs-before old new before after later (Err WriteFailed) same is =
      ended-before answers stops old new before after later WriteFailed is
