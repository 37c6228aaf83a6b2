-- What words come to, from one meaning to another.
use Rattle.std.proofs.Common.{◌≡◌, ℕ, inl, inr, List, Option, Result, Ok, Err, subst}
use Rattle.std.specs.Prelude.{IfOk, OnErr}
use Rattle.command_line.specs.declared.request.Asked.TheVariants.{Answer}
use Rattle.command_line.specs.declared.request.Request.{Request}
use Rattle.command_line.specs.declared.request.Request.TheVariants.{CheckInput}
use Rattle.drive_answers.proofs.DriveLaws.{drives_before}
use Rattle.drive_answers.specs.DriveAnswers.{kept_in}
use Rattle.farm_answers.proofs.RunLaws.{runs-before}
use Rattle.farm_answers.specs.FaultLines.{outside_fault_line}
use Rattle.farm_answers.specs.Files.{named}
use Rattle.farm_answers.specs.declared.fault.OutsideFault.{OutsideFault}
use Rattle.farm_commands.specs.Requests.{IsRequestAnswered}
use Rattle.farm_commands.specs.Runs.{MayComeTo, MayRunTo, TellsFault}
use Rattle.report_sink.specs.Sinks.{SinkState, IsWritten}

-- an answer that is asked for is the one request that is asked for
asked_nothing : (r : Request) → Answer r ≡ Answer CheckInput → r ≡ CheckInput
asked_nothing r e = cc e

-- what is answered to no word at all
pub answered_nothing : (held : List ℕ → Option (List ℕ)) (given : Option (List ℕ)) (r : Request)
    (old new : SinkState) (told : Result ℕ OutsideFault) → Answer r ≡ Answer CheckInput
    → IsRequestAnswered held given r old new told
    → IsRequestAnswered held given CheckInput old new told
answered_nothing held given r old new told e is =
    subst (λ request. IsRequestAnswered held given request old new told) (asked_nothing r e) is

module _ (words : List (List ℕ)) (held : List ℕ → Option (List ℕ)) (given : Option (List ℕ))
    (kept : List ℕ → Option (List ℕ)) where
  -- the same of what words come to
  runs-to-before : (old new before after later : SinkState) (told : Result ℕ OutsideFault)
      → IfOk told (λ _. later ≡ after)
      → MayRunTo words held given kept old new before after told
      → MayRunTo words held given kept old new before later told
  runs-to-before old new before after later told same (inl comes) = inl comes
  runs-to-before old new before after later told same (inr (inl (name, paths, are, runs))) =
      inr (inl (
        name,
        paths,
        are,
        runs-before (named held given) paths old new before after later told same runs,
      ))
  runs-to-before old new before after later told same (inr (inr is)) =
      inr (inr (
        is.0,
        is.1,
        is.2,
        is.3,
        is.4,
        drives_before (named held given) (kept_in kept is.3) is.1 old new before after later told
            same is.5,
      ))

  pub comes-before : (left : List ℕ → Option (List ℕ)) (old new before after later : SinkState)
      (told : Result ℕ OutsideFault) → IfOk told (λ _. later ≡ after)
      → MayComeTo words held left given kept old new before after told
      → MayComeTo words held left given kept old new before later told
  comes-before left old new before after later told same (inl (files, runs)) =
      inl (files, runs-to-before old new before after later told same runs)
  comes-before left old new before after later told same (inr imports) = inr imports

-- the line of a fault is told of the state ahead, which no fault changes
pub told-of : (first before after : SinkState) (told : Result ℕ OutsideFault)
    → OnErr told (before ≡ first) → TellsFault before after told → TellsFault first after told
told-of first before after (Ok status) same tells = tells
told-of first before after (Err fault) same tells =
    subst (λ w. IsWritten w after (outside_fault_line fault)) same tells
