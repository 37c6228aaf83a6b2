-- What requests read, and what is answered to them. The project's own rules.
--
--   AnswersRequest    that this text and this status are what is answered to a request
--   IsRequestAnswered what is written of the answer
use Rattle.std.specs.Prelude.{◌≡◌, ℕ, Bool, false, List, Option, Result}
use Rattle.plan_reader.specs.Input.{input_texts}
use Rattle.command_line.specs.declared.request.Request.{Request}
use Rattle.command_line.specs.declared.request.Request.TheVariants.{CheckInput, Check, Explain, ExplainCert, List as ListPlan, Cert, VerifyCert, Step, StepBy, Timeline, Graph, Needs, Status, Draft, DraftLanes}
use Rattle.farm_answers.specs.Answers.{AnswersCheck, AnswersListing, AnswersStep, AnswersStepBy, IsAnswered, UnlessUnread}
use Rattle.farm_answers.specs.CertAnswers.{AnswersCert, AnswersVerifyCert, IsCertAnswered}
use Rattle.farm_commands.specs.Drafts.{AnswersDraft, AnswersLanes}
use Rattle.drive_answers.specs.Statuses.{AnswersStatus}
use Rattle.explain_answers.specs.CertExplained.{AnswersExplainCert}
use Rattle.explain_answers.specs.Explanations.{AnswersExplain}
use Rattle.farm_commands.specs.Needs.{AnswersNeeds}
use Rattle.farm_commands.specs.Pictures.{AnswersGraph, AnswersTimeline, is_json}
use Rattle.farm_answers.specs.Files.{AreCalled, AreCalledWith, AreFarmCalled, IsInput, IsInputName, OnFarmFiles, OnFiles, OnFilesAndOne, named}
use Rattle.farm_answers.specs.NoneLines.{SaysNone}
use Rattle.report_sink.specs.Sinks.{SinkState}
use Rattle.farm_answers.specs.declared.fault.OutsideFault.{OutsideFault}

-- the verdict on the texts that standard input is cut into
abbrev pub OnInput : Option (List ℕ) → List ℕ → ℕ → Type 0
OnInput given text status =
    (input : List ℕ) × IsInput given input × AnswersCheck false (input_texts input) text status

-- what is answered, by the bytes that files and standard input are known to have
abbrev pub AnswersRequest : (List ℕ → Option (List ℕ)) → Option (List ℕ) → Request → List ℕ → ℕ
    → Type 0
AnswersRequest held given CheckInput text status = OnInput given text status
AnswersRequest held given (Check paths json) text status =
    OnFiles (named held given) paths (AnswersCheck json) text status
AnswersRequest held given (Explain paths json) text status =
    OnFiles (named held given) paths (AnswersExplain json) text status
AnswersRequest held given (ExplainCert cert paths) text status =
    OnFilesAndOne (named held given) paths cert.now AnswersExplainCert text status
AnswersRequest held given (ListPlan paths number) text status =
    OnFiles (named held given) paths (AnswersListing number) text status
AnswersRequest held given (Cert paths) text status =
    OnFiles (named held given) paths AnswersCert text status
AnswersRequest held given (VerifyCert cert paths) text status =
    OnFilesAndOne (named held given) paths cert.now AnswersVerifyCert text status
AnswersRequest held given (Step schedule paths) text status =
    OnFiles (named held given) paths (AnswersStep schedule.items) text status
AnswersRequest held given (StepBy list paths) text status =
    OnFilesAndOne (named held given) paths list.now AnswersStepBy text status
AnswersRequest held given (Timeline paths form full) text status =
    OnFiles (named held given) paths (AnswersTimeline (is_json form)) text status
AnswersRequest held given (Graph paths json) text status =
    OnFiles (named held given) paths (AnswersGraph json) text status
AnswersRequest held given (Needs recipes paths json) text status =
    OnFiles (named held given) paths (AnswersNeeds json recipes.items) text status
AnswersRequest held given (Status journal paths json) text status =
    OnFilesAndOne (named held given) paths journal.now (AnswersStatus json) text status
AnswersRequest held given (Draft paths rest partial) text status =
    OnFiles (named held given) paths (AnswersDraft rest partial) text status
AnswersRequest held given (DraftLanes paths lanes partial) text status =
    OnFarmFiles (named held given) paths (AnswersLanes lanes partial) text status

-- what is read for a request is called so
abbrev pub AreCalledFor : Request → List ℕ → Type 0
AreCalledFor CheckInput told = IsInputName told
AreCalledFor (Check paths json) told = AreCalled paths told
AreCalledFor (Explain paths json) told = AreCalled paths told
AreCalledFor (ExplainCert cert paths) told = AreCalledWith paths cert.now told
AreCalledFor (ListPlan paths number) told = AreCalled paths told
AreCalledFor (Cert paths) told = AreCalled paths told
AreCalledFor (VerifyCert cert paths) told = AreCalledWith paths cert.now told
AreCalledFor (Step schedule paths) told = AreCalled paths told
AreCalledFor (StepBy list paths) told = AreCalledWith paths list.now told
AreCalledFor (Timeline paths form full) told = AreCalled paths told
AreCalledFor (Graph paths json) told = AreCalled paths told
AreCalledFor (Needs recipes paths json) told = AreCalled paths told
AreCalledFor (Status journal paths json) told = AreCalledWith paths journal.now told
AreCalledFor (Draft paths rest partial) told = AreCalled paths told
AreCalledFor (DraftLanes paths lanes partial) told = AreFarmCalled paths told

-- what is written of the answer: a certificate alone may be cut by want of memory
abbrev pub IsRequestTold : (List ℕ → Option (List ℕ)) → Option (List ℕ) → Request → SinkState
    → SinkState → Result ℕ OutsideFault → Type 0
IsRequestTold held given (Cert paths) old new told =
    IsCertAnswered (AnswersRequest held given (Cert paths)) old new told
IsRequestTold held given request old new told =
    IsAnswered (AnswersRequest held given request) old new told

-- that, or what is read for it cannot be
abbrev pub IsRequestMet : (List ℕ → Option (List ℕ)) → Option (List ℕ) → Request → SinkState
    → SinkState → Result ℕ OutsideFault → Type 0
IsRequestMet held given request old new told =
    UnlessUnread (AreCalledFor request) (new ≡ old) (IsRequestTold held given request old new told)
    told

-- a verdict or its explanation is asked for as JSON
abbrev pub asks_json : Request → Bool
asks_json (Check paths json) = json
asks_json (Explain paths json) = json
asks_json request = false

-- the same, and behind it as JSON that there is no verdict, where it is asked for so
abbrev pub IsRequestAnswered : (List ℕ → Option (List ℕ)) → Option (List ℕ) → Request → SinkState
    → SinkState → Result ℕ OutsideFault → Type 0
IsRequestAnswered held given request old new told =
    (met : SinkState) × IsRequestMet held given request old met told
    × SaysNone (asks_json request) met new told
