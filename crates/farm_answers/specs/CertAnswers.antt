-- What the commands on certificates answer: a text and a status. The project's own rules.
-- Parameters: u a universe, p a plan.
--
--   AnswersCert           that this text and this status are what `cert` answers
--   IsCertAnswered        what is written of its answer, which may be cut by want of memory
--   IsTextVerdict         the verdict on the text of a certificate
--   AnswersVerifyCert     that this text and this status are what `verify-cert` answers
use Rattle.std.specs.Prelude.{◌≡◌, ◌≢◌, ◌⊎◌, ℕ, ◌≤◌, List, ◌++◌, codes, Result, Ok, Err}
use Rattle.std.specs.Fmt.{decimal}
use Rattle.std.specs.Result.{is_ok}
use Rattle.cert_text.specs.Certificates.{Certificate, IsCertificate}
use Rattle.cert_text.specs.CertText.{certificate_of}
use Rattle.cert_text.specs.declared.fault.CertFault.{CertFault}
use Rattle.cert_text.specs.declared.fault.CertFault.TheVariants.{Memory}
use Rattle.cert_text.specs.Faults.{refusal_of}
use Rattle.cert_text.specs.Printed.{certificate_text}
use Rattle.cert_writer.specs.Sending.{IsFirstPart}
use Rattle.cert_writer.specs.declared.stop.CertStop.{CertStop}
use Rattle.cert_writer.specs.declared.stop.CertStop.TheVariants.{OutOfMemory as NoMemory, CutShort as Cut, WriteFailed as NotWritten}
use Rattle.deb_text.specs.Answers.{Gives}
use Rattle.deb_text.specs.declared.fault.Fault.{Fault}
use Rattle.plan_reader.specs.Input.{Texts}
use Rattle.farm_model.specs.Universe.{Universe}
use Rattle.farm_report.specs.CertText.{cert_text}
use Rattle.plan_cert.specs.Certified.{Certifies, IsCertVerdict}
use Rattle.plan_cert.specs.Made.{IsCertificateOf}
use Rattle.plan_model.specs.Plan.{Plan}
use Rattle.plan_verifier.specs.Accepted.{AcceptedPlan, known_rows}
use Rattle.plan_verifier.specs.declared.refusal.Refusal.{Refusal}
use Rattle.plan_verifier.specs.declared.refusal.Refusal.TheVariants.{Text}
use Rattle.plan_reader.specs.Planned.{FarmPlan}
use Rattle.plan_verifier.specs.Verdict.{IsVerdict}
use Rattle.report_sink.specs.Sinks.{SinkState, IsWritten}
use Rattle.farm_answers.specs.Answers.{AnswersVerdict, IsAnswered, TellsVerdict, planned_in, status_of}
use Rattle.farm_answers.specs.declared.source.TheConstants.{MOST_FILE}
use Rattle.farm_answers.specs.declared.fault.OutsideFault.{OutsideFault}
use Rattle.farm_answers.specs.declared.fault.OutsideFault.TheVariants.{OutOfMemory, CutShort, WriteFailed}
use Rattle.farm_answers.specs.declared.status.TheConstants.{FINE}

-- Of an accepted plan, the text of a certificate:
pub record ShowsCert (a : AcceptedPlan) (text : List ℕ) (status : ℕ) : Type 0 where
  pub certificate : Certificate
  -- it has the rows and the lanes of the plan;
  pub shape : IsCertificate a.universe a.plan certificate
  -- its rows are what the lanes know, and its list is the order of the verdict;
  pub made : IsCertificateOf a.universe a.plan (known_rows a) a.order certificate
  -- it passes its check.
  pub certifies : Certifies a.universe a.plan certificate
  pub text_is : text ≡ certificate_text a.universe a.plan certificate
  pub status_is : status ≡ FINE

-- the certificate of an accepted plan, or the refusal
abbrev pub Prints : Result AcceptedPlan Refusal → List ℕ → ℕ → Type 0
Prints (Ok a) text status = ShowsCert a text status
Prints (Err refusal) text status = AnswersVerdict (Err refusal) text status

-- `cert`
abbrev pub AnswersCert : Texts → List ℕ → ℕ → Type 0
AnswersCert texts text status =
    (verdict : Result AcceptedPlan Refusal) × IsVerdict (planned_in texts) verdict
    × Prints verdict text status

-- where no memory is left to go on with a certificate, a first part of the text is written that
-- would have been answered, and nothing else
abbrev pub IsCutShort : (List ℕ → ℕ → Type 0) → SinkState → SinkState → Result ℕ OutsideFault
    → Type 0
IsCutShort Answers old new told =
    (told ≡ Err CutShort) × (text : List ℕ) × Answers text FINE × IsFirstPart old new text

-- `cert` is answered as other commands are, or its answer is cut
abbrev pub IsCertAnswered : (List ℕ → ℕ → Type 0) → SinkState → SinkState → Result ℕ OutsideFault
    → Type 0
IsCertAnswered Answers old new told = IsAnswered Answers old new told
    ⊎ IsCutShort Answers old new told

-- what is said of a certificate of so many bytes that is longer than a text may be
abbrev pub long_line : ℕ → List ℕ
long_line count =
    codes "portfarm: a certificate of "
    ++ decimal count ++ codes " bytes is longer than verify-cert takes\n"

-- the error output has such a line, or nothing more
abbrev pub MayTellLength : SinkState → SinkState → Type 0
MayTellLength before after =
    (after ≡ before) ⊎ ((count : ℕ) × (MOST_FILE ≤ count)
    × IsWritten before after (long_line count))

-- what ends the command where a certificate is not written whole
abbrev pub outside_fault_of : CertStop → OutsideFault
outside_fault_of NoMemory = OutOfMemory
outside_fault_of Cut = CutShort
outside_fault_of NotWritten = WriteFailed

-- the verdict on the certificate that a text is, or the fault of a text that is none, unless memory
-- ran out
abbrev pub IsTextVerdict : Universe → Plan → Result Certificate CertFault → Result Unit CertFault
    → Type 0
IsTextVerdict u p (Ok certificate) verdict = IsCertVerdict u p certificate verdict
IsTextVerdict u p (Err fault) verdict = Gives refusal_of (λ passed. passed) verdict (Err fault)

-- the text and the status of this verdict, which is not want of memory
abbrev pub TellsCert : Plan → Result Unit CertFault → List ℕ → ℕ → Type 0
TellsCert p verdict text status =
    (verdict ≢ Err Memory) × (text ≡ cert_text p verdict) × (status ≡ status_of (is_ok verdict))

-- the verdict on the text of a certificate, or the first fault of the texts of the farm
abbrev pub Verifies : List ℕ → Result FarmPlan Fault → List ℕ → ℕ → Type 0
Verifies cert (Ok of) text status =
    (verdict : Result Unit CertFault)
    × IsTextVerdict of.universe of.plan (certificate_of of.universe of.plan cert) verdict
    × TellsCert of.plan verdict text status
Verifies cert (Err fault) text status = TellsVerdict (Err (Text fault)) text status

-- `verify-cert`
abbrev pub AnswersVerifyCert : List ℕ → Texts → List ℕ → ℕ → Type 0
AnswersVerifyCert cert texts text status = Verifies cert (planned_in texts) text status
