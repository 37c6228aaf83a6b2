-- What is answered about certificates, from one meaning to another, and what is said of the text of
-- one that is not read.
use Rattle.std.proofs.Common.{◌≡◌, ℕ, List, inl, inr, refl, Result, Ok, Err}
use Rattle.cert_text.specs.Certificates.{Certificate}
use Rattle.cert_text.specs.Printed.{certificate_text}
use Rattle.cert_text.specs.declared.fault.CertFault.{CertFault}
use Rattle.cert_text.specs.declared.fault.CertFault.TheVariants.{Text, Row, Unsafe, Uneven, Order, Memory}
use Rattle.cert_text.specs.Faults.{refusal_of}
use Rattle.deb_text.specs.Answers.{Fails}
use Rattle.farm_model.specs.Universe.{Universe}
use Rattle.plan_model.specs.Plan.{Plan}
use Rattle.cert_writer.specs.Written.{IsCertificateWritten}
use Rattle.cert_writer.specs.declared.stop.CertStop.{CertStop}
use Rattle.cert_writer.specs.declared.stop.CertStop.TheVariants.{OutOfMemory, CutShort, WriteFailed}
use Rattle.plan_verifier.specs.Accepted.{AcceptedPlan}
use Rattle.report_sink.specs.Sinks.{SinkState}
use Rattle.farm_answers.proofs.AnswerLaws.{answered-by}
use Rattle.farm_answers.specs.CertAnswers.{IsCertAnswered, IsTextVerdict, ShowsCert, outside_fault_of}
use Rattle.farm_answers.specs.Answers.{UnlessUnread}
use Rattle.farm_answers.specs.declared.fault.OutsideFault.{OutsideFault}
use Rattle.farm_answers.specs.declared.fault.OutsideFault.TheVariants as outside
use Rattle.farm_answers.specs.declared.status.TheConstants.{FINE}

-- an answer in one meaning is one in another, where each that the first allows the second does
pub certified-by : (A B : List ℕ → ℕ → Type 0) (old new : SinkState) (told : Result ℕ OutsideFault)
    → ((text : List ℕ) (status : ℕ) → A text status → B text status)
    → IsCertAnswered A old new told → IsCertAnswered B old new told
certified-by A B old new told by (inl is) = inl (answered-by A B old new told by is)
certified-by A B old new told by (inr cut) = inr (cut.0, cut.1, by cut.1 FINE cut.2, cut.3)

-- what is answered to texts that were read
pub unless-certified : (Names : List ℕ → Type 0) (A : List ℕ → ℕ → Type 0) (old new : SinkState)
    (told : Result ℕ OutsideFault) → IsCertAnswered A old new told
    → UnlessUnread Names (new ≡ old) (IsCertAnswered A old new told) told
unless-certified Names A old new (Ok status) is = is
unless-certified Names A old new (Err outside.WriteFailed) is = is
unless-certified Names A old new (Err outside.CutShort) is = is
unless-certified Names A old new (Err (outside.BadSchedule note)) is = is
unless-certified Names A old new (Err outside.OutOfMemory) is = is
unless-certified Names A old new (Err (outside.CannotRead unread)) (inl is) = absurd is
unless-certified Names A old new (Err (outside.CannotRead unread)) (inr cut) =
    let differ = cut.0 in absurd cc

-- ---- what is written of a certificate is its answer

module _ (a : AcceptedPlan) (old new : SinkState) where
  shown : (answer : Result ℕ CertStop) (w : IsCertificateWritten a old new answer)
      → ShowsCert a (certificate_text a.universe a.plan w.certificate) FINE
  shown answer w = record {
    certificate = w.certificate;
    shape = w.shape;
    made = w.made;
    certifies = w.certifies;
    text_is = refl;
    status_is = refl;
  }

  pub whole-shown : (count : ℕ) → IsCertificateWritten a old new (Ok count)
      → IsCertAnswered (ShowsCert a) old new (Ok FINE)
  whole-shown count w =
      inl (
        certificate_text a.universe a.plan w.certificate,
        shown (Ok count) w,
        w.written.0,
        w.written.1,
      )

  pub stopped-shown : (stop : CertStop) → IsCertificateWritten a old new (Err stop)
      → IsCertAnswered (ShowsCert a) old new (Err (outside_fault_of stop))
  stopped-shown OutOfMemory w = inl w.written
  stopped-shown CutShort w =
      inr (
        refl,
        certificate_text a.universe a.plan w.certificate,
        shown (Err CutShort) w,
        w.written,
      )
  stopped-shown WriteFailed w =
      inl (
        certificate_text a.universe a.plan w.certificate,
        FINE,
        shown (Err WriteFailed) w,
        w.written.0,
        w.written.1,
      )

-- ---- texts that are not read

-- a text that is refused has its fault as its verdict
pub not_read : (u : Universe) (p : Plan) (of : Result Certificate CertFault) (fault : CertFault)
    → Fails refusal_of fault of → IsTextVerdict u p of (Err fault)
not_read u p (Ok certificate) (Text line) fails = cc
not_read u p (Ok certificate) (Row lane number) fails = cc
not_read u p (Ok certificate) (Unsafe lane number trap) fails = cc
not_read u p (Ok certificate) (Uneven lane number) fails = cc
not_read u p (Ok certificate) (Order item) fails = cc
not_read u p (Ok certificate) Memory fails = tt
not_read u p (Err of) (Text line) fails = cc
not_read u p (Err of) (Row lane number) fails = cc
not_read u p (Err of) (Unsafe lane number trap) fails = cc
not_read u p (Err of) (Uneven lane number) fails = cc
not_read u p (Err of) (Order item) fails = cc
not_read u p (Err of) Memory fails = tt
