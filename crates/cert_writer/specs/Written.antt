-- What is written of the certificate of an accepted plan. The project's own rules.
--
--   WritesText               a text is written whole, or why it is not
--   IsCertificateWritten     the text is that of the certificate of an accepted plan
use Rattle.std.specs.Prelude.{◌≡◌, ℕ, true, false, List, length, Result, Ok, Err}
use Rattle.cert_text.specs.Certificates.{Certificate, IsCertificate}
use Rattle.cert_text.specs.Printed.{certificate_text}
use Rattle.plan_cert.specs.Certified.{Certifies}
use Rattle.plan_cert.specs.Made.{IsCertificateOf}
use Rattle.plan_verifier.specs.Accepted.{AcceptedPlan, known_rows}
use Rattle.report_sink.specs.Sinks.{SinkState, IsWritten}
use Rattle.cert_writer.specs.declared.stop.CertStop.{CertStop}
use Rattle.cert_writer.specs.declared.stop.CertStop.TheVariants.{OutOfMemory, CutShort, WriteFailed}
use Rattle.cert_writer.specs.Sending.{IsFirstPart, capped}

-- the text is written whole, and its bytes are counted; or nothing of it, where memory is refused
-- before; or a first part of it, where memory is refused in the middle or the sink fails
abbrev pub WritesText : List ℕ → SinkState → SinkState → Result ℕ CertStop → Type 0
WritesText text old new (Ok count) =
    IsWritten old new text × (new.failed ≡ false) × (count ≡ capped (length text))
WritesText text old new (Err OutOfMemory) = new ≡ old
WritesText text old new (Err CutShort) = IsFirstPart old new text
WritesText text old new (Err WriteFailed) = IsWritten old new text × (new.failed ≡ true)

-- Of an accepted plan, a certificate is written:
pub record IsCertificateWritten (a : AcceptedPlan) (old new : SinkState)
    (answer : Result ℕ CertStop)
    : Type 0 where
  pub certificate : Certificate
  -- it has the rows and the lanes of the plan;
  pub shape : IsCertificate a.universe a.plan certificate
  -- its rows are what the lanes know, and its list is the order of the verdict;
  pub made : IsCertificateOf a.universe a.plan (known_rows a) a.order certificate
  -- it passes its check;
  pub certifies : Certifies a.universe a.plan certificate
  -- and this is written of its text.
  pub written : WritesText (certificate_text a.universe a.plan certificate) old new answer
