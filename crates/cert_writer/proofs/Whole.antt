-- What is written of the whole certificate.
use Rattle.std.proofs.Common.{◌≡◌, ℕ, ◌-◌, ◌^◌, ◌≤◌, true, List, [], ◌++◌, length, codes, refl, sym, ap, ◌∙◌, subst, arith, Result, Ok, Err}
use Rattle.std.proofs.lemmas.List.{append-nil}
use Rattle.cert_text.specs.Printed.{certificate_text}
use Rattle.plan_verifier.specs.Accepted.{AcceptedPlan, IsAccepted, known_rows}
use Rattle.report_sink.specs.Sinks.{SinkState, IsWritten}
use Rattle.report_sink.proofs.WriteLaws.{cut_short, nothing_written}
use Rattle.cert_writer.proofs.Made.{written-shape, written-exact, written-certifies}
use Rattle.cert_writer.proofs.Texts.{text-is}
use Rattle.cert_writer.specs.declared.pending.Pending.{Pending}
use Rattle.cert_writer.specs.declared.stop.CertStop.{CertStop}
use Rattle.cert_writer.specs.declared.stop.CertStop.TheVariants.{OutOfMemory, CutShort, WriteFailed}
use Rattle.cert_writer.specs.Lines.{all_lines}
use Rattle.cert_writer.specs.NewRows.{certificate_by}
use Rattle.cert_writer.specs.Sending.{IsFirstPart, IsSent, IsStoppedSending, capped}
use Rattle.cert_writer.specs.Written.{WritesText, IsCertificateWritten}

module _ (a : AcceptedPlan) (is : IsAccepted a) where
  abbrev lines : List ℕ
  lines = all_lines a.universe a.plan (known_rows a) a.order

  abbrev whole : List ℕ
  whole = certificate_text a.universe a.plan
      (certificate_by a.universe a.plan (known_rows a) a.order)

  written : (old new : SinkState) (answer : Result ℕ CertStop) → WritesText whole old new answer
      → IsCertificateWritten a old new answer
  written old new answer writes = record {
    certificate = certificate_by a.universe a.plan (known_rows a) a.order;
    shape = written-shape a is;
    made = written-exact a is;
    certifies = written-certifies a is;
    written = writes;
  }

  -- the sink had failed before
  pub had_failed : (s : SinkState) → s.failed ≡ true → IsCertificateWritten a s s (Err WriteFailed)
  had_failed s failed =
      written s s (Err WriteFailed) (cut_short s s [] whole (nothing_written s) failed, failed)

  -- memory was refused before
  pub not_begun : (s : SinkState) → IsCertificateWritten a s s (Err OutOfMemory)
  not_begun s = written s s (Err OutOfMemory) refl

  module _ (old new : SinkState) (before after : Pending)
      (head : before.text.items ≡ codes "cert 1\n") where
    text : before.text.items ++ lines ≡ whole
    text =
        ap (λ t. t ++ lines) head
        ∙ sym (text-is a.universe a.plan (known_rows a) a.order)

    pub all_written : (count : ℕ) → before.sent ≡ 0 → IsSent old new before after lines
        → after.text.items ≡ [] → count ≡ after.sent → count ≤ 2 ^ 64 - 1
        → IsCertificateWritten a old new (Ok count)
    all_written count none sent end same small =
        written old new (Ok count) (
          subst (IsWritten old new) part sent.written,
          sent.going,
          counted,
        )
      where
        part : sent.part ≡ whole
        part =
            sym (append-nil sent.part) ∙ ap (λ t. sent.part ++ t) (sym end) ∙ sym sent.is_part
            ∙ text

        counted : count ≡ capped (length whole)
        counted = omega (arith, sent.counted, none, same, small, ap length part)

    pub stopped_written : (stop : CertStop) → IsStoppedSending old new before lines stop
        → IsCertificateWritten a old new (Err stop)
    stopped_written OutOfMemory stopped = written old new (Err OutOfMemory) stopped.1
    stopped_written CutShort stopped =
        written old new (Err CutShort) (subst (IsFirstPart old new) text stopped)
    stopped_written WriteFailed stopped =
        written old new (Err WriteFailed) (subst (IsWritten old new) text stopped.0, stopped.1)
