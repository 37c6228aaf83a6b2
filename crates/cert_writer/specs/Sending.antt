-- What becomes of a text that is put together piece by piece and written to a sink, as far as
-- memory and the sink allow. The project's own rules.
--
--   IsFirstPart       a first part of a text is written, and the sink has not failed
--   capped            a number, or the greatest of 64 bits
--   IsSent            more of a text is put behind what is not written, and some of it is written
--   IsStoppedSending  memory or the sink have failed in the middle
use Rattle.std.specs.Prelude.{◌≡◌, ℕ, ◌+◌, ◌-◌, ◌^◌, min, false, true, List, ◌++◌, length, Result, Ok, Err}
use Rattle.report_sink.specs.Sinks.{SinkState, IsWritten}
use Rattle.cert_writer.specs.declared.pending.Pending.{Pending}
use Rattle.cert_writer.specs.declared.stop.CertStop.{CertStop}
use Rattle.cert_writer.specs.declared.stop.CertStop.TheVariants.{OutOfMemory, CutShort, WriteFailed}

-- a first part of the text is written whole, and nothing behind it
pub record IsFirstPart (old new : SinkState) (text : List ℕ) : Type 0 where
  pub part : List ℕ
  pub left : List ℕ
  pub is_part : text ≡ part ++ left
  pub written : IsWritten old new part
  pub going : new.failed ≡ false

-- the number, or the greatest one of 64 bits where it is more
abbrev pub capped : ℕ → ℕ
capped n = min n (2 ^ 64 - 1)

-- More of a text is put behind what is not written yet, and then
pub record IsSent (old new : SinkState) (before after : Pending) (more : List ℕ) : Type 0 where
  -- a first part of it all is written, and the rest is not written yet;
  pub part : List ℕ
  pub is_part : before.text.items ++ more ≡ part ++ after.text.items
  pub written : IsWritten old new part
  pub going : new.failed ≡ false
  -- its bytes are counted;
  pub counted : capped after.sent ≡ capped (before.sent + length part)
  -- and where none ever were written, the sink is as it was.
  pub untouched : after.sent ≡ 0 → new ≡ old

-- memory was refused: something was written, or nothing
abbrev pub IsOutOfMemory : ℕ → CertStop → Type 0
IsOutOfMemory sent OutOfMemory = sent ≡ 0
IsOutOfMemory sent CutShort = Unit {0}
IsOutOfMemory sent WriteFailed = ⊥

-- what is written where more of a text could not be made, or not be written
abbrev pub IsStoppedSending : SinkState → SinkState → Pending → List ℕ → CertStop → Type 0
IsStoppedSending old new before more OutOfMemory = (before.sent ≡ 0) × (new ≡ old)
IsStoppedSending old new before more CutShort = IsFirstPart old new (before.text.items ++ more)
IsStoppedSending old new before more WriteFailed =
    IsWritten old new (before.text.items ++ more) × (new.failed ≡ true)

-- more is sent on, or not all of it
abbrev pub IsSentOn : SinkState → SinkState → Pending → Pending → List ℕ → Result Unit CertStop
    → Type 0
IsSentOn old new before after more (Ok done) = IsSent old new before after more
IsSentOn old new before after more (Err stop) = IsStoppedSending old new before more stop
