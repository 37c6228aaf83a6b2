-- The codes of a certificate's faults.
--
--   cert_code_of fault  the code
--   refusal_of fault    the fault, unless memory ran out
use Rattle.std.specs.Prelude.{ℕ, Option, Some, None}
use Rattle.cert_text.specs.declared.fault.CertFault.{CertFault}
use Rattle.cert_text.specs.declared.fault.CertFault.TheVariants.{Text, Row, Unsafe, Uneven, Order, Memory}
use Rattle.cert_text.specs.declared.fault.TheConstants.{BAD_TEXT, NOT_JUSTIFIED, UNSAFE, UNEVEN, BAD_ORDER}

abbrev pub cert_code_of : CertFault → ℕ
cert_code_of (Text line) = BAD_TEXT
cert_code_of (Row lane instruction) = NOT_JUSTIFIED
cert_code_of (Unsafe lane instruction trap) = UNSAFE
cert_code_of (Uneven lane instruction) = UNEVEN
cert_code_of (Order item) = BAD_ORDER
cert_code_of Memory = 900

-- the fault, unless memory ran out
abbrev pub refusal_of : CertFault → Option CertFault
refusal_of (Text line) = Some (Text line)
refusal_of (Row lane instruction) = Some (Row lane instruction)
refusal_of (Unsafe lane instruction trap) = Some (Unsafe lane instruction trap)
refusal_of (Uneven lane instruction) = Some (Uneven lane instruction)
refusal_of (Order item) = Some (Order item)
refusal_of Memory = None
