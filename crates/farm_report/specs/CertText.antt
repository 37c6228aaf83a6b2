-- What the checker of a certificate answers, as it is printed. The project's own format.
--
--   fault_text, cert_text     a fault, and an answer
use Rattle.std.specs.Prelude.{ℕ, List, codes, Result, Ok, Err}
use Rattle.cert_text.specs.declared.fault.CertFault.{CertFault}
use Rattle.cert_text.specs.declared.fault.CertFault.TheVariants.{Text, Row, Unsafe, Uneven, Order, Memory}
use Rattle.cert_text.specs.declared.fault.TheConstants.{BAD_TEXT, NOT_JUSTIFIED, UNSAFE, UNEVEN, BAD_ORDER}
use Rattle.farm_model.specs.TrapText.{trap_text}
use Rattle.plan_model.specs.Plan.{Plan, lane}
use Rattle.farm_report.specs.AnswerLines.{refused_at_line, row_line, unsafe_line, memory_line}

-- the one line of a fault, with the name of its lane
abbrev pub fault_text : Plan → CertFault → List ℕ
fault_text p (Text line) = refused_at_line BAD_TEXT (codes "line") line
fault_text p (Row number instruction) = row_line NOT_JUSTIFIED (lane p number).name instruction
fault_text p (Unsafe number instruction trap) =
    unsafe_line UNSAFE (lane p number).name instruction (trap_text trap)
fault_text p (Uneven number instruction) =
    row_line UNEVEN (lane p number).name instruction
fault_text p (Order item) = refused_at_line BAD_ORDER (codes "item") item
fault_text p Memory = memory_line

-- `certified`, or the fault
abbrev pub cert_text : Plan → Result (Unit {0}) CertFault → List ℕ
cert_text p (Ok passed) = codes "certified\n"
cert_text p (Err fault) = fault_text p fault
