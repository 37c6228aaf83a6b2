-- What the faults of fields stand for. Only the contracts of private functions cite this file.
--
--   code_of fault              its code
--   refusal_of fault           its code, unless memory ran out
--   field_told file p read     what is read of a paragraph, a fault told at its first line
use Rattle.std.specs.Prelude.{ℕ, Option, Result, Ok, Err, ◌==◌, if◌then◌else◌}
use Rattle.deb_text.specs.Answers.{fault_at, refusal_code}
use Rattle.deb_text.specs.declared.fault.Fault.{Fault}
use Rattle.deb_stanza.specs.Stanza.{Paragraph}
use Rattle.deb_relation.specs.declared.error.TheConstants.{BAD_NAME}
use Rattle.farm_universe.specs.declared.error.FieldFault.{FieldFault}
use Rattle.farm_universe.specs.declared.error.FieldFault.TheVariants.{Absent, BadName, BadVersion, BadRelations, BadValue, Twice, TooManyVariants, UnknownVariant, UnknownSource, Taken, NoOutput, UnsettledBase, OverLimit, Memory}
use Rattle.farm_universe.specs.declared.error.TheConstants.{ABSENT, BAD_VALUE, TWICE, TOO_MANY_VARIANTS, UNKNOWN_VARIANT, UNKNOWN_SOURCE, TAKEN, NO_OUTPUT, UNSETTLED_BASE, OVER_LIMIT}

abbrev pub code_of : FieldFault → ℕ
code_of Absent = ABSENT
code_of BadName = BAD_NAME
code_of (BadVersion error) = error.code
code_of (BadRelations error) = error.code
code_of BadValue = BAD_VALUE
code_of Twice = TWICE
code_of TooManyVariants = TOO_MANY_VARIANTS
code_of UnknownVariant = UNKNOWN_VARIANT
code_of UnknownSource = UNKNOWN_SOURCE
code_of Taken = TAKEN
code_of NoOutput = NO_OUTPUT
code_of UnsettledBase = UNSETTLED_BASE
code_of OverLimit = OVER_LIMIT
code_of Memory = 900

-- the code, unless memory ran out
abbrev pub refusal_of : FieldFault → Option ℕ
refusal_of fault = refusal_code (code_of fault)

-- a fault at a line of a file, or that memory ran out
abbrev pub fault_of_field : ℕ → ℕ → FieldFault → Fault
fault_of_field file line fault =
    if code_of fault == 900 then fault_at 0 0 900 else fault_at file line (code_of fault)

-- what is read of a paragraph, a fault told at its first line
abbrev pub field_told : {X : Type 0} → ℕ → Paragraph → Result X FieldFault → Result X Fault
field_told file p (Ok x) = Ok x
field_told file p (Err fault) = Err (fault_of_field file p.line fault)
