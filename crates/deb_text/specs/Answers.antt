-- What a reader answers: what its definition says, or that memory ran out.
--
--   refusal_of fault            the fault, unless it says that memory ran out
--   refusal_code code           the same of an error that is a code alone
--   Gives refusal view r read   r, which a function returned, is what the definition read says
use Rattle.std.specs.Prelude.{◌≡◌, ℕ, Bool, ◌==◌, ◌&&◌, if◌then◌else◌, Option, Some, None, MatchOption, Result, Ok, Err}
use Rattle.deb_text.specs.declared.fault.Fault.{Fault}

-- memory ran out: file 0, line 0, code 900
abbrev pub is_memory : Fault → Bool
is_memory fault = fault.code == 900 && fault.line == 0 && fault.file == 0

-- the fault, unless memory ran out
abbrev pub refusal_of : Fault → Option Fault
refusal_of fault = if is_memory fault then None else Some fault

-- the code, unless memory ran out
abbrev pub refusal_code : ℕ → Option ℕ
refusal_code code = if code == 900 then None else Some code

-- an error is what reading refuses, unless memory ran out
abbrev pub Fails : {E F Y : Type 0} → (E → Option F) → E → Result Y F → Type 0
Fails refusal e read = MatchOption (refusal e) (Unit {0}) (λ fault. read ≡ Err fault)

-- what a function returned, seen by view, is what reading says, unless memory ran out
abbrev pub Gives : {E F X Y : Type 0} → (E → Option F) → (X → Y) → Result X E → Result Y F → Type 0
Gives refusal view (Ok x) read = read ≡ Ok (view x)
Gives refusal view (Err e) read = Fails refusal e read

-- a code told at a line of a file
abbrev pub fault_at : ℕ → ℕ → ℕ → Fault
fault_at file line code = record { file = file; line = line; code = code }

-- what a part of a line says, its code told at that line
abbrev pub placed : {X : Type 0} → ℕ → ℕ → Result X ℕ → Result X Fault
placed file line (Ok x) = Ok x
placed file line (Err code) = Err (fault_at file line code)
