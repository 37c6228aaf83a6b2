-- How the fields of a paragraph are read.
--
--   needed_at p name        the value of a field that has to stand
--   name_at, number_in      a name; a number, which may be absent
--   refused_if              a code, where a condition holds
use Rattle.std.specs.Prelude.{ℕ, Bool, true, false, nat_lt, List, Option, Some, None, Result, Ok, Err, ok_or, if◌then◌else◌}
use Rattle.deb_text.specs.Common.{number_at, ◌>>=◌, is_name}
use Rattle.deb_relation.specs.declared.error.TheConstants.{BAD_NAME}
use Rattle.deb_stanza.specs.Stanza.{Paragraph, value_of}
use Rattle.deb_fields.specs.declared.error.TheConstants.{ABSENT, BAD_VALUE}

abbrev pub needed_at : Paragraph → List ℕ → Result (List ℕ) ℕ
needed_at p name = ok_or (value_of p name) ABSENT

abbrev pub or_text : Option (List ℕ) → List ℕ → List ℕ
or_text None text = text
or_text (Some value) text = value

-- the name of a package (Debian Policy 5.6.7)
abbrev pub name_at : List ℕ → Result (List ℕ) ℕ
name_at text = if is_name text then Ok text else Err BAD_NAME

abbrev pub bounded : ℕ → Option ℕ → Result ℕ ℕ
bounded most None = Err BAD_VALUE
bounded most (Some n) = if nat_lt most n then Err BAD_VALUE else Ok n

abbrev pub number_up_to : ℕ → List ℕ → Result ℕ ℕ
number_up_to most text = bounded most (number_at text)

abbrev pub number_in : ℕ → Option (List ℕ) → Result (Option ℕ) ℕ
number_in most None = Ok None
number_in most (Some text) = number_up_to most text >>= λ n. Ok (Some n)

abbrev pub refused_if : Bool → ℕ → Result (Unit {0}) ℕ
refused_if true code = Err code
refused_if false code = Ok tt
