-- The fields of a paragraph, as the texts of a farm use them. What is read is a value, or the code
-- of a fault.
--
--   needed_at p name             the value of a field that has to stand
--   package_name_at, version_text_at  a name; a version, as it is written
--   number_up_to most text       a number
--   size_at, flag_at,
--   relations_in                 sizes, flags and relation fields, which may be absent
--   refused_if                   a code, where a condition holds
use Rattle.std.specs.Prelude.{ℕ, Bool, true, false, nat_lt, List, [], Option, Some, None, Result, Ok, Err, ok_or, codes, if◌then◌else◌}
use Rattle.std.specs.Str.{bytes_eq}
use Rattle.deb_text.specs.Common.{number_at, ◌>>=◌, is_name}
use Rattle.deb_stanza.specs.Stanza.{Paragraph, value_of}
use Rattle.deb_version.specs.Grammar.{version_at}
use Rattle.deb_relation.specs.Common.{relations_at, Relations}
use Rattle.deb_relation.specs.declared.error.TheConstants.{BAD_NAME}
use Rattle.deb_relation.specs.declared.kind.Kind.{Kind}
use Rattle.farm_universe.specs.declared.error.TheConstants.{ABSENT, BAD_VALUE}
use Rattle.farm_universe.specs.declared.limits.TheConstants.{MOST_SIZE}

-- the value of a field that has to stand
abbrev pub needed_at : Paragraph → List ℕ → Result (List ℕ) ℕ
needed_at p name = ok_or (value_of p name) ABSENT

-- the name of a package (Debian Policy 5.6.7)
abbrev pub package_name_at : List ℕ → Result (List ℕ) ℕ
package_name_at text = if is_name text then Ok text else Err BAD_NAME

-- a version, as it is written (Policy 5.6.12)
abbrev pub version_text_at : List ℕ → Result (List ℕ) ℕ
version_text_at text = version_at text >>= λ parts. Ok text

-- a number, if there is one, of at most this much
abbrev pub up_to : ℕ → Option ℕ → Result ℕ ℕ
up_to most None = Err BAD_VALUE
up_to most (Some n) = if nat_lt most n then Err BAD_VALUE else Ok n

-- a number of at most this much
abbrev pub number_up_to : ℕ → List ℕ → Result ℕ ℕ
number_up_to most text = up_to most (number_at text)

-- Installed-Size (Policy 5.6.20) or Scratch, in KiB; absent: 0 (the project's own rule)
abbrev pub size_at : Option (List ℕ) → Result ℕ ℕ
size_at None = Ok 0
size_at (Some text) = number_up_to MOST_SIZE text

-- a flag, by its word
abbrev pub flag_of : List ℕ → Result Bool ℕ
flag_of text =
    if bytes_eq text (codes "yes") then Ok true
    else if bytes_eq text (codes "no") then Ok false
    else Err BAD_VALUE

-- Essential (Policy 3.8); absent: no
abbrev pub flag_at : Option (List ℕ) → Result Bool ℕ
flag_at None = Ok false
flag_at (Some text) = flag_of text

-- a relation field (Policy 7.1); absent: no entry
abbrev pub relations_in : Kind → Option (List ℕ) → Result Relations ℕ
relations_in kind None = Ok []
relations_in kind (Some text) = relations_at kind text

-- a code, where the condition holds
abbrev pub refused_if : Bool → ℕ → Result (Unit {0}) ℕ
refused_if true code = Err code
refused_if false code = Ok tt
