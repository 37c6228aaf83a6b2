-- A version, as it is written (Policy 5.6.12); one that is none is told by one code.
use Rattle.std.specs.Prelude.{ℕ, List, Result, Ok, Err}
use Rattle.deb_relation.specs.declared.error.TheConstants.{BAD_VERSION}
use Rattle.deb_version.specs.Grammar.{version_at}

abbrev pub or_code : {X : Type 0} → List ℕ → Result X ℕ → Result (List ℕ) ℕ
or_code text (Ok parts) = Ok text
or_code text (Err code) = Err BAD_VERSION

abbrev pub version_text_at : List ℕ → Result (List ℕ) ℕ
version_text_at text = or_code text (version_at text)
