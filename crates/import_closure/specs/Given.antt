-- A package, as an index has it.
--
--   given_at names p    what its paragraph says, for an architecture of these names
use Rattle.std.specs.Prelude.{ℕ, Bool, true, false, List, codes, Option, Some, None, Result, Ok, Err, if◌then◌else◌}
use Rattle.std.specs.Str.{bytes_eq}
use Rattle.deb_text.specs.Steps.{◌>>=◌}
use Rattle.deb_stanza.specs.Stanza.{Paragraph, value_of}
use Rattle.deb_fields.specs.declared.error.TheConstants.{BAD_VALUE}
use Rattle.deb_fields.specs.Fields.{name_at, needed_at, number_in}
use Rattle.import_closure.specs.declared.fields.TheConstants.{MOST_SIZE}
use Rattle.import_closure.specs.declared.given.Given as declared
use Rattle.import_closure.specs.Relations.{Five, relations_in, relations_view}
use Rattle.import_closure.specs.Source.{Source, source_in, source_view}
use Rattle.import_closure.specs.Version.{version_text_at}

pub record Given : Type 0 where
  pub name : List ℕ
  pub version : List ℕ
  pub size : ℕ
  pub is_essential : Bool
  pub rank : ℕ
  pub source : Source
  pub relations : Five

abbrev pub given_view : declared.Given → Given
given_view given = record {
  name = given.name.items;
  version = given.version;
  size = given.size;
  is_essential = given.is_essential;
  rank = given.rank;
  source = source_view given.source;
  relations = relations_view given.relations;
}

abbrev pub or_zero : Option ℕ → ℕ
or_zero None = 0
or_zero (Some n) = n

-- in KiB
abbrev pub size_in : Option (List ℕ) → Result ℕ ℕ
size_in value = number_in MOST_SIZE value >>= λ size. Ok (or_zero size)

abbrev pub flag_of : List ℕ → Result Bool ℕ
flag_of text =
    if bytes_eq text (codes "yes") then Ok true
    else (if bytes_eq text (codes "no") then Ok false else Err BAD_VALUE)

abbrev pub flag_in : Option (List ℕ) → Result Bool ℕ
flag_in None = Ok false
flag_in (Some text) = flag_of text

-- the most important first (Policy 2.5)
abbrev pub rank_named : List ℕ → ℕ
rank_named text =
    if bytes_eq text (codes "required") then 0
    else (if bytes_eq text (codes "important") then 1
    else (if bytes_eq text (codes "standard") then 2
    else (if bytes_eq text (codes "optional") then 3
    else (if bytes_eq text (codes "extra") then 4 else 5))))

abbrev pub rank_of : Option (List ℕ) → ℕ
rank_of None = 5
rank_of (Some text) = rank_named text

unfoldable pub given_at : List (List ℕ) → Paragraph → Result Given ℕ
given_at names p = do
  given ← needed_at p (codes "Package")
  name ← name_at given
  written ← needed_at p (codes "Version")
  version ← version_text_at written
  size ← size_in (value_of p (codes "Installed-Size"))
  essential ← flag_in (value_of p (codes "Essential"))
  relations ← relations_in names p
  source ← source_in name version (value_of p (codes "Source"))
  Ok (record {
    name = name;
    version = version;
    size = size;
    is_essential = essential;
    rank = rank_of (value_of p (codes "Priority"));
    source = source;
    relations = relations;
  })
