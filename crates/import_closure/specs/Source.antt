-- The source that a package comes from (Policy 5.6.1): "the name of the source package, followed by
-- a version number in parentheses" where that is not the package's own.
--
--   source_in name version value    the source of a package of this name and version
use Rattle.std.specs.Prelude.{ℕ, Bool, List, Option, Some, None, Result, Ok, ok_or, if◌then◌else◌}
use Rattle.std.specs.List.{list_any}
use Rattle.deb_text.specs.Common.{is_byte, before, after, is_nil, trimmed, ◌>>=◌}
use Rattle.deb_relation.specs.declared.error.TheConstants.{NOT_CLOSED}
use Rattle.deb_fields.specs.Fields.{name_at}
use Rattle.import_closure.specs.declared.source.GivenSource as declared
use Rattle.import_closure.specs.Version.{version_text_at}

pub record Source : Type 0 where
  pub name : List ℕ
  pub version : List ℕ

abbrev pub source_view : declared.GivenSource → Source
source_view source = record { name = source.name.items; version = source.version }

abbrev pub is_end : ℕ → Bool
is_end b = is_byte 41 b

-- what stands before the bracket that ends a text
abbrev pub inside : List ℕ → Option (List ℕ)
inside text =
    if list_any is_end text
    then (if is_nil (after is_end text) then Some (before is_end text) else None) else None

unfoldable pub versioned_at : List ℕ → List ℕ → Result Source ℕ
versioned_at given behind = do
  name ← name_at (trimmed given)
  text ← ok_or (inside behind) NOT_CLOSED
  version ← version_text_at (trimmed text)
  Ok (record { name = name; version = version })

abbrev pub is_begin : ℕ → Bool
is_begin b = is_byte 40 b

abbrev pub named_at : List ℕ → List ℕ → Result Source ℕ
named_at version text = do
  name ← name_at text
  own ← version_text_at version
  Ok (record { name = name; version = own })

unfoldable pub source_at : List ℕ → List ℕ → Result Source ℕ
source_at version text =
    if list_any is_begin text then versioned_at (before is_begin text) (after is_begin text)
    else named_at version text

abbrev pub source_in : List ℕ → List ℕ → Option (List ℕ) → Result Source ℕ
source_in name version None = source_at version name
source_in name version (Some text) = source_at version text
