-- When a paragraph is that of an encoded package.
--
--   Says p kind name made            a field says these entries
--   encoded_source s side text       the value of Source
--   HasOwn s a p old new             what a paragraph says of the package itself
--   IsCarried old new                what is carried along of the paragraph that was given
--   IsEncodedAs s a p old new        the paragraph of a package, encoded
use Rattle.std.specs.Prelude.{◌≡◌, ℕ, Bool, true, false, ◌&&◌, List, [], ◌∷◌, ◌++◌, codes, if◌then◌else◌, unwrap_or, Option, Some, None, option_map, Ok}
use Rattle.std.specs.List.{list_any}
use Rattle.deb_text.specs.Common.{is_byte, before, after, trimmed}
use Rattle.deb_relation.specs.Common.{Relations}
use Rattle.deb_relation.specs.declared.kind.Kind.{Kind}
use Rattle.deb_relation.specs.declared.kind.Kind.TheVariants.{Need, Provide}
use Rattle.deb_stanza.specs.Stanza.{Paragraph, value_of}
use Rattle.cross_laws.specs.declared.types.Side.{Side}
use Rattle.cross_laws.specs.declared.types.Side.TheVariants.{Build, Host}
use Rattle.cross_laws.specs.Binary.{Sides, Binary, side_of, is_side}
use Rattle.cross_laws.specs.Names as names
use Rattle.cross_laws.specs.Encoding.{asker, encoded_name, encoded_needs, encoded_provides, singles}
use Rattle.cross_laws.specs.Laws.{HaveSame}
use Rattle.cross_index.specs.Reading.{field_at, inside, is_open}

-- a field is read as these entries, in whatever order and however often
abbrev pub Says : Paragraph → Kind → List ℕ → Relations → Type 0
Says p kind name made =
    (given : Relations) × (field_at kind p name ≡ Ok given) × HaveSame given made

-- ---- the package itself

-- behind the name of a source, where a version stands there
abbrev pub version_in : List ℕ → List ℕ
version_in more = codes " (" ++ trimmed (unwrap_or (inside more) []) ++ codes ")"

abbrev pub source_name : Sides → Side → List ℕ → List ℕ
source_name s side name = names.encoded s (names.Of side) (trimmed name)

-- the source is one of the side of the package
unfoldable pub encoded_source : Sides → Side → List ℕ → List ℕ
encoded_source s side text =
    if list_any is_open text
    then source_name s side (before is_open text) ++ version_in (after is_open text)
    else source_name s side text

-- a package of the build architecture has no Architecture
abbrev pub host_name : Sides → Side → Option (List ℕ)
host_name s Build = None
host_name s Host = Some s.host

-- what is of the host is not Essential on the build architecture, where the archive has it
abbrev pub essential_in : Bool → Side → Option (List ℕ) → Option (List ℕ)
essential_in is_archive side value = if is_archive && is_side side Host then None else value

pub record HasOwn (s : Sides) (is_archive : Bool) (p : Binary) (old new : Paragraph) : Type 0 where
  pub name : value_of new (codes "Package") ≡ Some (encoded_name s p)
  pub version : value_of new (codes "Version") ≡ value_of old (codes "Version")
  pub architecture : value_of new (codes "Architecture") ≡ host_name s (side_of p.architecture)
  pub source : value_of new (codes "Source")
      ≡ option_map (encoded_source s (side_of p.architecture)) (value_of old (codes "Source"))
  pub size : value_of new (codes "Installed-Size") ≡ value_of old (codes "Installed-Size")
  pub priority : value_of new (codes "Priority") ≡ value_of old (codes "Priority")
  pub essential : value_of new (codes "Essential")
      ≡ essential_in is_archive (side_of p.architecture) (value_of old (codes "Essential"))

-- ---- what is carried along

-- an alternative with a qualifier has a colon
abbrev pub with_colon : Option (List ℕ) → Option (List ℕ)
with_colon None = None
with_colon (Some value) = if list_any (is_byte 58) value then Some value else None

-- what a clash hits, and what is clear, is said of the package as it was given
pub record IsCarried (old new : Paragraph) : Type 0 where
  pub multi_arch : value_of new (codes "Multi-Arch") ≡ value_of old (codes "Multi-Arch")
  pub pre_depends : value_of new (codes "Given-Pre-Depends")
      ≡ with_colon (value_of old (codes "Pre-Depends"))
  pub depends : value_of new (codes "Given-Depends") ≡ with_colon (value_of old (codes "Depends"))
  pub conflicts : value_of new (codes "Given-Conflicts") ≡ value_of old (codes "Conflicts")
  pub breaks : value_of new (codes "Given-Breaks") ≡ value_of old (codes "Breaks")
  pub provides : value_of new (codes "Given-Provides") ≡ value_of old (codes "Provides")

-- ---- the paragraph

-- what it needs and provides is encoded; what it excludes is left to the end, when all are known
pub record IsEncodedAs (s : Sides) (is_archive : Bool) (p : Binary) (old new : Paragraph)
    : Type 0 where
  pub own : HasOwn s is_archive p old new
  pub given : IsCarried old new
  pub pre_depends : Says new Need (codes "Pre-Depends")
      (encoded_needs s (asker p) p.rest.pre_depends)
  pub depends : Says new Need (codes "Depends") (encoded_needs s (asker p) p.rest.depends)
  pub provides : Says new Provide (codes "Provides") (singles (encoded_provides s p))
