-- When texts are encoded sources.
--
--   IsSourceFor w side given old new    a paragraph is that of a source, encoded for a side
--   IsMadeFor w side old piece          what a paragraph comes to for a side
--   IsMadeOf w old piece                the same for both
--   AreEncodedSources w text made       the same of a whole index
use Rattle.std.specs.Prelude.{◌≡◌, ◌⊎◌, ℕ, Bool, true, false, ◌&&◌, List, [], ◌++◌, codes, Some, Ok}
use Rattle.std.specs.List.{list_any}
use Rattle.std.specs.Option.{option_map}
use Rattle.std.specs.Str.{bytes_eq}
use Rattle.deb_relation.specs.declared.kind.Kind.TheVariants.{BuildNeed, BuildClash}
use Rattle.deb_stanza.specs.Stanza.{Paragraph, value_of}
use Rattle.debian_index.specs.Index.{paragraphs_from}
use Rattle.cross_laws.specs.declared.types.Side.{Side}
use Rattle.cross_laws.specs.declared.types.Side.TheVariants.{Build, Host}
use Rattle.cross_laws.specs.Binary.{is_side}
use Rattle.cross_laws.specs.Names.{Of, encoded}
use Rattle.cross_index.specs.EncodedPackage.{Says}
use Rattle.cross_index.specs.Pieces.{AreMade, IsReadAs}
use Rattle.cross_sources.specs.GivenSource.{BuildRelations, GivenSource, given_source_at, name_of, name_taken}
use Rattle.cross_sources.specs.List.{list_for}
use Rattle.cross_sources.specs.Relations.{Way, made_for}

-- ---- the paragraph

-- what it says of the source itself
pub record HasOwn (w : Way) (side : Side) (given : GivenSource) (old new : Paragraph) : Type 0 where
  pub name : value_of new (codes "Package") ≡ Some (encoded w.sides (Of side) given.source.name)
  pub version : value_of new (codes "Version") ≡ value_of old (codes "Version")
  pub files : value_of new (codes "Files") ≡ value_of old (codes "Files")
  pub sums : value_of new (codes "Checksums-Sha256") ≡ value_of old (codes "Checksums-Sha256")
  pub list : value_of new (codes "Package-List")
      ≡ option_map (list_for w side) (value_of old (codes "Package-List"))

-- what it needs, and what must not be there
pub record SayAll (made : BuildRelations) (new : Paragraph) : Type 0 where
  pub depends : Says new BuildNeed (codes "Build-Depends") made.depends
  pub depends_arch : Says new BuildNeed (codes "Build-Depends-Arch") made.depends_arch
  pub depends_indep : Says new BuildNeed (codes "Build-Depends-Indep") made.depends_indep
  pub conflicts : Says new BuildClash (codes "Build-Conflicts") made.conflicts
  pub conflicts_arch : Says new BuildClash (codes "Build-Conflicts-Arch") made.conflicts_arch
  pub conflicts_indep : Says new BuildClash (codes "Build-Conflicts-Indep") made.conflicts_indep

pub record IsSourceFor (w : Way) (side : Side) (given : GivenSource) (old new : Paragraph)
    : Type 0 where
  pub own : HasOwn w side given old new
  pub relations : SayAll (made_for w side given.relations) new

-- ---- the index

abbrev pub is_wanted : Way → Side → List ℕ → Bool
is_wanted w side name =
    list_any (λ wanted. is_side wanted.side side && bytes_eq wanted.name.items name) w.wanted

abbrev pub IsKeptFor : Way → Side → Paragraph → List ℕ → Type 0
IsKeptFor w side old piece =
    (given : GivenSource) × (given_source_at w.sides old ≡ Ok given)
    × IsReadAs (IsSourceFor w side given old) piece

abbrev pub IsMadeFor : Way → Side → Paragraph → List ℕ → Type 0
IsMadeFor w side old piece =
    ((is_wanted w side (name_of old) ≡ false) × (piece ≡ []))
    ⊎ ((is_wanted w side (name_of old) ≡ true) × IsKeptFor w side old piece)

-- for the architecture on which is built, and for the host
abbrev pub IsMadeOf : Way → Paragraph → List ℕ → Type 0
IsMadeOf w old piece =
    (name_taken w.sides old ≡ false)
    × (native : List ℕ) × (cross : List ℕ) × (piece ≡ native ++ cross)
    × IsMadeFor w Build old native × IsMadeFor w Host old cross

pub record AreEncodedSources (w : Way) (text made : List ℕ) : Type 0 where
  pub paragraphs : List Paragraph
  pub read : paragraphs_from 1 text ≡ Ok paragraphs
  pub encoded : AreMade (IsMadeOf w) paragraphs made
