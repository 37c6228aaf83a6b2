-- When a text of packages is finished: what each excludes is said, among all of them.
--
--   given_at s p                 the package that a paragraph of an encoded text carries along
--   IsFinishedAs s all p old new the paragraph of a package, finished
--   IsFinished s text made       the text is the finished one
use Rattle.std.specs.Prelude.{◌≡◌, ℕ, false, List, [], codes, Result, Ok}
use Rattle.deb_text.specs.Common.{◌>>=◌, traverse}
use Rattle.deb_relation.specs.declared.kind.Kind.TheVariants.{Clash, Provide}
use Rattle.deb_stanza.specs.Stanza.{Paragraph, paragraphs_at, value_of}
use Rattle.deb_fields.specs.Fields.{needed_at}
use Rattle.import_closure.specs.Version.{version_text_at}
use Rattle.cross_laws.specs.declared.types.Architecture.TheVariants.{Of}
use Rattle.cross_laws.specs.Binary.{Sides, Binary}
use Rattle.cross_laws.specs.Encoding.{encoded_breaks, encoded_conflicts, encoded_provides, singles}
use Rattle.cross_relations.specs.Decoded.{own_name, own_side}
use Rattle.cross_index.specs.EncodedPackage.{Says}
use Rattle.cross_index.specs.Pieces.{AreMade, IsReadAs}
use Rattle.cross_index.specs.Reading.{field_at, multi_arch_in}

-- ---- the package, as it was given

-- in the version that it has now
unfoldable pub given_at : Sides → Paragraph → Result Binary ℕ
given_at s p = do
  name ← needed_at p (codes "Package")
  written ← needed_at p (codes "Version")
  version ← version_text_at written
  multi_arch ← multi_arch_in (value_of p (codes "Multi-Arch"))
  conflicts ← field_at Clash p (codes "Given-Conflicts")
  breaks ← field_at Clash p (codes "Given-Breaks")
  provides ← field_at Provide p (codes "Given-Provides")
  Ok (record {
    name = own_name s name;
    architecture = Of (own_side s name);
    multi_arch = multi_arch;
    rest = record {
      version = version;
      size = 0;
      essential = false;
      pre_depends = [];
      depends = [];
      conflicts = conflicts;
      breaks = breaks;
      provides = provides;
    };
  })

-- ---- the paragraph

-- what stays as it stands
pub record IsKept (old new : Paragraph) : Type 0 where
  pub name : value_of new (codes "Package") ≡ value_of old (codes "Package")
  pub version : value_of new (codes "Version") ≡ value_of old (codes "Version")
  pub architecture : value_of new (codes "Architecture") ≡ value_of old (codes "Architecture")
  pub source : value_of new (codes "Source") ≡ value_of old (codes "Source")
  pub size : value_of new (codes "Installed-Size") ≡ value_of old (codes "Installed-Size")
  pub priority : value_of new (codes "Priority") ≡ value_of old (codes "Priority")
  pub essential : value_of new (codes "Essential") ≡ value_of old (codes "Essential")
  pub pre_depends : value_of new (codes "Pre-Depends") ≡ value_of old (codes "Pre-Depends")
  pub depends : value_of new (codes "Depends") ≡ value_of old (codes "Depends")

pub record IsFinishedAs (s : Sides) (all : List Binary) (p : Binary) (old new : Paragraph)
    : Type 0 where
  pub kept : IsKept old new
  pub conflicts : Says new Clash (codes "Conflicts") (singles (encoded_conflicts s all p))
  pub breaks : Says new Clash (codes "Breaks") (singles (encoded_breaks s all p))
  pub provides : Says new Provide (codes "Provides") (singles (encoded_provides s p))

-- ---- the text

-- a paragraph comes to the finished one of the package that it carries along
abbrev pub IsFinishedBy : Sides → List Binary → Paragraph → List ℕ → Type 0
IsFinishedBy s all old piece =
    (p : Binary) × (given_at s old ≡ Ok p) × IsReadAs (IsFinishedAs s all p old) piece

-- the paragraphs of a text come to these, among all packages that they carry along
pub record AreFinished (s : Sides) (paragraphs : List Paragraph) (made : List ℕ) : Type 0 where
  pub packages : List Binary
  pub given : traverse (given_at s) paragraphs ≡ Ok packages
  pub finished : AreMade (IsFinishedBy s packages) paragraphs made

abbrev pub IsFinished : Sides → List ℕ → List ℕ → Type 0
IsFinished s text made =
    (paragraphs : List Paragraph) × (paragraphs_at text ≡ Ok paragraphs)
    × AreFinished s paragraphs made
