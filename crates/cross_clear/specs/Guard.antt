-- What the refusal 707 keeps out of a farm, by the packages that it has.
--
--   are_kept s all entries        no package would be taken for an alternative of them, and not by dpkg
--   is_unmistaken s all p a       none would be taken for one that a clash hits, and is not hit
--   ArePackagesKept s all ps      both hold of what all packages ask for and exclude; ps their paragraphs
use Rattle.std.specs.Prelude.{◌≡◌, ℕ, ◌<◌, Bool, true, not, ◌&&◌, List, All, length, codes, get_or, IfOk}
use Rattle.std.specs.List.{list_all}
use Rattle.deb_relation.specs.Common.{Atom, Relations}
use Rattle.deb_relation.specs.declared.kind.Kind.TheVariants.{Need}
use Rattle.deb_stanza.specs.Stanza.{Paragraph, paragraph_at}
use Rattle.cross_laws.specs.Binary.{Sides, Binary}
use Rattle.cross_laws.specs.Clear.{is_mistaken}
use Rattle.cross_laws.specs.Encoding.{is_replaced}
use Rattle.cross_index.specs.Reading.{field_at}
use Rattle.cross_clear.specs.Across.{is_across_none}

abbrev pub are_kept : Sides → List Binary → Relations → Bool
are_kept s all entries = list_all (λ entry. list_all (λ a. is_across_none s a all) entry) entries

abbrev pub is_unmistaken : Sides → List Binary → Binary → Atom → Bool
is_unmistaken s all p a = list_all (λ q. not (is_replaced s all p a && is_mistaken s all p a q)) all

abbrev pub are_unmistaken : Sides → List Binary → Binary → Relations → Bool
are_unmistaken s all p entries =
    list_all (λ entry. list_all (λ a. is_unmistaken s all p a) entry) entries

-- a field of needs that the paragraph carries along
abbrev pub AreNeedsKept : Sides → List Binary → Paragraph → List ℕ → Type 0
AreNeedsKept s all paragraph name =
    IfOk (field_at Need paragraph name) (λ entries. are_kept s all entries ≡ true)

-- Of a package and its paragraph:
pub record IsPackageKept (s : Sides) (all : List Binary) (p : Binary) (paragraph : Paragraph) : Type 0
  where
    pub pre_depends : AreNeedsKept s all paragraph (codes "Given-Pre-Depends")
    pub depends : AreNeedsKept s all paragraph (codes "Given-Depends")
    pub conflicts : are_kept s all p.rest.conflicts ≡ true
    pub breaks : are_kept s all p.rest.breaks ≡ true

abbrev pub AreClashesKept : Sides → List Binary → Binary → Type 0
AreClashesKept s all p =
    (are_unmistaken s all p p.rest.conflicts ≡ true) × (are_unmistaken s all p p.rest.breaks ≡ true)

-- the same of all packages, each with its paragraph
abbrev pub AreNeedsOfAll : Sides → List Binary → List Paragraph → Type 0
AreNeedsOfAll s all paragraphs =
    (k : ℕ) (p : Binary) → k < length paragraphs → k < length all
    → IsPackageKept s all (get_or all k p) (paragraph_at paragraphs k)

-- Of all packages, and of their paragraphs:
pub record ArePackagesKept (s : Sides) (all : List Binary) (paragraphs : List Paragraph) : Type 0 where
  pub each : AreNeedsOfAll s all paragraphs
  pub clashes : All (AreClashesKept s all) all
