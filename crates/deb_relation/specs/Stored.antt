-- How an alternative is kept: its texts lie one behind the other, with the number of bytes of each.
--
--   texts_in cuts text      the alternative that they are
--   AreCut cuts text        they are there, and the version is one
--   kept_in store           the alternative that a store has
--   IsKept store            what is kept in it is an alternative
--   Measures cuts ..        so many bytes has each of these texts
--   joined name ..          these texts, one behind the other
use Rattle.std.specs.Prelude.{◌≡◌, ℕ, ◌+◌, ◌<◌, ◌≤◌, ◌==◌, true, false, List, [], ◌++◌, length, take, if◌then◌else◌, Option, Some, None}
use Rattle.std.specs.Box.{box_value}
use Rattle.std.specs.List.{slice_range}
use Rattle.std.specs.Result.{is_ok}
use Rattle.deb_version.specs.Grammar.{version_at}
use Rattle.deb_relation.specs.Relations.{Atom}
use Rattle.deb_relation.specs.declared.operator.Op.{Op}
use Rattle.deb_relation.specs.declared.store.Cuts.{Cuts}
use Rattle.deb_relation.specs.declared.store.Store.{Store}
use Rattle.deb_relation.specs.declared.store.Store.TheVariants.{Here, Small, Large, Whole}

-- where the version begins, and where it ends
abbrev pub version_start : Cuts → ℕ
version_start cuts = cuts.name + cuts.qualifier

abbrev pub version_end : Cuts → ℕ
version_end cuts = version_start cuts + cuts.version

abbrev pub version_in : Cuts → List ℕ → List ℕ
version_in cuts text = slice_range text (version_start cuts) (version_end cuts)

-- no qualifier is empty, so that 0 says that there is none
abbrev pub qualifier_in : Cuts → List ℕ → Option (List ℕ)
qualifier_in cuts text =
    if cuts.qualifier == 0 then None else Some (slice_range text cuts.name (version_start cuts))

-- nor is a version
abbrev pub relation_in : Cuts → List ℕ → Option (Op × List ℕ)
relation_in cuts text =
    if cuts.version == 0 then None else Some (cuts.op, version_in cuts text)

abbrev pub texts_in : Cuts → List ℕ → Atom
texts_in cuts text = record {
  name = take cuts.name text;
  qualifier = qualifier_in cuts text;
  relation = relation_in cuts text;
  archs = None;
  profiles = [];
}

pub record AreCut (cuts : Cuts) (text : List ℕ) : Type 0 where
  pub fits : version_end cuts ≤ length text
  pub version : (cuts.version == 0) ≡ false → is_ok (version_at (version_in cuts text)) ≡ true

abbrev pub kept_in : Store → Atom
kept_in (Here cuts text) = texts_in cuts text
kept_in (Small cuts block) = texts_in cuts (box_value block)
kept_in (Large cuts block) = texts_in cuts (box_value block).items
kept_in (Whole block) = box_value block

abbrev pub IsKept : Store → Type 0
IsKept (Here cuts text) = AreCut cuts text
IsKept (Small cuts block) = AreCut cuts (box_value block)
IsKept (Large cuts block) = AreCut cuts (box_value block).items
IsKept (Whole block) = Unit {0}

-- a number for an optional text: its length, or 0 where there is none
abbrev pub IsLength : ℕ → Option (List ℕ) → Type 0
IsLength n None = n ≡ 0
IsLength n (Some text) = (n ≡ length text) × (0 < n)

-- the bytes of an optional text
abbrev pub bytes_of : Option (List ℕ) → List ℕ
bytes_of None = []
bytes_of (Some text) = text

-- what the texts are cut by
pub record Measures (cuts : Cuts) (name : List ℕ) (qualifier version : Option (List ℕ)) : Type 0 where
  pub of_name : cuts.name ≡ length name
  pub of_qualifier : IsLength cuts.qualifier qualifier
  pub of_version : IsLength cuts.version version

-- the texts of an alternative one behind the other
abbrev pub joined : List ℕ → Option (List ℕ) → Option (List ℕ) → List ℕ
joined name qualifier version = name ++ (bytes_of qualifier ++ bytes_of version)
