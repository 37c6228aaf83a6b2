-- Which Depends and Pre-Depends entries the variants of each name satisfy, and who has each of
-- them; and whether one that words have is missed. The project's own words.
--
--   wanted              Depends and Pre-Depends of a package
--   AreLong             a list for each name, with a value for each of its variants
--   IsServing           by name the entries that its variants satisfy, and by entry who has it
--   AreServed           the same, with the rows of the entries
--   shares, hits_some   words share a bit with one of variants, or with some of a list
--   is_unmet            there is a row, and no name of the words meets it
--   is_missed_by, misses
--                       the words hit the owners of an entry that the word satisfies, and do not
--                       meet it, by that name or another
--   IsMissed            they have a variant with such an entry
use Rattle.std.specs.Prelude.{◌≡◌, ℕ, ◌<◌, Bool, true, false, not, ◌&&◌, List, [], ◌++◌, length, Option, None, Some, slice_get, slice_index, slice_index_or}
use Rattle.std.specs.List.{list_any}
use Rattle.bit_rows.specs.Sets.{variants_of, HasNameInside}
use Rattle.clause_kernel.specs.Kernels.{shares_bit, meets, met}
use Rattle.clause_kernel.specs.Rows.{word_has}
use Rattle.deb_relation.specs.Relations.{Entry, Relations}
use Rattle.farm_model.specs.Common.{entries, Package, Universe, names, variants, satisfies_entry, IsKnown}
use Rattle.farm_model.specs.declared.types.Variant.{Variant}
use Rattle.sat_rows.specs.declared.found.NumberWord.{NumberWord}
use Rattle.sat_rows.specs.Entries.{AreRowsOf}
use Rattle.sat_rows.specs.Links.{Links, nth_list, AreNumbered, AreSets, AreTurned}
use Rattle.sat_rows.specs.Rows.{variant_passes}

-- Depends and Pre-Depends (Debian Policy 7.2)
abbrev pub wanted : Package → Relations
wanted binary = binary.depends ++ binary.pre_depends

pub record AreLong {T : Type 0} (u : Universe) (lists : List (List T)) : Type 0 where
  pub long : length lists ≡ names u
  pub each : (n : ℕ) → n < names u → length (slice_index_or lists n []) ≡ variants u n

-- made of the entries of the variants and of those who satisfy each entry, both turned
pub record IsServing (u : Universe) (entries : List Entry) (x : Links) : Type 0 where
  pub noted : List (List NumberWord)
  pub sets : List (List NumberWord)
  pub are_noted : AreNumbered u wanted entries (names u) noted
  pub are_sets : AreSets u entries sets
  pub satisfied : AreTurned sets (names u) x.by_name
  pub owners : AreTurned noted (length sets) x.by_entry

pub record AreServed (u : Universe) (rows : List (List ℕ)) (x : Links) : Type 0 where
  pub entries : List Entry
  pub rows_of : AreRowsOf u entries rows
  pub serving : IsServing u entries x

abbrev pub shares : List ℕ → NumberWord → Bool
shares words at = shares_bit (slice_index words at.number) at.word

abbrev pub hits_some : List ℕ → List NumberWord → Bool
hits_some words vs = list_any (shares words) vs

abbrev pub is_unmet : List ℕ → Option (List ℕ) → Bool
is_unmet words None = false
is_unmet words (Some row) = not (met words row)

-- the variants of the word satisfy the entry, a variant of the words has it, and they do not meet
-- it: neither by the name that it is listed under, of which they have this word, nor by another
abbrev pub is_missed_by : Links → List (List ℕ) → (word own : ℕ) → List ℕ → NumberWord → Bool
is_missed_by x rows word own words at =
    shares_bit word at.word && (not (meets own at.word)
    && (hits_some words (nth_list x.by_entry at.number) && is_unmet words
    (slice_get rows at.number)))

abbrev pub misses : Links → List (List ℕ) → (name word : ℕ) → List ℕ → Bool
misses x rows name word words =
    list_any (is_missed_by x rows word (slice_index words name) words) (nth_list x.by_name name)

-- a variant that the words have
pub record IsMissed (u : Universe) (name word : ℕ) (words : List ℕ) : Type 0 where
  pub owner : Variant
  pub known : IsKnown u owner
  pub held : variants_of words owner.name owner.bit ≡ true
  -- has an entry
  pub place : ℕ
  pub entry : Entry
  pub has : slice_get (entries u owner) place ≡ Some entry
  -- that a variant of the name satisfies, one that the word has,
  pub bit : ℕ
  pub taken : word_has word bit ≡ true
  pub satisfied : variant_passes u (satisfies_entry u entry) name bit ≡ true
  -- and of no name the words have variants that all satisfy it
  pub unmet : ¬ HasNameInside (variants_of words) (variant_passes u (satisfies_entry u entry))
