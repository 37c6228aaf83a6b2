-- Which variants of a universe stand in a relation to which others, by way of entries: a variant
-- leads to some entries, and an entry to some variants. The project's own words.
--
--   Links                two families of lists: by name the entries of its variants, and by entry
--   the
--                        variants
--   Leads                some entry of a variant leads to another
--   reaches              it leads to a variant of another name that a list of words has
--   leads_by, IsJoined, AreJoined, AllJoined
--                        to whom a variant leads as one list, where there is one
--   IsLinks              it leads to those alone that pass a test
--   IsEntryOf, IsNumbered, AreNumbered
--                        the entries of a field of each variant are listed under its name, by
--                        number
--   AreSets              the variants that satisfy each entry
--   AreTurned            the same lists the other way round
--   declares             a variant satisfies some entry of a field of another
--   Exclusion, AreBoth, IsExclusion
--                        who declares what of whom, in both directions
use Rattle.std.specs.Prelude.{◌≡◌, ℕ, ◌<◌, Bool, true, ◌&&◌, List, [], length, Some, slice_get, slice_index_or}
use Rattle.std.specs.List.{list_any}
use Rattle.clause_kernel.specs.Rows.{word_has}
use Rattle.deb_relation.specs.Relations.{Entry, Relations}
use Rattle.farm_model.specs.Common.{Package, Universe, variant, variants, package_of, satisfies_entry, satisfies_any}
use Rattle.farm_model.specs.declared.types.Variant.{Variant}
use Rattle.sat_rows.specs.declared.found.NumberWord.{NumberWord}
use Rattle.sat_rows.specs.Found.{among, hits_other, IsFound}

pub record Links : Type 0 where
  pub by_name : List (List NumberWord)
  pub by_entry : List (List NumberWord)

-- the list of a number
abbrev pub nth_list : List (List NumberWord) → ℕ → List NumberWord
nth_list lists i = slice_index_or lists i []

-- some entry of the variant of name n and bit b leads to that of name m and bit c
pub record Leads (x : Links) (n b m c : ℕ) : Type 0 where
  pub entry : ℕ
  pub has : among (nth_list x.by_name n) entry b ≡ true
  pub to : among (nth_list x.by_entry entry) m c ≡ true

-- some entry of the variant leads to one of another name that the words have
abbrev pub reaches : Links → Variant → List ℕ → Bool
reaches x v words =
    list_any (λ e. word_has e.word v.bit && hits_other v.name words (nth_list x.by_entry e.number))
    (nth_list x.by_name v.name)

-- some entry of the variant leads to that of name m and bit c
abbrev pub leads_by : List NumberWord → List (List NumberWord) → (b m c : ℕ) → Bool
leads_by entries by_entry b m c =
    list_any (λ e. word_has e.word b && among (nth_list by_entry e.number) m c) entries

-- a list has the variants to which the entries lead
abbrev pub IsJoined : List NumberWord → List (List NumberWord) → ℕ → List NumberWord → Type 0
IsJoined entries by_entry b vs = (m c : ℕ) → among vs m c ≡ leads_by entries by_entry b m c

-- each of these lists, by bit, is that of a variant of one name; and of all names
abbrev pub AreJoined : List NumberWord → List (List NumberWord) → List (List NumberWord) → Type 0
AreJoined entries by_entry lists =
    (b : ℕ) (vs : List NumberWord) → slice_get lists b ≡ Some vs → IsJoined entries by_entry b vs

abbrev pub AllJoined : Links → List (List (List NumberWord)) → Type 0
AllJoined x joined =
    (n : ℕ) → AreJoined (nth_list x.by_name n) x.by_entry (slice_index_or joined n [])

-- each variant leads to those that pass, and to no others
pub record IsLinks (u : Universe) (test : Variant → Variant → Bool) (x : Links) : Type 0 where
  pub only : (n b m c : ℕ) → Leads x n b m c
      → (b < variants u n) × (c < variants u m) × (test (variant n b) (variant m c) ≡ true)
  pub every : (n b m c : ℕ) → b < variants u n → c < variants u m
      → test (variant n b) (variant m c) ≡ true → Leads x n b m c

-- the entry of this number stands in the field
pub record IsEntryOf (entries : List Entry) (field : Relations) (k : ℕ) : Type 0 where
  pub place : ℕ
  pub entry : Entry
  pub there : slice_get field place ≡ Some entry
  pub number : slice_get entries k ≡ Some entry

-- the entry is listed by its number, with the bit
pub record IsNoted (entries : List Entry) (e : Entry) (bit : ℕ) (vs : List NumberWord)
    : Type 0 where
  pub number : ℕ
  pub is : slice_get entries number ≡ Some e
  pub has : among vs number bit ≡ true

-- the entries of a field of the first variants of a name are listed, and no others
pub record IsNumbered (u : Universe) (field : Package → Relations) (entries : List Entry)
    (n count : ℕ) (vs : List NumberWord) : Type 0 where
  pub only : (k b : ℕ) → among vs k b ≡ true
      → (b < count) × IsEntryOf entries (field (package_of u (variant n b))) k
  pub every : (b i : ℕ) (e : Entry) → b < count
      → slice_get (field (package_of u (variant n b))) i ≡ Some e → IsNoted entries e b vs

-- those of the first names
pub record AreNumbered (u : Universe) (field : Package → Relations) (entries : List Entry)
    (count : ℕ) (lists : List (List NumberWord)) : Type 0 where
  pub long : length lists ≡ count
  pub each : (n : ℕ) → n < count → IsNumbered u field entries n (variants u n) (nth_list lists n)

-- the variants that satisfy each entry
pub record AreSets (u : Universe) (entries : List Entry) (sets : List (List NumberWord))
    : Type 0 where
  pub long : length sets ≡ length entries
  pub each : (k : ℕ) (e : Entry) → slice_get entries k ≡ Some e
      → IsFound u (satisfies_entry u e) (nth_list sets k)

-- what the lists have under so many numbers, listed by these
pub record AreTurned (lists : List (List NumberWord)) (count : ℕ) (turned : List (List NumberWord))
    : Type 0 where
  pub long : length turned ≡ count
  pub each : (j i b : ℕ) → j < count
      → among (nth_list turned j) i b ≡ among (nth_list lists i) j b

-- the second satisfies some entry of the field of the first
abbrev pub declares : Universe → (Package → Relations) → Variant → Variant → Bool
declares u field v w = satisfies_any u (field (package_of u v)) w

-- whom a variant names in the field, and who names it there
pub record Exclusion : Type 0 where
  pub declared : Links
  pub declaring : Links

-- made of the entries of the variants and of those who satisfy each entry, both turned
pub record AreBoth (count : ℕ) (noted sets : List (List NumberWord)) (x : Exclusion) : Type 0 where
  pub by_name : x.declared.by_name ≡ noted
  pub by_entry : x.declared.by_entry ≡ sets
  pub satisfied : AreTurned sets count x.declaring.by_name
  pub owners : AreTurned noted (length sets) x.declaring.by_entry

pub record IsExclusion (u : Universe) (field : Package → Relations) (x : Exclusion) : Type 0 where
  pub declared : IsLinks u (declares u field) x.declared
  pub declaring : IsLinks u (λ v w. declares u field w v) x.declaring
