-- What the order keeps, in Policy's own words; each is the contract of a function of src/laws.rt.
--
--   PolicyExample     5.6.12's own example of the order
--   WorkedExamples    the same of whole versions
--   CutsIntoRuns      the runs of a part, by what they are and not by how they are found
--   TiesMeanSame      when two versions are equal
use Rattle.std.specs.Prelude.{◌≡◌, ℕ, Bool, true, not, ◌&&◌, ◌||◌, List, [], ◌∷◌, ◌++◌, map, codes, IsTrue, IsOk, ◌↔◌}
use Rattle.std.specs.List.{list_all, flat_map}
use Rattle.std.specs.declared.cmp.Ordering.{Ordering}
use Rattle.std.specs.declared.cmp.Ordering.TheVariants.{Equal}
use Rattle.std.specs.Ordering.{is_lt, is_eq}
use Rattle.deb_text.specs.Common.{is_digit, is_nil, number}
use Rattle.deb_version.specs.Order.{Run, Parts, runs_of, part_cmp, revision_of}
use Rattle.deb_version.specs.Runs.{is_other}
use Rattle.deb_version.specs.Grammar.{version_at, parts_at, text_cmp}

-- whether each sorts before all that follow
abbrev pub ascending : {X : Type 0} → (X → X → Ordering) → List X → Bool
ascending cmp [] = true
ascending cmp (x ∷ xs) = list_all (λ y. is_lt (cmp x y)) xs && ascending cmp xs

-- "the following parts are in sorted order from earliest to latest: ~~, ~~a, ~, the empty part, a"
abbrev pub PolicyExample : Type 0
PolicyExample =
    IsTrue (ascending part_cmp (codes "~~" ∷ codes "~~a" ∷ codes "~" ∷ [] ∷ codes "a" ∷ []))

-- whether the first is equal to the others
abbrev pub equal_to : List ℕ → List (List ℕ) → Bool
equal_to text others = list_all (λ other. is_eq (text_cmp text other)) others

pub record WorkedExamples : Type 0 where
  pub tilde : IsTrue (ascending text_cmp
      (codes "1~~" ∷ codes "1~~a" ∷ codes "1~" ∷ codes "1"
      ∷ codes "1a" ∷ codes "1+" ∷ codes "1:0" ∷ []))
  pub candidate : IsTrue (ascending text_cmp
      (codes "1.0~rc1" ∷ codes "1.0" ∷ codes "1.0-1" ∷ codes "1.1" ∷ codes "1.10" ∷ []))
  pub absent : IsTrue (equal_to (codes "1.0")
      (codes "1.0-0" ∷ codes "0:1.0" ∷ codes "1.00-00" ∷ []))

-- ---- runs

abbrev pub all_but_first : {X : Type 0} → (X → Bool) → List X → Bool
all_but_first p [] = true
all_but_first p (x ∷ xs) = list_all p xs

abbrev pub all_but_last : {X : Type 0} → (X → Bool) → List X → Bool
all_but_last p [] = true
all_but_last p (x ∷ xs) = (is_nil xs || p x) && all_but_last p xs

pub record AreRuns (part : List ℕ) (runs : List Run) : Type 0 where
  -- in turn they are the part;
  pub whole : flat_map (λ run. run.word ++ run.digits) runs ≡ part
  -- words have no digit, digits are digits;
  pub words : IsTrue (list_all (λ run. list_all is_other run.word) runs)
  pub digits : IsTrue (list_all (λ run. list_all is_digit run.digits) runs)
  -- each is as long as it goes: only the first may lack a word, only the last may lack digits;
  pub longest_digits : IsTrue (all_but_first (λ run. not (is_nil run.word)) runs)
  pub longest_words : IsTrue (all_but_last (λ run. not (is_nil run.digits)) runs)
  -- and none lacks both.
  pub none_empty : IsTrue (list_all (λ run. not (is_nil (run.word ++ run.digits))) runs)

-- a part has these runs and no others
abbrev pub CutsIntoRuns : Type 0
CutsIntoRuns = (part : List ℕ) (runs : List Run) → AreRuns part runs ↔ (runs ≡ runs_of part)

-- ---- equal versions

-- what a part says: its words and its numbers, in turn
abbrev pub meaning_of : List ℕ → List (List ℕ × ℕ)
meaning_of part = map (λ run. (run.word, number run.digits)) (runs_of part)

pub record MeanSame (v w : Parts) : Type 0 where
  pub epoch : v.epoch ≡ w.epoch
  pub upstream : meaning_of v.upstream ≡ meaning_of w.upstream
  pub revision : meaning_of (revision_of v) ≡ meaning_of (revision_of w)

-- two versions are equal exactly where they mean the same
abbrev pub TiesMeanSame : Type 0
TiesMeanSame =
    (a b : List ℕ) → IsOk (version_at a) → IsOk (version_at b)
    → (text_cmp a b ≡ Equal) ↔ MeanSame (parts_at a) (parts_at b)
