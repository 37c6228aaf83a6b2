-- The order of versions, by Debian Policy 5.6.12: "first the epoch of each are compared, then the
-- upstream_version if epoch is equal, and then debian_revision if upstream_version is also equal".
-- A part is cut into runs, each a word without digits and then digits, and two parts are ordered
-- at the first run that differs.
--
--   rank_of b          the weight of a byte in a word
--   word_cmp           two words, byte by byte, by weight
--   runs_of part       the runs of a part
--   run_cmp            two runs: their words, then their numbers
--   part_cmp           two parts
--   version_cmp        two versions
use Rattle.std.specs.Prelude.{ℕ, ◌+◌, ◌==◌, List, [], ◌∷◌, ◌++◌, map, if◌then◌else◌, Option, unwrap_or, codes}
use Rattle.std.specs.Char.{is_ascii_alphabetic}
use Rattle.std.specs.Cmp.Lexicographic.{slice_cmp}
use Rattle.std.specs.declared.cmp.Ordering.{Ordering}
use Rattle.std.specs.Ordering.{nat_cmp, on, then_cmp}
use Rattle.deb_text.specs.Common.{is_digit, number}
use Rattle.deb_version.specs.Padded.{padded_cmp}

-- "all the letters sort earlier than all the non-letters and .. a tilde sorts before anything, even
-- the end of a part"
abbrev pub rank_of : ℕ → ℕ
rank_of b = if b == 126 then 0 else (if is_ascii_alphabetic b then b else b + 256)

-- the weight of a word's end: after the tilde and before the letters
abbrev pub end_rank : ℕ
end_rank = 1

abbrev pub word_cmp : List ℕ → List ℕ → Ordering
word_cmp = on (λ word. map rank_of word ++ end_rank ∷ []) (slice_cmp nat_cmp)

-- "the initial part .. consisting entirely of non-digit characters", and "the initial part of the
-- remainder .. which consists entirely of digit characters"
pub record Run : Type 0 where
  pub word : List ℕ
  pub digits : List ℕ

-- a digit in front of runs begins the first of them, or one of its own where that has a word
abbrev pub digit_before : ℕ → List Run → List Run
digit_before b [] = record { word = []; digits = b ∷ [] } ∷ []
digit_before b (run ∷ runs) = onto run.word where
  onto : List ℕ → List Run
  onto [] = record { word = []; digits = b ∷ run.digits } ∷ runs
  onto (c ∷ cs) = record { word = []; digits = b ∷ [] } ∷ run ∷ runs

-- any other byte begins the first word
abbrev pub other_before : ℕ → List Run → List Run
other_before b [] = record { word = b ∷ []; digits = [] } ∷ []
other_before b (run ∷ runs) = record { word = b ∷ run.word; digits = run.digits } ∷ runs

unfoldable pub runs_of : List ℕ → List Run
runs_of [] = []
runs_of (b ∷ bs) = if is_digit b then digit_before b (runs_of bs) else other_before b (runs_of bs)

-- "an empty string .. counts as zero", as it does in `number`
abbrev pub run_cmp : Run → Run → Ordering
run_cmp = then_cmp (on (λ run. run.word) word_cmp) (on (λ run. number run.digits) nat_cmp)

-- what is left of a part that is used up
abbrev pub empty_run : Run
empty_run = record { word = []; digits = [] }

-- "These two steps .. are repeated until a difference is found or both strings are exhausted."
unfoldable pub part_cmp : List ℕ → List ℕ → Ordering
part_cmp = on runs_of (padded_cmp empty_run run_cmp)

-- what a version's text gives; an absent epoch is 0
pub record Parts : Type 0 where
  pub epoch : ℕ
  pub upstream : List ℕ
  pub revision : Option (List ℕ)

-- "the absence of a debian_revision is equivalent to a debian_revision of 0"
abbrev pub revision_of : Parts → List ℕ
revision_of parts = unwrap_or parts.revision (codes "0")

unfoldable pub version_cmp : Parts → Parts → Ordering
version_cmp =
    then_cmp (on (λ parts. parts.epoch) nat_cmp)
    (then_cmp (on (λ parts. parts.upstream) part_cmp) (on revision_of part_cmp))
