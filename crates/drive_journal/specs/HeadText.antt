-- The head of a journal. The project's own format.
--
--   TextSums, sums_of   of each text its SHA-256 digest, in hex digits
--   head_text           the lines ahead of the run's
--   run_line, run_name  the line of the run, and its name, by its stamp: the time of its beginning
--   is_stamp            a word that can be one
--   is_torn             a text that was torn within its head
--   Finding             what the text of a journal is to a run of four texts
--   finding             it by that text and the head that these texts give
use Rattle.std.specs.Prelude.{ℕ, suc, Bool, ◌&&◌, ◌||◌, ◌==◌, nat_le, List, [], ◌∷◌, ◌++◌, codes, take, drop, length, nat_eq, if◌then◌else◌}
use Rattle.std.specs.Int.{w64, to_be_bytes}
use Rattle.std.specs.List.{concat, list_all, starts_with}
use Rattle.std.specs.Str.{bytes_eq}
use Rattle.deb_text.specs.Common.{is_byte, is_digit, lines_of, words}
use Rattle.deb_text.specs.Cuts.{without_end}
use Rattle.drive_journal.specs.Entries.{whole}
use Rattle.hex.specs.Hex.{encode_lower}
use Rattle.sha2.specs.Sha256.{sha256}

pub record TextSums : Type 0 where
  pub packages : List ℕ
  pub sources : List ℕ
  pub farm : List ℕ
  pub plan : List ℕ

abbrev pub sum_of : List ℕ → List ℕ
sum_of text = encode_lower (sha256 text)

abbrev pub sums_of : List ℕ → List ℕ → List ℕ → List ℕ → TextSums
sums_of packages sources farm plan = record {
  packages = sum_of packages;
  sources = sum_of sources;
  farm = sum_of farm;
  plan = sum_of plan;
}

abbrev pub sum_line : List ℕ → List ℕ → List ℕ
sum_line name sum = concat (name ∷ codes " " ∷ sum ∷ codes "\n" ∷ [])

abbrev pub head_text : TextSums → List ℕ
head_text sums =
    concat (codes "journal 1\n" ∷ sum_line (codes "packages") sums.packages
    ∷ sum_line (codes "sources") sums.sources ∷ sum_line (codes "farm") sums.farm
    ∷ sum_line (codes "plan") sums.plan ∷ [])

-- ---- the run

-- nanoseconds since 1970 as 16 hex digits
abbrev pub stamp_text : ℕ → List ℕ
stamp_text nanoseconds = encode_lower (to_be_bytes w64 nanoseconds)

-- 0 to 9 and a to f
abbrev pub is_hex_byte : ℕ → Bool
is_hex_byte b = is_digit b || nat_le 97 b && nat_le b 102

-- 16 of these
abbrev pub is_stamp : List ℕ → Bool
is_stamp word = length word == 16 && list_all is_hex_byte word

abbrev pub run_line : List ℕ → List ℕ
run_line stamp = concat (codes "run " ∷ stamp ∷ codes "\n" ∷ [])

-- 16 hex digits of the four digests' own, and the stamp
abbrev pub run_name : TextSums → List ℕ → List ℕ
run_name sums stamp =
    concat (encode_lower (take 8 (sha256 (sums.packages ++ sums.sources ++ sums.farm ++ sums.plan)))
    ∷ codes "-" ∷ stamp ∷ [])

-- ---- what is found

-- nothing was asked by then; the name of its run, and the lines of its entries; or this line of it
-- does not fit, the first being 1
pub data Finding : Type 0 where
  IsFresh : Finding
  IsKnown : List ℕ → List (List ℕ) → Finding
  IsMisfit : ℕ → Finding

-- the first of these lines that differ; they are numbered from n on
abbrev pub first_other : ℕ → List (List ℕ) → List (List ℕ) → ℕ
first_other n (line ∷ lines) (wanted ∷ more) =
    if bytes_eq line wanted then first_other (suc n) lines more else n
first_other n [] _ = n
first_other n (line ∷ lines) [] = n

-- by the words of the line `run STAMP`
abbrev pub run_by : List (List ℕ) → List (List ℕ) → Finding
run_by entries (verb ∷ stamp ∷ []) =
    if bytes_eq verb (codes "run") && is_stamp stamp then IsKnown stamp entries else IsMisfit 6
run_by entries _ = IsMisfit 6

-- by what stands behind the head
abbrev pub run_in : List (List ℕ) → Finding
run_in [] = IsFresh
run_in (line ∷ lines) = run_by lines (words line)

-- but for zeros at its end it is a first part of the head: a machine that goes down may leave zeros
-- in a file in place of what was written last
abbrev pub is_torn : List ℕ → List ℕ → Bool
is_torn head text = starts_with nat_eq head (without_end (is_byte 0) text)

unfoldable pub finding : List ℕ → List ℕ → Finding
finding head text =
    if starts_with nat_eq (whole text) head then run_in (lines_of (drop (length head) (whole text)))
    else if is_torn head text then IsFresh
    else IsMisfit (first_other 1 (lines_of text) (lines_of head))
