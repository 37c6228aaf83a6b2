-- A line of a certificate by itself (the project's own format): words stand between blanks, and
-- blanks at both ends mean nothing.
--
--   known_row u name number line  the row of `known NAME NUMBER: ..`
--   order_lane p line             the lane of `order LANE`
use Rattle.std.specs.Prelude.{ℕ, Bool, false, ◌==◌, ◌&&◌, List, [], ◌∷◌, map, codes, Option, Some, None, if◌then◌else◌}
use Rattle.std.specs.List.{list_any}
use Rattle.std.specs.Str.{bytes_eq}
use Rattle.deb_text.specs.Common.{is_byte, is_blank, is_solid, before, after, front, behind, place_in, number_at, words}
use Rattle.farm_model.specs.Universe.{Universe}
use Rattle.plan_model.specs.Plan.{Plan, Lane}
use Rattle.cert_text.specs.Rows.{row_at}

-- ---- what a lane knows

-- the first word of a text, and what stands behind it
abbrev pub first_word : List ℕ → List ℕ
first_word text = front is_solid (behind is_blank text)

abbrev pub behind_word : List ℕ → List ℕ
behind_word text = behind is_solid (behind is_blank text)

-- the first byte `:`
abbrev pub is_colon : ℕ → Bool
is_colon b = is_byte 58 b

-- the text is a number, and this one
abbrev pub is_number_of : ℕ → Option ℕ → Bool
is_number_of number None = false
is_number_of number (Some n) = n == number

-- behind `known LANE`: NUMBER, a colon at once, and a list of variants
unfoldable pub numbered_row : Universe → ℕ → List ℕ → Option (List ℕ)
numbered_row u number text =
    if list_any is_colon text && is_number_of number (number_at (before is_colon text))
    then row_at u (after is_colon text) else None

unfoldable pub known_row : Universe → List ℕ → ℕ → List ℕ → Option (List ℕ)
known_row u name number line =
    if bytes_eq (first_word line) (codes "known")
    && bytes_eq (first_word (behind_word line)) name
    then numbered_row u number (behind is_blank (behind_word (behind_word line))) else None

-- ---- the order

abbrev pub lane_names : Plan → List (List ℕ)
lane_names p = map (λ (of : Lane). of.name) p

-- the words `order` and a lane's name
abbrev pub order_words : Plan → List (List ℕ) → Option ℕ
order_words p (word ∷ name ∷ []) =
    if bytes_eq word (codes "order") then place_in bytes_eq (lane_names p) name else None
order_words p _ = None

unfoldable pub order_lane : Plan → List ℕ → Option ℕ
order_lane p line = order_words p (words line)
