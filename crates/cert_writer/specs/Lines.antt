-- The text of a certificate, part by part, as it is put together. The project's own words.
-- Parameters: u a universe, p a plan, known what its lanes know, l a lane, i a place.
--
--   item_text, part_text     variants behind others of a list, or the first of it
--   place_row_text, lane_text  the line behind an instruction, if any, and the lines of a lane
--   all_lines                all lines behind the first
use Rattle.std.specs.Prelude.{ℕ, ◌+◌, Bool, true, false, List, [], ◌∷◌, ◌++◌, codes, filter, length, Option, Some, None, if◌then◌else◌}
use Rattle.std.specs.List.{flat_map, range_with_len}
use Rattle.clause_kernel.specs.Rows.{word_has}
use Rattle.cert_text.specs.Certificates.{learns, row_places}
use Rattle.cert_text.specs.Printed.{variant_text, more_text, list_text, known_line, order_line}
use Rattle.farm_model.specs.Universe.{Universe}
use Rattle.farm_model.specs.declared.types.Variant.{Variant}
use Rattle.plan_model.specs.Common.{Rows, Plan, lane, instruction_at}
use Rattle.plan_model.specs.declared.instructions.Instruction.{Instruction}
use Rattle.cert_writer.specs.NewRows.{new_row}

-- ---- a list

-- what stands ahead of a variant
abbrev pub ahead_of_variant : Bool → List ℕ
ahead_of_variant is_first = if is_first then codes " " else codes ", "

abbrev pub item_text : Universe → Bool → Variant → List ℕ
item_text u is_first v = ahead_of_variant is_first ++ variant_text u v

-- variants behind others, or at the start of a list
abbrev pub part_text : Universe → Bool → List Variant → List ℕ
part_text u is_first vs = if is_first then list_text u vs else more_text u vs

-- there are none
abbrev pub is_none : List Variant → Bool
is_none [] = true
is_none (v ∷ vs) = false

-- the variants of one name that its word has
abbrev pub in_word : ℕ → List Variant → List Variant
in_word word vs = filter (λ v. word_has word v.bit) vs

-- ---- lines

-- the line of the row behind the instruction of this number, from 1
abbrev pub row_text : Universe → Plan → Rows → ℕ → ℕ → List ℕ
row_text u p known l number = known_line u (lane p l).name (number, new_row u known l number)

-- the number of an instruction that has a row
abbrev pub places_at : ℕ → Option Instruction → List ℕ
places_at number None = []
places_at number (Some x) = if learns x then number ∷ [] else []

-- the line behind the instruction at a place, where it has a row
abbrev pub place_row_text : Universe → Plan → Rows → ℕ → ℕ → List ℕ
place_row_text u p known l i =
    flat_map (row_text u p known l) (places_at (i + 1) (instruction_at p l i))

abbrev pub lane_text : Universe → Plan → Rows → ℕ → List ℕ
lane_text u p known l = flat_map (row_text u p known l) (row_places (lane p l))

-- the lines of the lanes, and of this order
abbrev pub all_lines : Universe → Plan → Rows → List ℕ → List ℕ
all_lines u p known order =
    flat_map (lane_text u p known) (range_with_len 0 (length p)) ++ flat_map (order_line p) order
