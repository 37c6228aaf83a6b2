-- The listing of a plan with the lines of its text (the project's own format): before each line of
-- the listing the number of the instruction in its lane, counted from 1, and the line of the text,
-- `-` for what there is none of. Parameters: u a universe, ms the lanes by lines, k the number of a
-- lane.
--
--   numbers_before number line       the numbers before a line
--   numbered_listing_of u p lines    the listing with them
use Rattle.std.specs.Prelude.{ℕ, ◌+◌, Bool, false, List, [], ◌∷◌, ◌++◌, codes, slice_get, Option, None, Some}
use Rattle.std.specs.Fmt.{decimal}
use Rattle.std.specs.Option.{option_map}
use Rattle.farm_model.specs.Universe.{Universe}
use Rattle.plan_reader.specs.declared.origin.Origin.{Origin}
use Rattle.plan_reader.specs.Listing.{instruction_line, inside_behind, lane_line}
use Rattle.plan_reader.specs.PlanLines.{LaneLines, PlanLines, origin_at}
use Rattle.plan_model.specs.Plan.{Lane, Plan}
use Rattle.plan_model.specs.declared.instructions.Instruction.{Instruction}

-- a number, or `-`, and a space behind it
abbrev pub number_text : Option ℕ → List ℕ
number_text (Some number) = decimal number ++ codes " "
number_text None = codes "- "

-- the number of an instruction, and a line
abbrev pub numbers_before : Option ℕ → Option ℕ → List ℕ
numbers_before number line = number_text number ++ number_text line

-- the lines of instructions of lane k from a place on, the first of them in a branch or not
abbrev pub numbered_lines : Universe → List LaneLines → ℕ → Bool → ℕ → List Instruction → List ℕ
numbered_lines u ms k inside place [] = []
numbered_lines u ms k inside place (x ∷ xs) =
    (numbers_before (Some (place + 1)) (option_map (λ (o : Origin). o.line) (origin_at ms k place))
    ++ instruction_line u inside x)
    ++ numbered_lines u ms k (inside_behind inside x) (place + 1) xs

-- the lines of lane k
unfoldable pub numbered_lane : Universe → List LaneLines → ℕ → Lane → List ℕ
numbered_lane u ms k l =
    (numbers_before None (option_map (λ (m : LaneLines). m.head) (slice_get ms k)) ++ lane_line u l)
    ++ (numbered_lines u ms k false 0 l.instructions
    ++ (numbers_before None (option_map (λ (m : LaneLines). m.end) (slice_get ms k))
    ++ codes "end\n"))

-- the lines of lanes from number k on
abbrev pub numbered_lanes : Universe → List LaneLines → ℕ → List Lane → List ℕ
numbered_lanes u ms k [] = []
numbered_lanes u ms k (l ∷ ls) = numbered_lane u ms k l ++ numbered_lanes u ms (k + 1) ls

-- the listing of a plan with the lines of a text
unfoldable pub numbered_listing_of : Universe → Plan → PlanLines → List ℕ
numbered_listing_of u p lines =
    (numbers_before None (Some lines.first) ++ codes "plan 1\n") ++ numbered_lanes u lines.lanes 0 p
