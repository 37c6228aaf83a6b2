-- The points of a plan as a list, lane by lane, and the outputs of a lane, each with the point
-- whose counts hold at its publish. The project's own rules. Parameters: u a universe, p a plan, l
-- a lane, i a place.
use Rattle.std.specs.Prelude.{◌≡◌, ℕ, zero, suc, ◌<◌, List, [], ◌∷◌, ◌++◌, length, map, Option, Some, None, slice_get, slice_index_or}
use Rattle.farm_model.specs.Universe.{Universe}
use Rattle.farm_model.specs.declared.types.Variant.{Variant}
use Rattle.plan_model.specs.Plan.{Plan, lane, instruction_at, outputs_of, outputs_before}
use Rattle.plan_model.specs.declared.instructions.Instruction.{Instruction}
use Rattle.plan_model.specs.declared.instructions.Instruction.TheVariants.{Wait, When}
use Rattle.known_rows.specs.declared.marks.Mark.{Mark}
use Rattle.known_rows.specs.declared.marks.Output.{Output}
use Rattle.known_rows.specs.declared.marks.Past.{Past}
use Rattle.known_rows.specs.declared.marks.LaneOutputs.{LaneOutputs}
use Rattle.known_rows.specs.Points.{last_point}

abbrev pub output_with : Option ℕ → Variant → Output
output_with point v = record { variant = v; point = point }

abbrev pub marks_of : Instruction → ℕ → ℕ → ℕ → Option ℕ → List Mark
marks_of (Wait e) l i own last = record { lane = l; place = i; own = own; before = last } ∷ []
marks_of (When name wanted) l i own last =
    record { lane = l; place = i; own = own; before = last } ∷ []
marks_of _ l i own last = []

abbrev pub marks_at : Universe → Plan → ℕ → ℕ → Option Instruction → List Mark
marks_at u p l i None = []
marks_at u p l i (Some x) = marks_of x l i (outputs_before u (lane p l) i 0) (last_point p l i)

-- the points of a lane before a place
abbrev pub lane_marks : Universe → Plan → ℕ → ℕ → List Mark
lane_marks u p l zero = []
lane_marks u p l (suc i) = lane_marks u p l i ++ marks_at u p l i (instruction_at p l i)

-- those of the lanes before l
abbrev pub all_marks : Universe → Plan → ℕ → List Mark
all_marks u p zero = []
all_marks u p (suc l) = all_marks u p l ++ lane_marks u p l (length (lane p l).instructions)

abbrev pub outputs_at : Universe → Plan → ℕ → ℕ → Option Instruction → List Output
outputs_at u p l i None = []
outputs_at u p l i (Some x) = map (output_with (last_point p l i)) (outputs_of u x)

-- the outputs of a lane before a place, each with its point
abbrev pub outputs_with_points : Universe → Plan → ℕ → ℕ → List Output
outputs_with_points u p l zero = []
outputs_with_points u p l (suc i) =
    outputs_with_points u p l i ++ outputs_at u p l i (instruction_at p l i)

-- the outputs of each lane
pub record AreLanes (u : Universe) (p : Plan) (lanes : List LaneOutputs) : Type 0 where
  pub long : length lanes ≡ length p
  pub each : (l : ℕ) (of : LaneOutputs) → slice_get lanes l ≡ Some of
      → of.outputs.items ≡ outputs_with_points u p l (length (lane p l).instructions)

-- what lane l has behind it at place i
abbrev pub past_at : Universe → Plan → ℕ → ℕ → Past
past_at u p l i = record { own = outputs_before u (lane p l) i 0; last = last_point p l i }

-- what is read past the last place
abbrev pub no_past : Past
no_past = record { own = 0; last = None }

-- what lane l has behind it at the places below n
pub record ArePast (u : Universe) (p : Plan) (l n : ℕ) (past : List Past) : Type 0 where
  pub long : length past ≡ n
  pub each : (i : ℕ) → i < n → slice_index_or past i no_past ≡ past_at u p l i

-- what each lane has behind it at each of its places
abbrev pub HavePast : Universe → Plan → List LaneOutputs → Type 0
HavePast u p lanes =
    (l : ℕ) (of : LaneOutputs) → slice_get lanes l ≡ Some of
    → ArePast u p l (suc (length (lane p l).instructions)) of.past.items

-- a point of the plan: an instruction stands at its place, and it counts the outputs before it
pub record IsMark (u : Universe) (p : Plan) (mark : Mark) : Type 0 where
  pub lane_there : mark.lane < length p
  pub place_there : mark.place < length (lane p mark.lane).instructions
  pub own_is : mark.own ≡ outputs_before u (lane p mark.lane) mark.place 0

-- an instruction stands at the place of each mark
pub record IsThere (p : Plan) (mark : Mark) : Type 0 where
  pub in_plan : mark.lane < length p
  pub in_lane : mark.place < length (lane p mark.lane).instructions

abbrev pub AreThere : Plan → List Mark → Type 0
AreThere p marks = (w : ℕ) (mark : Mark) → slice_get marks w ≡ Some mark → IsThere p mark
