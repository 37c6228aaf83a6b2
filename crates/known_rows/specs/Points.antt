-- The points of a plan, its waits and its `when`s, numbered lane by lane, and what each may learn.
-- The project's own rules. Parameters: u a universe, p a plan, l a lane, i a place, test what a
-- point looks for.
--
--   asked                      what a point looks for
--   point_number               the number of the point at a place
--   last_after, last_point     the point whose counts hold at a place
--   IsSource, AreSources       an output that a point looks for; what is told of all such
--   ArePoints                  the waits and `when`s as points of the columns
--   clock_of                   the clocks of the columns
use Rattle.std.specs.Prelude.{◌≡◌, ◌⊎◌, ℕ, zero, suc, ◌+◌, ◌<◌, ◌≤◌, Bool, true, ◌==◌, List, [], ◌∷◌, length, take, Option, Some, None, slice_get, if◌then◌else◌}
use Rattle.farm_model.specs.Common.{sum_below, Universe, satisfies_entry, initial, outputs}
use Rattle.farm_model.specs.declared.types.Variant.{Variant}
use Rattle.plan_model.specs.Common.{Plan, lane, instruction_at, outputs_before, is_of}
use Rattle.plan_model.specs.declared.instructions.Instruction.{Instruction}
use Rattle.plan_model.specs.declared.instructions.Instruction.TheVariants.{Publish, Wait, When, Otherwise, EndWhen}
use Rattle.verdict_laws.specs.Clocks.{Clocks}
use Rattle.known_rows.specs.declared.column.Source.{Source}
use Rattle.known_rows.specs.declared.column.Point.{Point}
use Rattle.known_rows.specs.declared.marks.LastPoints.{LastPoints}
use Rattle.known_rows.specs.Column.{Counts, count_at}

-- what a point looks for: a wait, what satisfies its entry; a `when`, what is of its name and in
-- its relation
abbrev pub asked : Universe → Instruction → Option (Variant → Bool)
asked u (Wait e) = Some (satisfies_entry u e)
asked u (When name wanted) = Some (is_of u name wanted)
asked u _ = None

abbrev pub one_point : Instruction → ℕ
one_point (Wait e) = 1
one_point (When name wanted) = 1
one_point _ = 0

abbrev pub point_count : List Instruction → ℕ
point_count [] = 0
point_count (x ∷ xs) = one_point x + point_count xs

-- how many points a lane has before a place
abbrev pub points_before : Plan → ℕ → ℕ → ℕ
points_before p l i = point_count (take i (lane p l).instructions)

-- how many points the lanes before l have
abbrev pub first_point : Plan → ℕ → ℕ
first_point p l = sum_below l (λ h. point_count (lane p h).instructions)

-- the number of the point at a place
abbrev pub point_number : Plan → ℕ → ℕ → ℕ
point_number p l i = first_point p l + points_before p l i

-- a lane's beginning
abbrev pub no_points : LastPoints
no_points = record { here = None; ahead = None }

-- the points behind an instruction, where the next point has this number: what a `when` looks for
-- counts in its first branch alone, and behind `else` and `end` what counted ahead of it
abbrev pub last_after : Instruction → ℕ → LastPoints → LastPoints
last_after (Wait e) next last = record { here = Some next; ahead = last.ahead }
last_after (When name wanted) next last = record { here = Some next; ahead = last.here }
last_after Otherwise next last = record { here = last.ahead; ahead = last.ahead }
last_after EndWhen next last = record { here = last.ahead; ahead = last.ahead }
last_after _ next last = last

abbrev pub last_after_some : Option Instruction → ℕ → LastPoints → LastPoints
last_after_some None next last = last
last_after_some (Some x) next last = last_after x next last

-- the points whose counts hold at a place, and ahead of the `when` that is open there
abbrev pub lasts_at : Plan → ℕ → ℕ → LastPoints
lasts_at p l zero = no_points
lasts_at p l (suc i) =
    last_after_some (instruction_at p l i) (point_number p l i) (lasts_at p l i)

-- the number of the point whose counts hold at a place
abbrev pub last_point : Plan → ℕ → ℕ → Option ℕ
last_point p l i = (lasts_at p l i).here

-- an initial variant that a point looks for: nothing is known with it
pub record IsNothing (u : Universe) (test : Variant → Bool) (s : Source) : Type 0 where
  pub variant : Variant
  pub is_initial : initial u variant ≡ true
  pub satisfies : test variant ≡ true
  pub count : s.count ≡ 0
  pub point : s.point ≡ None

-- an output that a point looks for, of the lane's own one before it
pub record IsSource (u : Universe) (p : Plan) (l i : ℕ) (test : Variant → Bool) (s : Source)
    : Type 0 where
  pub place : ℕ
  pub recipe : ℕ
  pub number : ℕ
  pub variant : Variant
  pub below : s.lane < length p
  pub publish : instruction_at p s.lane place ≡ Some (Publish recipe)
  pub output : slice_get (outputs u recipe) number ≡ Some variant
  pub satisfies : test variant ≡ true
  pub own : s.lane ≡ l → place < i
  pub count : s.count ≡ outputs_before u (lane p s.lane) place (suc number)
  pub point : s.point ≡ last_point p s.lane place

-- nothing is known where some source says so
pub record HasNothing (ss : List Source) : Type 0 where
  pub index : ℕ
  pub source : Source
  pub at : slice_get ss index ≡ Some source
  pub count : source.count ≡ 0
  pub point : source.point ≡ None

-- among the sources there is an output of lane h up to this number
pub record HasFirst (u : Universe) (p : Plan) (l i : ℕ) (test : Variant → Bool) (ss : List Source)
    (h n : ℕ) : Type 0 where
  pub index : ℕ
  pub source : Source
  pub at : slice_get ss index ≡ Some source
  pub is : IsSource u p l i test source
  pub of_lane : source.lane ≡ h
  pub early : source.count ≤ n

-- the sources of a point
pub record AreSources (u : Universe) (p : Plan) (l i : ℕ) (test : Variant → Bool)
    (ss : List Source) : Type 0 where
  pub sound : (k : ℕ) (s : Source) → slice_get ss k ≡ Some s
      → IsNothing u test s ⊎ IsSource u p l i test s
  pub nothing : (c : Variant) → initial u c ≡ true → test c ≡ true → HasNothing ss
  pub outputs : (h k r m : ℕ) (c : Variant) → h < length p
      → instruction_at p h k ≡ Some (Publish r) → slice_get (outputs u r) m ≡ Some c
      → test c ≡ true → (h ≡ l → k < i)
      → HasFirst u p l i test ss h (outputs_before u (lane p h) k (suc m))

-- what looks for this, as a point
pub record IsPointAt (u : Universe) (p : Plan) (l i : ℕ) (test : Variant → Bool) (of : Point)
    : Type 0 where
  pub own : of.own ≡ outputs_before u (lane p l) i 0
  pub lane : of.lane ≡ l
  pub place : of.place ≡ i
  pub before : of.before ≡ last_point p l i
  pub sources : AreSources u p l i test of.sources.items

pub record HasPoint (u : Universe) (p : Plan) (ps : List Point) (l i : ℕ) (test : Variant → Bool)
    : Type 0 where
  pub point : Point
  pub at : slice_get ps (point_number p l i) ≡ Some point
  pub is : IsPointAt u p l i test point

-- point w is that of an instruction of the plan
pub record HasPlace (u : Universe) (p : Plan) (w : ℕ) (of : Point) : Type 0 where
  pub lane : ℕ
  pub place : ℕ
  pub instruction : Instruction
  pub test : Variant → Bool
  pub below : lane < length p
  pub there : instruction_at p lane place ≡ Some instruction
  pub asks : asked u instruction ≡ Some test
  pub number : w ≡ point_number p lane place
  pub is : IsPointAt u p lane place test of

-- all waits and `when`s of the plan
pub record ArePoints (u : Universe) (p : Plan) (ps : List Point) : Type 0 where
  pub long : length ps ≡ first_point p (length p)
  pub each : (l i : ℕ) (x : Instruction) (test : Variant → Bool) → l < length p
      → instruction_at p l i ≡ Some x → asked u x ≡ Some test → HasPoint u p ps l i test
  pub back : (w : ℕ) (of : Point) → slice_get ps w ≡ Some of → HasPlace u p w of

-- what a lane knows of its own outputs, and of the others' by the point whose counts hold
abbrev pub clock_of : Universe → Plan → (ℕ → Counts) → Clocks
clock_of u p columns l i j =
    if j == l then outputs_before u (lane p l) i 0 else count_at (columns j) (last_point p l i)
