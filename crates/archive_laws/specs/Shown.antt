-- A farm as the words of its archive and the lanes' records show it: what holds of every world that
-- is reached. The project's own rules. Parameters: u a universe, p a plan, w a world, l a lane.
--
--   IsReached                      a world with a word for each name, which shows a reachable state
--   OneLaneSteps                   the law of one archive step
--   StandsAfterSteps               where lanes stand at the start and after archive steps
--   recorded, WordsAreRecorded     the outputs that a lane's record stands for; the words are these
--   IsForeseenWorld, IsReadyWorld  the facts of a world of an annotated plan
use Rattle.std.specs.Prelude.{◌≡◌, ◌≢◌, ◌⊎◌, ℕ, ◌<◌, ◌≤◌, true, ◌||◌, List, length, take, Some, slice_set}
use Rattle.farm_model.specs.Common.{some_below, Universe, names, contains, initial, has_bit}
use Rattle.farm_model.specs.declared.types.Variant.{Variant}
use Rattle.farm_model.specs.declared.types.Trap.{Trap}
use Rattle.plan_model.specs.Common.{Lane, Plan, lane, instruction_at, lane_outputs, outputs_before, LaneState, Fails, turn_of, Rows, possible, publishing, IsFact, may_at, lane_cost, AllowsAll, IsAnnotation, IsSound, World, start_world, world_lane, IsShown, ready, archive_step, is_archive_step, IsAfterSteps}
use Rattle.plan_model.specs.declared.instructions.Instruction.{Instruction}

-- a world that is reached: it has a word for each name, and shows a reachable state
pub record IsReached (u : Universe) (p : Plan) (w : World) : Type 0 where
  pub words : length w.words ≡ names u
  pub lanes : length w.lanes ≡ length p
  pub shown : IsShown u p w

-- the start is reached
abbrev pub StartIsReached : Type 0
StartIsReached = (u : Universe) (p : Plan) → IsSound u p → IsReached u p (start_world u p)

-- the world with this record of lane l
abbrev pub with_lane : World → ℕ → LaneState → World
with_lane w l st = record { words = w.words; lanes = slice_set w.lanes l st }

-- lane l of the world, at its next archive step
abbrev pub ready_lane : Universe → Plan → World → ℕ → LaneState
ready_lane u p w l = ready u (lane p l) (world_lane w l)

-- The law of one archive step, from a world that is reached:
pub record OneLaneSteps (u : Universe) (p : Plan) (w : World) (l : ℕ) : Type 0 where
  -- a lane's local instructions lead to such a world;
  pub local : IsReached u p (with_lane w l (ready_lane u p w l))
  -- so does its archive step after them;
  pub archive : (next : World) → archive_step u p w l ≡ Some next → IsReached u p next
  -- the other lanes' records stay as they were;
  pub others : (next : World) (k : ℕ) → archive_step u p w l ≡ Some next → k ≢ l
      → world_lane next k ≡ world_lane w k
  -- and nothing leaves the archive.
  pub grows : (next : World) (v : Variant) → archive_step u p w l ≡ Some next
      → has_bit w.words v ≡ true → has_bit next.words v ≡ true

abbrev pub EachLaneSteps : Type 0
EachLaneSteps =
    (u : Universe) (p : Plan) → IsSound u p → (w : World) → IsReached u p w → (l : ℕ) → l < length p
    → OneLaneSteps u p w l

-- Each lane stands at its beginning, just after its last archive step, or inside a publish:
pub record StandsAfterSteps (u : Universe) (p : Plan) : Type 0 where
  -- so it is at the start;
  pub start : IsAfterSteps p (start_world u p)
  -- and archive steps keep it, for every lane, in a world that is reached.
  pub kept : IsSound u p → (w next : World) (l : ℕ) → IsReached u p w → IsAfterSteps p w
      → archive_step u p w l ≡ Some next → IsAfterSteps p next

abbrev pub LanesStandAfterSteps : Type 0
LanesStandAfterSteps = (u : Universe) (p : Plan) → StandsAfterSteps u p

-- what a lane has published by its record
abbrev pub recorded : Universe → Lane → LaneState → List Variant
recorded u of st = take (outputs_before u of st.done st.made) (lane_outputs u of)

-- the words of a world that is reached are the initial archive and the recorded outputs
abbrev pub WordsAreRecorded : Type 0
WordsAreRecorded =
    (u : Universe) (p : Plan) → IsSound u p → (w : World) → IsReached u p w
    → (v : Variant) → has_bit w.words v ≡ (initial u v || some_below (length p)
    (λ l. contains (recorded u (lane p l) (world_lane w l)) v))

-- The facts of a world that is reached, of an annotated plan:
pub record IsForeseenWorld (u : Universe) (p : Plan) (rows : Rows) (w : World) : Type 0 where
  -- the words contain what each lane knows at its place;
  pub known : (l : ℕ) (v : Variant) → l < length p → rows l (world_lane w l).done v ≡ true
      → has_bit w.words v ≡ true
  -- they contain the facts of each variant in them;
  pub facts : (c v : Variant) → has_bit w.words c ≡ true → IsFact u p rows c v
      → has_bit w.words v ≡ true
  -- they have nothing outside what is possible at a lane's place and the outputs made of the
  -- publish that the lane stands at;
  pub bounded : (l : ℕ) (v : Variant) → l < length p → has_bit w.words v ≡ true
      → (possible u p l (world_lane w l).done v ≡ true)
      ⊎ (publishing u (instruction_at p l (world_lane w l).done) (world_lane w l).made v ≡ true)
  -- each chroot is one that the may map of its lane allows;
  pub allowed : (l : ℕ) → l < length p
      → AllowsAll u (may_at u p rows l (world_lane w l).done) (world_lane w l).chroot
  -- and a lane has spent at most its cost.
  pub spent : (l : ℕ) → l < length p → (world_lane w l).spent ≤ lane_cost u p rows l

abbrev pub WorldsAreForeseen : Type 0
WorldsAreForeseen =
    (u : Universe) (p : Plan) (rows : Rows) → IsSound u p → IsAnnotation u p rows → (w : World)
    → IsReached u p w → IsForeseenWorld u p rows w

-- Of an annotated plan, in a world that is reached:
pub record IsReadyWorld (u : Universe) (p : Plan) (w : World) (l : ℕ) : Type 0 where
  -- local instructions lead a lane to its next archive step, or to its end;
  pub at_archive : (x : Instruction) → instruction_at p l (ready_lane u p w l).done ≡ Some x
      → is_archive_step x ≡ true
  -- and that step meets no trap.
  pub no_trap : (trap : Trap) → turn_of u (has_bit w.words) (lane p l) (ready_lane u p w
      l) (instruction_at p l (ready_lane u p w l).done) ≢ Fails trap

abbrev pub WorldsAreReady : Type 0
WorldsAreReady =
    (u : Universe) (p : Plan) (rows : Rows) → IsSound u p → IsAnnotation u p rows → (w : World)
    → IsReached u p w → (l : ℕ) → l < length p → IsReadyWorld u p w l
