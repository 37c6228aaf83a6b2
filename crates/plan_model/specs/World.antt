-- A farm as the words of its archive and the lanes' records show it. An archive step of a lane is
-- an unpack, a passed wait, a `when` or an output. The project's own rules.
--
--   World, start_world, Shows      words and records, and the state that they show
--   settled, ready                 a lane's local instructions, up to its next archive step
--   archive_step                   a lane's local instructions and then its archive step
--   is_after_step, IsAfterSteps    lanes that stand just after their last archive step
use Rattle.std.specs.Prelude.{◌≡◌, ℕ, zero, suc, ◌^◌, Bool, true, false, ◌&&◌, ◌||◌, nat_lt, List, [], ◌∷◌, map, drop, Option, Some, None, slice_get, slice_index, slice_index_or, slice_set, bit_or}
use Rattle.farm_model.specs.Common.{Universe, has_bit}
use Rattle.farm_model.specs.declared.types.Variant.{Variant}
use Rattle.plan_model.specs.declared.instructions.Instruction.{Instruction}
use Rattle.plan_model.specs.declared.instructions.Instruction.TheVariants.{Unpack, Configure, Deconfigure, Remove, Build, Publish, Wait, When, Otherwise, EndWhen}
use Rattle.plan_model.specs.Plan.{Lane, Plan, lane, instruction_at}
use Rattle.plan_model.specs.Turn.{LaneState, start_lane, Turn, Goes, Gives, turn_of}
use Rattle.plan_model.specs.Run.{State, no_state, archive, Reachable}

-- the words, by name, whose bits are the archive, and the lanes
pub record World : Type 0 where
  pub words : List ℕ
  pub lanes : List LaneState

-- the first world: the initial archive, each lane at its beginning
abbrev pub start_world : Universe → Plan → World
start_world u p = record { words = u.initial; lanes = map (start_lane u) p }

-- the record of the lane of this number
abbrev pub world_lane : World → ℕ → LaneState
world_lane w l = slice_index_or w.lanes l no_state

-- the state has these lanes, and the archive of these words
pub record Shows (u : Universe) (w : World) (s : State) : Type 0 where
  pub lanes : s.lanes ≡ w.lanes
  pub archive_is : (v : Variant) → archive u s.published v ≡ has_bit w.words v

-- the world shows a reachable state
abbrev pub IsShown : Universe → Plan → World → Type 0
IsShown u p w = (s : State) × Reachable u p s × Shows u w s

-- the lane after a turn that goes on, and then what comes next; else as it was
abbrev pub goes_on : LaneState → Turn → (LaneState → LaneState) → LaneState
goes_on st (Goes next) rest = rest next
goes_on st _ rest = st

-- nothing in the archive: local instructions do not look at it
abbrev pub nothing : Variant → Bool
nothing v = false

-- the lane after these local instructions, up to the first unpack, wait, publish or `when`. Behind
-- an `else` it skips what stands before the next `end`
abbrev pub settled : Universe → Lane → Bool → List Instruction → LaneState → LaneState
settled u of skips [] st = st
settled u of true (EndWhen ∷ xs) st = settled u of false xs st
settled u of true (x ∷ xs) st = settled u of true xs st
settled u of false (Otherwise ∷ xs) st = settled u of true xs st
settled u of false (EndWhen ∷ xs) st = settled u of false xs st
settled u of false (Configure members ∷ xs) st =
    goes_on st (turn_of u nothing of st (Some (Configure members)))
    (λ next. settled u of false xs next)
settled u of false (Deconfigure members ∷ xs) st =
    goes_on st (turn_of u nothing of st (Some (Deconfigure members)))
    (λ next. settled u of false xs next)
settled u of false (Remove members ∷ xs) st =
    goes_on st (turn_of u nothing of st (Some (Remove members)))
    (λ next. settled u of false xs next)
settled u of false (Build r ∷ xs) st =
    goes_on st (turn_of u nothing of st (Some (Build r))) (λ next. settled u of false xs next)
settled u of false (x ∷ xs) st = st

-- the lane at its next archive step
abbrev pub ready : Universe → Lane → LaneState → LaneState
ready u of st = settled u of false (drop st.done of.instructions) st

-- the words with the bit of the variant set
abbrev pub with_bit : List ℕ → Variant → List ℕ
with_bit words v = slice_set words v.name (bit_or (slice_index words v.name) (2 ^ v.bit))

-- the lane's turn in the world; none where it does not step
abbrev pub world_after : World → ℕ → Turn → Option World
world_after w l (Goes next) = Some (record w { lanes = slice_set w.lanes l next })
world_after w l (Gives next v) =
    Some (record { words = with_bit w.words v; lanes = slice_set w.lanes l next })
world_after w l _ = None

-- the lane's local instructions and then its archive step; none where that cannot be made
unfoldable pub archive_step : Universe → Plan → World → ℕ → Option World
archive_step u p w l =
    let st = ready u (lane p l) (world_lane w l) in
    world_after w l (turn_of u (has_bit w.words) (lane p l) st (instruction_at p l st.done))

-- the instruction looks at the archive or adds to it
abbrev pub is_archive_step : Instruction → Bool
is_archive_step (Unpack name wanted) = true
is_archive_step (Publish r) = true
is_archive_step (Wait e) = true
is_archive_step (When name wanted) = true
is_archive_step _ = false

-- behind the instruction a lane may stand just after an archive step: it is one; or it is an
-- `else`, to which a `when` leads, or an `end`, behind which a branch goes on that ends by one
abbrev pub is_behind_step : Option Instruction → Bool
is_behind_step None = false
is_behind_step (Some Otherwise) = true
is_behind_step (Some EndWhen) = true
is_behind_step (Some x) = is_archive_step x

-- the place is the beginning of the lane, or one at which it may stand just after an archive step
abbrev pub is_place_after_step : Lane → ℕ → Bool
is_place_after_step of zero = true
is_place_after_step of (suc i) = is_behind_step (slice_get of.instructions i)

-- the instruction is a publish
abbrev pub is_publish : Option Instruction → Bool
is_publish (Some (Publish r)) = true
is_publish _ = false

-- the lane stands inside a publish: it has made some of its outputs
abbrev pub is_inside_publish : Lane → LaneState → Bool
is_inside_publish of st = nat_lt 0 st.made && is_publish (slice_get of.instructions st.done)

-- the lane stands at its beginning, just after its last archive step, or inside a publish
abbrev pub is_after_step : Lane → LaneState → Bool
is_after_step of st = is_inside_publish of st || is_place_after_step of st.done

-- so each lane of the world stands
abbrev pub IsAfterSteps : Plan → World → Type 0
IsAfterSteps p w = (l : ℕ) → is_after_step (lane p l) (world_lane w l) ≡ true
