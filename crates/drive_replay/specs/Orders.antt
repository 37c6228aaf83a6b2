-- What the order decides in which lanes come to the archive. A lane comes to it at an unpack and a
-- `when`, which take what it has, and at a publish, which adds to it; a wait only passes later or
-- sooner. So a run that goes on by a journal, which keeps that order, picks what was picked. The
-- project's own rules. Parameters: u a universe, p a plan, ls the lanes that take turns, f a farm.
--
--   at_archive           an instruction at which a lane comes to the archive
--   Event, events        of a run, in their order, the turns at such instructions: whose each was, and
--                        where it has left that lane
--   OrderDecides f       of any other run in which lanes come to the archive in the same order
use Rattle.std.specs.Prelude.{◌≡◌, ℕ, Bool, true, false, List, [], ◌∷◌, map, Option, Some, if◌then◌else◌}
use Rattle.farm_core.specs.Farm.{Farm}
use Rattle.farm_model.specs.Universe.{Universe}
use Rattle.plan_model.specs.Common.{Plan, instruction_at, State, start, lane_state, Run, LaneState}
use Rattle.plan_model.specs.declared.instructions.Instruction.{Instruction}
use Rattle.plan_model.specs.declared.instructions.Instruction.TheVariants.{Unpack, Publish, When}

abbrev pub at_archive : Option Instruction → Bool
at_archive (Some (Unpack name wanted)) = true
at_archive (Some (When name wanted)) = true
at_archive (Some (Publish r)) = true
at_archive _ = false

-- the lane of this number stands at one
abbrev pub comes_to_archive : Plan → State → ℕ → Bool
comes_to_archive p s l = at_archive (instruction_at p l (lane_state s l).done)

-- the lane behind it has the chroot with what was picked, and the place of the branch that was taken
pub record Event : Type 0 where
  pub lane : ℕ
  pub behind : LaneState

abbrev pub event : ℕ → LaneState → Event
event l st = record { lane = l; behind = st }

abbrev pub events : (u : Universe) (p : Plan) (ls : List ℕ) (s t : State) → Run u p s ls t
    → List Event
events u p [] s t run = []
events u p (l ∷ ls) s t run =
    if comes_to_archive p s l
    then event l (lane_state run.0 l) ∷ events u p ls run.0 t run.2
    else events u p ls run.0 t run.2

abbrev pub lanes_of : List Event → List ℕ
lanes_of es = map (λ (e : Event). e.lane) es

-- than the one that has led to the farm's state: each event has left its lane the same, so with the
-- same pick or branch; and the same is published
abbrev pub OrderDecides : Farm → Type 0
OrderDecides f =
    let u = f.universe in
    let p = f.plan.lanes in
    (ls ks : List ℕ) (t : State) (one : Run u p (start u p) ls f.state)
    (other : Run u p (start u p) ks t)
    → lanes_of (events u p ls (start u p) f.state one) ≡ lanes_of (events u p ks (start u p) t other)
    → (events u p ls (start u p) f.state one ≡ events u p ks (start u p) t other)
    × (f.state.published ≡ t.published)
