-- One turn of a lane: one instruction, or one output of a publish. The project's own rules, unless
-- said.
--
--   LaneState             where a lane stands, its chroot, what it has spent and built
--   newest, has_wanted    the variant that an unpack takes; whether there is one
--   passes                whether a wait passes
--   Turn, turn_of         what a lane does at its turn
use Rattle.std.specs.Prelude.{ℕ, suc, ◌+◌, zero, Bool, true, false, not, ◌&&◌, ◌==◌, nat_lt, List, [], ◌∷◌, length, replicate, Option, Some, None, slice_get, slice_index_or, slice_set, if◌then◌else◌}
use Rattle.deb_relation.specs.Relations.{Entry}
use Rattle.deb_relation.specs.declared.operator.Op.{Op}
use Rattle.farm_model.specs.Common.{some_below, highest_below, Universe, variant, variants, recipe, outputs, is_wanted, satisfies_entry, some_variant, Chroot, base_chroot, first_trap, unpack_traps, unpacked, configure_traps, configured, deconfigure_traps, deconfigured, remove_traps, removed, build_traps}
use Rattle.farm_model.specs.declared.types.Variant.{Variant}
use Rattle.farm_model.specs.declared.types.Trap.{Trap}
use Rattle.farm_model.specs.declared.types.Trap.TheVariants.{Missing, NotBuilt, OverBudget}
use Rattle.plan_model.specs.declared.instructions.Instruction.{Instruction}
use Rattle.plan_model.specs.declared.instructions.Instruction.TheVariants.{Unpack, Configure, Deconfigure, Remove, Build, Publish, Wait, When, Otherwise, EndWhen}
use Rattle.plan_model.specs.Plan.{Lane, next_place, else_place, capacity, unpack_cost, set_cost, build_cost, publish_cost, wait_cost}

-- a lane: the instructions that are done, the outputs that are made of the publish it stands at,
-- its chroot, what it has spent, and for each recipe, by number, whether it has built it
pub record LaneState : Type 0 where
  pub done : ℕ
  pub made : ℕ
  pub chroot : Chroot
  pub spent : ℕ
  pub built : List Bool

-- nothing is built
abbrev pub no_builds : Universe → List Bool
no_builds u = replicate (length u.recipes) false

-- the recipe is built
abbrev pub was_built : List Bool → ℕ → Bool
was_built built r = slice_index_or built r false

-- the recipe is built too
abbrev pub with_built : List Bool → ℕ → List Bool
with_built built r = slice_set built r true

-- a lane at its beginning, in its base chroot
abbrev pub start_lane : Universe → Lane → LaneState
start_lane u of = record {
  done = 0;
  made = 0;
  chroot = base_chroot u of.base;
  spent = 0;
  built =
      no_builds u;
}

-- the highest variant of the name that is in the archive and in the relation
unfoldable pub newest : Universe → (Variant → Bool) → ℕ → Option (Op × List ℕ) → Option ℕ
newest u there name wanted = highest_below (variants u name)
    (λ b. there (variant name b) && is_wanted u wanted (variant name b))

-- the archive has a variant of the name in the relation
unfoldable pub has_wanted : Universe → (Variant → Bool) → ℕ → Option (Op × List ℕ) → Bool
has_wanted u there name wanted = some_below (variants u name)
    (λ b. there (variant name b) && is_wanted u wanted (variant name b))

-- some variant in the archive satisfies an alternative of the entry (wanna-build's Dep-Wait)
abbrev pub passes : Universe → (Variant → Bool) → Entry → Bool
passes u there e = some_variant u (λ v. there v && satisfies_entry u e v)

-- what a lane does at its turn: an instruction; an output; it waits, has ended, or meets a trap
pub data Turn : Type 0 where
  Goes : (next : LaneState) → Turn
  Gives : (next : LaneState) (output : Variant) → Turn
  Waits : Turn
  Ends : Turn
  Fails : (trap : Trap) → Turn

-- the lane behind its instruction
abbrev pub past : Lane → LaneState → ℕ → Chroot → LaneState
past of st cost chroot = record st {
  done = next_place of st.done;
  made = 0;
  chroot = chroot;
  spent = st.spent + cost;
}

-- the lane behind a build
abbrev pub past_build : Lane → LaneState → ℕ → ℕ → LaneState
past_build of st cost r = record st {
  done = next_place of st.done;
  made = 0;
  spent = st.spent + cost;
  built = with_built st.built r;
}

-- the lane behind a `when`: in its first branch where it holds, else in its second one
abbrev pub past_when : Lane → LaneState → Bool → LaneState
past_when of st holds = record st {
  done = if holds then next_place of st.done else else_place of st.done;
  made = 0;
}

-- goes on, unless there is a trap
abbrev pub unless : Option Trap → Turn → Turn
unless None turn = turn
unless (Some trap) turn = Fails trap

-- with this cost the lane would spend more than its budget
abbrev pub over_budget : Lane → LaneState → ℕ → Bool
over_budget of st cost = nat_lt of.budget (st.spent + cost)

-- goes on, unless this cost is over the budget or one of these traps is met
abbrev pub unless_trapped : Lane → LaneState → ℕ → List (Bool × Trap) → Turn → Turn
unless_trapped of st cost traps turn =
    unless (first_trap ((over_budget of st cost, OverBudget) ∷ traps)) turn  -- X14

-- an unpack of what the archive gives, or of nothing
abbrev pub unpacks : Universe → Lane → LaneState → ℕ → Option ℕ → Turn
unpacks u of st name None = Fails Missing  -- X1
unpacks u of st name (Some b) =
    let v = variant name b in
    unless_trapped of st (unpack_cost u v) (unpack_traps u (capacity u of) st.chroot v)
    (Goes (past of st (unpack_cost u v) (unpacked st.chroot v)))

-- the lane behind one more of so many outputs: the last one ends the publish
abbrev pub given : Lane → ℕ → LaneState → ℕ → LaneState
given of count st cost =
    if nat_lt (suc st.made) count
    then record st { made = suc st.made; spent = st.spent + cost }
    else past of st cost st.chroot

-- a publish is charged whole with its first output
abbrev pub first_only : ℕ → ℕ → ℕ
first_only zero cost = cost
first_only (suc made) cost = 0

-- publish: over the budget; the recipe was not built. Tried with the first output alone
abbrev pub publish_traps : Universe → Lane → LaneState → ℕ → List (Bool × Trap)
publish_traps u of st r =
    ((st.made == 0) && over_budget of st (publish_cost u r), OverBudget) ∷  -- X14
    ((st.made == 0) && not (was_built st.built r), NotBuilt) ∷ []  -- X13

-- the next output of a publish, or none
abbrev pub publishes : Universe → Lane → LaneState → ℕ → Option Variant → Turn
publishes u of st r None = Waits
publishes u of st r (Some v) =
    unless (first_trap (publish_traps u of st r))
    (Gives (given of (length (outputs u r)) st (first_only st.made (publish_cost u r))) v)

-- a lane's turn, at the instruction it stands at, over the archive that is there. It never stands
-- at an `else` or an `end`
abbrev pub turn_of : Universe → (Variant → Bool) → Lane → LaneState → Option Instruction → Turn
turn_of u there of st None = Ends
turn_of u there of st (Some (Unpack name wanted)) =
    unpacks u of st name (newest u there name wanted)
turn_of u there of st (Some (Configure members)) =
    unless_trapped of st (set_cost members) (configure_traps u st.chroot members)
    (Goes (past of st (set_cost members) (configured st.chroot members)))
turn_of u there of st (Some (Deconfigure members)) =
    unless_trapped of st (set_cost members) (deconfigure_traps u st.chroot members)
    (Goes (past of st (set_cost members) (deconfigured st.chroot members)))
turn_of u there of st (Some (Remove members)) =
    unless_trapped of st (set_cost members) (remove_traps u st.chroot members)
    (Goes (past of st (set_cost members) (removed st.chroot members)))
turn_of u there of st (Some (Build r)) =
    unless_trapped of st (build_cost (recipe u r))
    (build_traps u (capacity u of) st.chroot (recipe u r))
    (Goes (past_build of st (build_cost (recipe u r)) r))
turn_of u there of st (Some (Publish r)) = publishes u of st r (slice_get (outputs u r) st.made)
turn_of u there of st (Some (Wait e)) =
    if passes u there e then Goes (past of st wait_cost st.chroot) else Waits
turn_of u there of st (Some (When name wanted)) =
    Goes (past_when of st (has_wanted u there name wanted))
turn_of u there of st (Some Otherwise) = Ends
turn_of u there of st (Some EndWhen) = Ends
