-- A plan: lanes of instructions. Parameters: u a universe, p a plan, l the number of a lane, i a
-- place in it (the number of instructions before it), x an instruction, v a variant. The project's
-- own rules, unless said.
--
--   Lane, Plan                        what a plan's text says
--   lane, instruction_at              a lane, and the instruction at a place, by number
--   next_place, else_place            the place behind an instruction; where a `when` that does not
--                                     hold leads to
--   outputs_of, events_of             what an instruction publishes; its events
--   Ways, ways, count                 the longest ways to a lane's end; the plan's events
--   unpack_cost, set_cost, ..         what an instruction costs
use Rattle.std.specs.Prelude.{ℕ, suc, ◌+◌, ◌/◌, max, List, [], ◌∷◌, length, take, drop, Option, slice_get, slice_index_or}
use Rattle.std.specs.List.{flat_map}
use Rattle.farm_model.specs.Common.{sum_below, Universe, Recipe, size, outputs, base}
use Rattle.farm_model.specs.declared.types.Variant.{Variant}
use Rattle.plan_model.specs.declared.instructions.Instruction.{Instruction}
use Rattle.plan_model.specs.declared.instructions.Instruction.TheVariants.{Publish, When, Otherwise, EndWhen}
use Rattle.plan_model.specs.Branches.{landing, past_else}

-- a lane: the number of its base chroot, how much it may spend, and its instructions with all
-- blocks expanded
pub record Lane : Type 0 where
  pub name : List ℕ
  pub base : ℕ
  pub budget : ℕ
  pub instructions : List Instruction

-- the lanes, in file order
abbrev pub Plan : Type 0
Plan = List Lane

-- what is read past the last lane
abbrev pub no_lane : Lane
no_lane = record { name = []; base = 0; budget = 0; instructions = [] }

-- the lane of this number
abbrev pub lane : Plan → ℕ → Lane
lane p l = slice_index_or p l no_lane

-- the instruction at a place of a lane, none past the end
abbrev pub instruction_at : Plan → ℕ → ℕ → Option Instruction
instruction_at p l i = slice_get (lane p l).instructions i

-- where a lane stands once the instruction at a place is done: the next place, from which it goes
-- on where that is the end of a branch
abbrev pub next_place : Lane → ℕ → ℕ
next_place of i = landing of.instructions (suc i)

-- where a `when` at a place leads to that does not hold: to its second branch
abbrev pub else_place : Lane → ℕ → ℕ
else_place of i = landing of.instructions (past_else (drop (suc i) of.instructions) (suc i))

-- the KiB that the lane's chroot can hold
unfoldable pub capacity : Universe → Lane → ℕ
capacity u of = (base u of.base).capacity

-- the variants that an instruction publishes, in declared order
abbrev pub outputs_of : Universe → Instruction → List Variant
outputs_of u (Publish r) = outputs u r
outputs_of u _ = []

-- the events of an instruction: a publish has one for each output, an `else` and an `end` none
abbrev pub events_of : Universe → Instruction → ℕ
events_of u (Publish r) = length (outputs u r)
events_of u Otherwise = 0
events_of u EndWhen = 0
events_of u _ = 1

-- the most events to a lane's end: from the first of some instructions, from behind the next
-- `else`, and from behind the next `end`
pub record Ways : Type 0 where
  pub here : ℕ
  pub past_else : ℕ
  pub past_end : ℕ

-- ahead of an instruction, from the ways behind it: a `when` leads into either branch, and an
-- `else` behind its `end`
abbrev pub ways_ahead : Universe → Instruction → Ways → Ways
ways_ahead u (When name wanted) w =
    record { here = suc (max w.here w.past_else); past_else = w.past_else; past_end = w.past_end }
ways_ahead u Otherwise w =
    record { here = w.past_end; past_else = w.here; past_end = w.past_end }
ways_ahead u EndWhen w = record { here = w.here; past_else = w.past_else; past_end = w.here }
ways_ahead u x w =
    record { here = events_of u x + w.here; past_else = w.past_else; past_end = w.past_end }

-- the most events of these instructions, the last of a lane
abbrev pub ways : Universe → List Instruction → Ways
ways u [] = record { here = 0; past_else = 0; past_end = 0 }
ways u (x ∷ xs) = ways_ahead u x (ways u xs)

-- the most events of the plan: its instructions, a publish counted once for each output, and a
-- `when` with the longer one of its branches
unfoldable pub count : Universe → Plan → ℕ
count u p = sum_below (length p) (λ l. (ways u (lane p l).instructions).here)

-- an unpack of so many KiB costs 1 and one more for each whole MiB
abbrev pub size_cost : ℕ → ℕ
size_cost kib = 1 + kib / 1024

-- an unpack of a variant
abbrev pub unpack_cost : Universe → Variant → ℕ
unpack_cost u v = size_cost (size u v)

-- a configure, deconfigure or remove of a set costs 1 for each member
abbrev pub set_cost : List ℕ → ℕ
set_cost members = length members

-- a build costs its recipe's steps
abbrev pub build_cost : Recipe → ℕ
build_cost r = r.steps

-- a publish costs 1 for each output of the recipe
abbrev pub publish_cost : Universe → ℕ → ℕ
publish_cost u r = length (outputs u r)

-- a wait costs nothing
abbrev pub wait_cost : ℕ
wait_cost = 0

-- what a lane publishes, in its order
abbrev pub lane_outputs : Universe → Lane → List Variant
lane_outputs u of = flat_map (outputs_of u) of.instructions

-- how many outputs a lane has published where so many instructions are done, and so many outputs of
-- the next
abbrev pub outputs_before : Universe → Lane → ℕ → ℕ → ℕ
outputs_before u of done made = length (flat_map (outputs_of u) (take done of.instructions)) + made
