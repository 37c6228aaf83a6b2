-- What a lane can know of the archive at each of its places. The project's own rules; rows never
-- mention a run. Places count the instructions done, from 0; there is a row for each, though no
-- lane stands just before an `else` or an `end`.
--
--   possible, publishing      what may be in the archive; the first outputs of a publish
--   Rows, KeepsRows           a set for each lane and place; the inclusions that it keeps
--   teaches, published_by     behind the instruction a lane may know more; the recipe it publishes
--   IsFact, Follows           what is in the archive whenever a given variant is, or one that
--   passes
--   row_before                the place whose row goes on behind an instruction
--   IsGreatest                the greatest such family
use Rattle.std.specs.Prelude.{◌≡◌, ◌⊎◌, ℕ, suc, ◌<◌, ◌≤◌, Bool, true, false, ◌&&◌, ◌||◌, ◌==◌, List, [], ◌∷◌, length, take, Option, Some, None, slice_get, if◌then◌else◌}
use Rattle.std.specs.List.{list_any}
use Rattle.deb_relation.specs.declared.operator.Op.{Op}
use Rattle.farm_model.specs.Common.{some_below, Universe, contains, is_wanted, satisfies_entry, initial, outputs}
use Rattle.farm_model.specs.declared.types.Variant.{Variant}
use Rattle.plan_model.specs.declared.instructions.Instruction.{Instruction}
use Rattle.plan_model.specs.declared.instructions.Instruction.TheVariants.{Publish, Wait, When, Otherwise, EndWhen}
use Rattle.plan_model.specs.Branches.{side_at, home}
use Rattle.plan_model.specs.Plan.{Plan, lane, instruction_at, outputs_of}

-- the variant is an output of the instruction
abbrev pub gives : Universe → Variant → Instruction → Bool
gives u v x = contains (outputs_of u x) v

-- of lane j, the instructions whose outputs lane l may meet at place i: of its own those before the
-- place
abbrev pub within_reach : Plan → ℕ → ℕ → ℕ → List Instruction
within_reach p l i j = if j == l then take i (lane p j).instructions else (lane p j).instructions

-- what may be in the archive when lane l stands at place i
unfoldable pub possible : Universe → Plan → ℕ → ℕ → Variant → Bool
possible u p l i v = initial u v
    || some_below (length p) (λ j. list_any (gives u v) (within_reach p l i j))

-- the first so many outputs of an instruction
abbrev pub publishing : Universe → Option Instruction → ℕ → Variant → Bool
publishing u None made v = false
publishing u (Some x) made v = contains (take made (outputs_of u x)) v

-- a set of variants for each lane and place
abbrev pub Rows : Type 0
Rows = ℕ → ℕ → Variant → Bool

-- the initial archive at each place of each lane
abbrev pub initial_rows : Universe → Rows
initial_rows u l i v = initial u v

-- behind the instruction its lane may know more: it waits, publishes or takes a branch
abbrev pub teaches : Instruction → Bool
teaches (Publish r) = true
teaches (Wait e) = true
teaches (When name wanted) = true
teaches _ = false

-- the recipe that the instruction publishes, if it does
abbrev pub published_by : Instruction → List ℕ
published_by (Publish r) = r ∷ []
published_by _ = []

-- v is in the archive whenever c is: with an initial c the initial archive; with an output, what is
-- known ahead of its publish and the outputs of that publish up to it
pub record IsFact (u : Universe) (p : Plan) (rows : Rows) (c v : Variant) : Type 0 where
  pub from_start : initial u c ≡ true → initial u v ≡ true
  pub from_output : (j k r m : ℕ) → j < length p → instruction_at p j k ≡ Some (Publish r)
      → slice_get (outputs u r) m ≡ Some c
      → (rows j k v ≡ true) ⊎ (contains (take (suc m) (outputs u r)) v ≡ true)

-- v is a fact of each possible variant that passes (with no such variant: all that is possible)
abbrev pub Follows : Universe → Plan → Rows → ℕ → ℕ → Variant → (Variant → Bool) → Type 0
Follows u p rows l i v passes =
    (possible u p l i v ≡ true) × ((c : Variant) → possible u p l i c ≡ true
    → passes c ≡ true → IsFact u p rows c v)

-- a variant of the name in the relation
abbrev pub is_of : Universe → ℕ → Option (Op × List ℕ) → Variant → Bool
is_of u name wanted c = (c.name == name) && is_wanted u wanted c

-- what an instruction may add to the row of lane l at place i: a publish its outputs; a wait what
-- follows from each variant that satisfies its entry; a `when` that holds what follows from each
-- variant that it looks for
abbrev pub Adds : Universe → Plan → Rows → ℕ → ℕ → Variant → Instruction → Type 0
Adds u p rows l i v (Publish r) = contains (outputs u r) v ≡ true
Adds u p rows l i v (Wait e) = Follows u p rows l i v (satisfies_entry u e)
Adds u p rows l i v (When name wanted) = Follows u p rows l i v (is_of u name wanted)
Adds u p rows l i v _ = ⊥

-- the place whose row goes on behind the instruction at place i: behind an `else` and an `end` what
-- is known is what was known ahead of their `when`
abbrev pub row_before : Plan → ℕ → ℕ → Instruction → ℕ
row_before p l i Otherwise = home (side_at (lane p l).instructions i) i
row_before p l i EndWhen = home (side_at (lane p l).instructions i) i
row_before p l i x = i

-- rows that keep to the inclusions: a lane begins with no more than the initial archive, and an
-- instruction adds no more than that
pub record KeepsRows (u : Universe) (p : Plan) (rows : Rows) : Type 0 where
  pub at_start : (l : ℕ) (v : Variant) → l < length p → rows l 0 v ≡ true → initial u v ≡ true
  pub after : (l i : ℕ) (x : Instruction) (v : Variant) → l < length p
      → instruction_at p l i ≡ Some x → rows l (suc i) v ≡ true
      → (rows l (row_before p l i x) v ≡ true) ⊎ Adds u p rows l i v x

-- they keep to the inclusions, and at the plan's places have all that any such rows have
pub record IsGreatest (u : Universe) (p : Plan) (rows : Rows) : Type 0 where
  pub keeps : KeepsRows u p rows
  pub greatest : (other : Rows) → KeepsRows u p other
      → (l i : ℕ) (v : Variant) → l < length p → i ≤ length (lane p l).instructions
      → other l i v ≡ true → rows l i v ≡ true
