-- Known rows as clocks: of each lane's outputs a first part. The project's own rules. Parameters: u
-- a universe, p a plan, l a lane, i a place, j a lane and n the number of one of its outputs, from
-- 0.
--
--   Clocks, clock_rows            how many outputs of each lane are known; the rows of clocks
--   KeepsClocks, ClocksKeepRows   clocks that keep to the inclusions; so do their rows
--   HasUniqueOutputs              each output is made once
--   OutputsAreUnique              so it is in every sound plan
--   clocks_of, RowsHaveClocks     the clocks of rows, and what they know
--   GreatestClocksAreGreatest     the greatest clocks have the greatest rows
use Rattle.std.specs.Prelude.{◌≡◌, ◌⊎◌, ℕ, suc, ◌<◌, ◌≤◌, Bool, true, ◌||◌, ◌==◌, length, take, Some, slice_get, slice_index_or, if◌then◌else◌}
use Rattle.farm_model.specs.Common.{some_below, greatest_below, Universe, variant, contains, satisfies_entry, initial, outputs}
use Rattle.farm_model.specs.declared.types.Variant.{Variant}
use Rattle.plan_model.specs.Common.{Plan, lane, instruction_at, lane_outputs, outputs_before, Rows, possible, is_of, row_before, KeepsRows, IsGreatest, IsSound}
use Rattle.plan_model.specs.declared.instructions.Instruction.{Instruction}
use Rattle.plan_model.specs.declared.instructions.Instruction.TheVariants.{Publish, Wait, When}

-- how many outputs of lane j are known to lane l at place i
abbrev pub Clocks : Type 0
Clocks = ℕ → ℕ → ℕ → ℕ

-- the initial archive and of each lane so many outputs
abbrev pub clock_rows : Universe → Plan → Clocks → Rows
clock_rows u p x l i v =
    initial u v
    || some_below (length p) (λ j. contains (take (x l i j) (lane_outputs u (lane p j))) v)

-- output n of lane j is in the archive whenever c is
pub record Leads (u : Universe) (p : Plan) (x : Clocks) (c : Variant) (j n : ℕ) : Type 0 where
  pub not_initial : initial u c ≡ true → ⊥
  pub before : (h k r m : ℕ) → h < length p → instruction_at p h k ≡ Some (Publish r)
      → slice_get (outputs u r) m ≡ Some c
      → n < (if h == j then outputs_before u (lane p j) k (suc m) else x h k j)

-- output n of lane j is there whenever any possible variant that passes is
abbrev pub LeadsAll : Universe → Plan → Clocks → ℕ → ℕ → ℕ → ℕ → (Variant → Bool) → Type 0
LeadsAll u p x l i j n passes =
    (c : Variant) → possible u p l i c ≡ true → passes c ≡ true → Leads u p x c j n

-- what an instruction may add to a clock: a publish its outputs; a wait, of other lanes, what leads
-- each possible variant that satisfies its entry; a `when` that holds, what leads each possible one
-- that it looks for
abbrev pub ClockAdds : Universe → Plan → Clocks → ℕ → ℕ → ℕ → ℕ → Instruction → Type 0
ClockAdds u p x l i j n (Publish r) = (j ≡ l) × (n < outputs_before u (lane p l) (suc i) 0)
ClockAdds u p x l i j n (Wait e) =
    ((j ≡ l) → ⊥) × LeadsAll u p x l i j n (satisfies_entry u e)
ClockAdds u p x l i j n (When name wanted) =
    ((j ≡ l) → ⊥) × LeadsAll u p x l i j n (is_of u name wanted)
ClockAdds u p x l i j n _ = ⊥

-- clocks that keep to the inclusions. Behind an `else` and an `end` they go on from the clocks
-- ahead of their `when`
pub record KeepsClocks (u : Universe) (p : Plan) (x : Clocks) : Type 0 where
  pub at_start : (l j : ℕ) → l < length p → x l 0 j ≡ 0
  pub own : (l i : ℕ) (y : Instruction) → l < length p → instruction_at p l i ≡ Some y
      → x l i l ≡ outputs_before u (lane p l) i 0
  pub after : (l i j n : ℕ) (y : Instruction) → l < length p → j < length p
      → instruction_at p l i ≡ Some y → n < x l (suc i) j
      → (n < x l (row_before p l i y) j) ⊎ ClockAdds u p x l i j n y

-- the rows of such clocks keep to them
abbrev pub ClocksKeepRows : Type 0
ClocksKeepRows =
    (u : Universe) (p : Plan) (x : Clocks) → KeepsClocks u p x → KeepsRows u p (clock_rows u p x)

-- each output is made once, and is not there from the start
pub record HasUniqueOutputs (u : Universe) (p : Plan) : Type 0 where
  pub once : (j h n m : ℕ) (v : Variant) → j < length p → h < length p
      → slice_get (lane_outputs u (lane p j)) n ≡ Some v
      → slice_get (lane_outputs u (lane p h)) m ≡ Some v
      → (j ≡ h) × (n ≡ m)
  pub fresh : (j n : ℕ) (v : Variant) → j < length p
      → slice_get (lane_outputs u (lane p j)) n ≡ Some v → initial u v ≡ true → ⊥

-- so it is in every sound plan
abbrev pub OutputsAreUnique : Type 0
OutputsAreUnique = (u : Universe) (p : Plan) → IsSound u p → HasUniqueOutputs u p

-- what a wait, or a `when` that holds, may tell of other lanes
abbrev pub Learns : Universe → Plan → Clocks → ℕ → ℕ → ℕ → ℕ → Instruction → Type 0
Learns u p x l i j n (Wait e) = LeadsAll u p x l i j n (satisfies_entry u e)
Learns u p x l i j n (When name wanted) = LeadsAll u p x l i j n (is_of u name wanted)
Learns u p x l i j n _ = ⊥

-- clocks that know no more than the inclusions give
pub record AreKnown (u : Universe) (p : Plan) (x : Clocks) : Type 0 where
  pub none : (l j : ℕ) → l < length p → j < length p → x l 0 j ≡ 0
  pub own : (l i : ℕ) → l < length p → i ≤ length (lane p l).instructions
      → x l i l ≤ outputs_before u (lane p l) i 0
  pub few : (l i j : ℕ) → x l i j ≤ length (lane_outputs u (lane p j))
  pub after : (l i j n : ℕ) (y : Instruction) → l < length p → j < length p → ((j ≡ l) → ⊥)
      → instruction_at p l i ≡ Some y → n < x l (suc i) j
      → (n < x l (row_before p l i y) j) ⊎ Learns u p x l i j n y

-- the clocks of any rows: past the last output of each lane that they have
abbrev pub clocks_of : Universe → Plan → Rows → Clocks
clocks_of u p rows l i j =
    greatest_below (length (lane_outputs u (lane p j)))
    (λ n. rows l i (slice_index_or (lane_outputs u (lane p j)) n (variant 0 0))) suc

-- rows that keep to the inclusions have clocks that do, and lie within the rows of those
abbrev pub RowsHaveClocks : Type 0
RowsHaveClocks =
    (u : Universe) (p : Plan) (rows : Rows) → HasUniqueOutputs u p → KeepsRows u p rows
    → AreKnown u p (clocks_of u p rows)
    × ((l i : ℕ) (v : Variant) → l < length p → i ≤ length (lane p l).instructions
    → rows l i v ≡ true → clock_rows u p (clocks_of u p rows) l i v ≡ true)

-- at the plan's places the first clocks know no more than the second
abbrev pub AreWithinClocks : Plan → Clocks → Clocks → Type 0
AreWithinClocks p y x =
    (l i j : ℕ) → l < length p → i ≤ length (lane p l).instructions → j < length p
    → y l i j ≤ x l i j

-- clocks that keep to the inclusions, and that know all that any such know, have the greatest rows
abbrev pub GreatestClocksAreGreatest : Type 0
GreatestClocksAreGreatest =
    (u : Universe) (p : Plan) (x : Clocks) → IsSound u p → KeepsClocks u p x
    → ((y : Clocks) → AreKnown u p y → AreWithinClocks p y x) → IsGreatest u p (clock_rows u p x)
