-- Families of known rows that keep to the inclusions. The project's own rules. Parameters: u a
-- universe, p a plan, l a lane, i a place.
--
--   IsWithin                                  one family has no more than another
--   KnownArePossible                          known rows are possible
--   UnionsKeep, UnionOfTwoKeeps               a union of keeping families keeps
--   GreatestIsOne                             the greatest family is one
--   InitialRowsAreGreatest                    what it is where nothing is learnt
use Rattle.std.specs.Prelude.{◌≡◌, ℕ, ◌<◌, ◌≤◌, true, false, ◌||◌, length, Some}
use Rattle.farm_model.specs.Universe.{Universe}
use Rattle.farm_model.specs.declared.types.Variant.{Variant}
use Rattle.plan_model.specs.Common.{Plan, lane, instruction_at, Rows, possible, teaches, KeepsRows, IsGreatest, initial_rows}
use Rattle.plan_model.specs.declared.instructions.Instruction.{Instruction}

-- at the plan's places the first family has no more than the second
abbrev pub IsWithin : Plan → Rows → Rows → Type 0
IsWithin p rows more =
    (l i : ℕ) (v : Variant) → l < length p → i ≤ length (lane p l).instructions → rows l i v ≡ true
    → more l i v ≡ true

-- rows that keep to the inclusions have only what may be in the archive
abbrev pub KnownArePossible : Type 0
KnownArePossible =
    (u : Universe) (p : Plan) (rows : Rows) → KeepsRows u p rows → IsWithin p rows (possible u p)

-- the family is a union of families that keep to the inclusions: each variant that it has at a
-- place of the plan, one of them has there
abbrev pub IsUnionOfFamilies : Universe → Plan → Rows → Type 0
IsUnionOfFamilies u p rows =
    (l i : ℕ) (v : Variant) → l < length p → i ≤ length (lane p l).instructions → rows l i v ≡ true
    → (part : Rows) × KeepsRows u p part × IsWithin p part rows × (part l i v ≡ true)

-- such a union keeps to them
abbrev pub UnionsKeep : Type 0
UnionsKeep = (u : Universe) (p : Plan) (rows : Rows) → IsUnionOfFamilies u p rows
    → KeepsRows u p rows

-- so does the union of two
abbrev pub UnionOfTwoKeeps : Type 0
UnionOfTwoKeeps =
    (u : Universe) (p : Plan) (rows more : Rows) → KeepsRows u p rows → KeepsRows u p more
    → KeepsRows u p (λ l i v. rows l i v || more l i v)

-- two families that are greatest have the same at the plan's places
abbrev pub GreatestIsOne : Type 0
GreatestIsOne =
    (u : Universe) (p : Plan) (rows more : Rows) → IsGreatest u p rows → IsGreatest u p more
    → (l i : ℕ) (v : Variant) → l < length p → i ≤ length (lane p l).instructions
    → rows l i v ≡ more l i v

-- no lane waits, publishes or takes a branch
abbrev pub HasNoNews : Plan → Type 0
HasNoNews p =
    (l i : ℕ) (x : Instruction) → l < length p → instruction_at p l i ≡ Some x
    → teaches x ≡ false

-- where none does, each knows just the initial archive at each place
abbrev pub InitialRowsAreGreatest : Type 0
InitialRowsAreGreatest =
    (u : Universe) (p : Plan) → HasNoNews p → IsGreatest u p (initial_rows u)
