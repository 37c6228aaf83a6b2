-- The greatest known rows, by computation: of all that may be in the archive, what the inclusions
-- do not allow is taken away until nothing changes. The project's own rules. Parameters: u a
-- universe, p a plan, l a lane, i a place, c and v variants, x an instruction.
--
--   is_fact, follows, adds, allowed the inclusions as tests
--   is_settled, without_excess      nothing is left to take away; one round of taking away
--   greatest_rows                   the rows after all rounds
--   SettledRowsKeep                 rows that pass the test keep to the inclusions
use Rattle.std.specs.Prelude.{◌≡◌, ℕ, zero, suc, Bool, true, false, not, ◌&&◌, ◌||◌, length, take, Option, Some, None, slice_get, if◌then◌else◌}
use Rattle.farm_model.specs.Common.{every_below, sum_below, Universe, variant, names, variants, same, contains, satisfies_entry, initial, outputs, IsKnown}
use Rattle.farm_model.specs.declared.types.Variant.{Variant}
use Rattle.plan_model.specs.Common.{Plan, lane, instruction_at, outputs_of, Rows, possible, is_of, row_before, KeepsRows, IsGreatest, IsSound}
use Rattle.plan_model.specs.declared.instructions.Instruction.{Instruction}
use Rattle.plan_model.specs.declared.instructions.Instruction.TheVariants.{Publish, Wait, When}

-- each variant of the universe passes
abbrev pub every_variant : Universe → (Variant → Bool) → Bool
every_variant u test =
    every_below (names u) (λ n. every_below (variants u n) (λ b. test (variant n b)))

abbrev pub is_that : Option Variant → Variant → Bool
is_that None c = false
is_that (Some w) c = same w c

-- where c is an output of the instruction, v is known ahead of it or among its outputs up to c
abbrev pub follows_at : Universe → Bool → Variant → Variant → Option Instruction → Bool
follows_at u ahead c v None = true
follows_at u ahead c v (Some x) =
    every_below (length (outputs_of u x))
    (λ m. not (is_that (slice_get (outputs_of u x) m) c) ||
    (ahead || contains (take (suc m) (outputs_of u x)) v))

-- v is in the archive whenever c is
unfoldable pub is_fact : Universe → Plan → Rows → Variant → Variant → Bool
is_fact u p rows c v =
    (not (initial u c) || initial u v) && every_below (length p)
    (λ j. every_below (length (lane p j).instructions)
    (λ k. follows_at u (rows j k v) c v (instruction_at p j k)))

-- v is a fact of each possible variant that passes
abbrev pub follows : Universe → Plan → Rows → ℕ → ℕ → Variant → (Variant → Bool) → Bool
follows u p rows l i v passes =
    possible u p l i v && every_variant u
    (λ c. not (possible u p l i c && passes c) || is_fact u p rows c v)

-- the instruction may add the variant to the row
abbrev pub adds : Universe → Plan → Rows → ℕ → ℕ → Variant → Instruction → Bool
adds u p rows l i v (Publish r) = contains (outputs u r) v
adds u p rows l i v (Wait e) = follows u p rows l i v (satisfies_entry u e)
adds u p rows l i v (When name wanted) = follows u p rows l i v (is_of u name wanted)
adds u p rows l i v _ = false

abbrev pub adds_some : Universe → Plan → Rows → ℕ → ℕ → Variant → Option Instruction → Bool
adds_some u p rows l i v None = false
adds_some u p rows l i v (Some x) = adds u p rows l i v x

-- the place whose row goes on behind the instruction there, if there is one
abbrev pub row_before_some : Plan → ℕ → ℕ → Option Instruction → ℕ
row_before_some p l i None = i
row_before_some p l i (Some x) = row_before p l i x

-- the inclusions allow the variant in the row
abbrev pub allowed : Universe → Plan → Rows → ℕ → ℕ → Variant → Bool
allowed u p rows l zero v = initial u v
allowed u p rows l (suc i) v =
    rows l (row_before_some p l i (instruction_at p l i)) v
    || adds_some u p rows l i v (instruction_at p l i)

-- each row has only what is allowed
unfoldable pub is_settled : Universe → Plan → Rows → Bool
is_settled u p rows =
    every_below (length p) (λ l. every_below (suc (length (lane p l).instructions))
    (λ i. every_variant u (λ v. not (rows l i v) || allowed u p rows l i v)))

-- what is not allowed is taken away
abbrev pub without_excess : Universe → Plan → Rows → Rows
without_excess u p rows l i v = rows l i v && allowed u p rows l i v

abbrev pub one_if : Bool → ℕ
one_if b = if b then 1 else 0

-- how many variants the rows have at the plan's places
unfoldable pub rows_size : Universe → Plan → Rows → ℕ
rows_size u p rows =
    sum_below (length p) (λ l. sum_below (suc (length (lane p l).instructions))
    (λ i. sum_below (names u) (λ n. sum_below (variants u n)
    (λ b. one_if (rows l i (variant n b))))))

-- at most so many rounds of taking away
abbrev pub settled_after : Universe → Plan → ℕ → Rows → Rows
settled_after u p zero rows = rows
settled_after u p (suc n) rows =
    if is_settled u p rows then rows else settled_after u p n (without_excess u p rows)

-- taken from all that may be in the archive; each round takes something away, so no more rounds
-- than variants are needed
unfoldable pub greatest_rows : Universe → Plan → Rows
greatest_rows u p = settled_after u p (rows_size u p (possible u p)) (possible u p)

-- rows of variants of the universe alone
abbrev pub AreKnown : Universe → Rows → Type 0
AreKnown u rows = (l i : ℕ) (v : Variant) → rows l i v ≡ true → IsKnown u v

-- such rows keep to the inclusions where nothing is left to take away
abbrev pub SettledRowsKeep : Type 0
SettledRowsKeep =
    (u : Universe) (p : Plan) (rows : Rows) → IsSound u p → AreKnown u rows
    → is_settled u p rows ≡ true → KeepsRows u p rows

-- there is a greatest family
abbrev pub GreatestRowsAreGreatest : Type 0
GreatestRowsAreGreatest =
    (u : Universe) (p : Plan) → IsSound u p → IsGreatest u p (greatest_rows u p)
