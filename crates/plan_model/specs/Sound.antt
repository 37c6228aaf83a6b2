-- What the readers make sure of in every plan (the project's own rules).
--
--   IsPlan, IsSound        what every plan keeps; what every universe and plan keep
use Rattle.std.specs.Prelude.{◌≡◌, ℕ, ◌<◌, Bool, false, ◌||◌, List, [], ◌∷◌, length, Some, All}
use Rattle.farm_model.specs.Common.{Universe, names, member, IsUniverse}
use Rattle.plan_model.specs.declared.instructions.Instruction.{Instruction}
use Rattle.plan_model.specs.declared.instructions.Instruction.TheVariants.{Unpack, Configure, Deconfigure, Remove, Build, Publish, When}
use Rattle.plan_model.specs.Branches.{IsBranched}
use Rattle.plan_model.specs.Plan.{Plan, lane, instruction_at}

-- some number stands twice
abbrev pub has_double : List ℕ → Bool
has_double [] = false
has_double (x ∷ xs) = member xs x || has_double xs

-- a set of known names, none twice
pub record IsNameSet (u : Universe) (members : List ℕ) : Type 0 where
  pub known : All (λ n. n < names u) members
  pub distinct : has_double members ≡ false

-- an instruction speaks of known names and recipes
abbrev pub IsInstruction : Universe → Instruction → Type 0
IsInstruction u (Unpack name wanted) = name < names u
IsInstruction u (Configure members) = IsNameSet u members
IsInstruction u (Deconfigure members) = IsNameSet u members
IsInstruction u (Remove members) = IsNameSet u members
IsInstruction u (Build r) = r < length u.recipes
IsInstruction u (Publish r) = r < length u.recipes
IsInstruction u (When name wanted) = name < names u
IsInstruction u _ = Unit {0}

-- what every plan keeps
pub record IsPlan (u : Universe) (p : Plan) : Type 0 where
  -- a lane has a base chroot;
  pub bases : (l : ℕ) → l < length p → (lane p l).base < length u.bases
  -- instructions speak of what there is;
  pub instructions : (l i : ℕ) (x : Instruction) → l < length p → instruction_at p l i ≡ Some x
      → IsInstruction u x
  -- branches are whole;
  pub branched : (l : ℕ) → l < length p → IsBranched (lane p l).instructions
  -- a recipe is published at one place at most.
  pub published_once : (l k i j r : ℕ) → l < length p → k < length p
      → instruction_at p l i ≡ Some (Publish r) → instruction_at p k j ≡ Some (Publish r)
      → (l ≡ k) × (i ≡ j)

-- what the readers make sure of
pub record IsSound (u : Universe) (p : Plan) : Type 0 where
  pub universe : IsUniverse u
  pub plan : IsPlan u p
