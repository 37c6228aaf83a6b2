-- Whether a plan is what was wanted. The project's own rules.
--
--   is_plain          an instruction that is no part of a branch, and unpacks one version
--   are_published     each build is published right behind it
--   LaneFollows       a lane is what was wanted of it
--   Follows           a plan is
use Rattle.std.specs.Prelude.{◌≡◌, ℕ, Bool, true, false, not, ◌&&◌, ◌||◌, ◌==◌, List, [], ◌∷◌, Option, Some, None, IfSome}
use Rattle.std.specs.List.{filter, list_all, AllZip}
use Rattle.deb_relation.specs.declared.operator.Op.TheVariants.{Equal}
use Rattle.farm_model.specs.Chroot.{member}
use Rattle.plan_model.specs.Common.{Lane, Plan, has_double}
use Rattle.plan_model.specs.declared.instructions.Instruction.{Instruction}
use Rattle.plan_model.specs.declared.instructions.Instruction.TheVariants.{Unpack, Build, Publish, When, Otherwise, EndWhen}
use Rattle.draft_plan.specs.Wished.{WantedLane, Wanted, pinned, wanted_recipes, builds, all_builds}

-- no part of a branch, and an unpack names one version
abbrev pub is_plain : Instruction → Bool
is_plain (Unpack name (Some (Equal, version))) = true
is_plain (Unpack name wanted) = false
is_plain (When name wanted) = false
is_plain Otherwise = false
is_plain EndWhen = false
is_plain x = true

-- each build is published right behind it, and nothing else is published; right before these a
-- recipe was built, or none
abbrev pub are_published : Option ℕ → List Instruction → Bool
are_published None [] = true
are_published (Some r) [] = false
are_published None (Build r ∷ xs) = are_published (Some r) xs
are_published None (Publish q ∷ xs) = false
are_published None (x ∷ xs) = are_published None xs
are_published (Some r) (Publish q ∷ xs) = (q == r) && are_published None xs
are_published (Some r) (x ∷ xs) = false

-- those of a list that are among others, and those that are not
abbrev pub among : (others rs : List ℕ) → List ℕ
among others rs = filter (λ r. member others r) rs

abbrev pub besides : (others rs : List ℕ) → List ℕ
besides others rs = filter (λ r. not (member others r)) rs

-- a lane is what was wanted of it, where lanes are named for some recipes and some are left out
pub record LaneFollows (named left : List ℕ) (w : WantedLane) (l : Lane) : Type 0 where
  -- it has the name, the base chroot and the budget,
  pub name : l.name ≡ w.name
  pub base : l.base ≡ w.base
  pub budget : IfSome w.budget (λ b. l.budget ≡ b)
  -- and builds, in order, what it is named for but for those left out;
  pub builds : among named (builds l.instructions) ≡ besides left w.builds
  -- each is published right behind its build;
  pub published : are_published None l.instructions ≡ true
  -- there is no branch, and each unpack is of one version.
  pub plain : list_all is_plain l.instructions ≡ true

-- a plan is what was wanted, some recipes being left out
pub record Follows (w : Wanted) (left : List ℕ) (p : Plan) : Type 0 where
  -- its lanes are those that are wanted, in order;
  pub lanes : AllZip (LaneFollows (pinned w.lanes) left) w.lanes p
  -- no recipe is built twice in them all;
  pub once : has_double (all_builds p) ≡ false
  -- what is built is wanted and not left out;
  pub wanted : list_all (λ r. member (wanted_recipes w) r && not (member left r)) (all_builds p)
      ≡ true
  -- what is wanted is built or left out.
  pub all : list_all (λ r. member (all_builds p) r || member left r) (wanted_recipes w) ≡ true
