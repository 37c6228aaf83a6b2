-- A lane makes nothing inside branches: at a place in them it has made what it had made ahead of
-- their `when`.
use Rattle.std.proofs.Common.{◌≡◌, ℕ, zero, suc, ◌<◌, ◌≤◌, true, List, [], ◌∷◌, ◌++◌, length, take, Option, Some, None, slice_get, refl, ap, ◌∙◌, arith}
use Rattle.std.proofs.lemmas.Bool.{false≢true}
use Rattle.std.proofs.lemmas.Grind.{flat_map-append}
use Rattle.std.proofs.lemmas.List.{append-nil}
use Rattle.farm_model.specs.Universe.{Universe}
use Rattle.plan_model.specs.Common.{Side, Outside, InFirst, InSecond, second_of, side_behind, side_behind_some, side_at, home, may_stand, IsBranched, outputs_of}
use Rattle.plan_model.specs.declared.instructions.Instruction.{Instruction}
use Rattle.plan_model.specs.declared.instructions.Instruction.TheVariants.{Publish, When, Otherwise, EndWhen}
use Rattle.farm_laws.proofs.Archive.{take_some}
use Rattle.verdict_laws.proofs.Made.{made}

module _ (u : Universe) (xs : List Instruction) (branched : IsBranched xs) where
  -- so many outputs are made
  abbrev pub made_at : ℕ → ℕ
  made_at k = length (made u (take k xs))

  -- an instruction that makes nothing
  pub made-same : (k : ℕ) (x : Instruction) → slice_get xs k ≡ Some x → outputs_of u x ≡ []
      → made_at (suc k) ≡ made_at k
  made-same k x e none =
      ap length (ap (made u) (take_some xs k x e)
      ∙ flat_map-append (outputs_of u) (take k xs) (x ∷ [])
      ∙ ap (λ vs. made u (take k xs) ++ (vs ++ [])) none
      ∙ append-nil (made u (take k xs)))

  -- in a branch as many as ahead of its `when`
  abbrev IsSame : Side → ℕ → Type 0
  IsSame Outside k = Unit {0}
  IsSame (InFirst w) k = made_at k ≡ made_at w
  IsSame (InSecond w) k = made_at k ≡ made_at w

  same-on : (s : Side) (k : ℕ) → made_at (suc k) ≡ made_at k → IsSame s k → IsSame s (suc k)
  same-on Outside k e same = tt
  same-on (InFirst w) k e same = e ∙ same
  same-on (InSecond w) k e same = e ∙ same

  same-second : (s : Side) (k : ℕ) → IsSame s k → IsSame (second_of s) k
  same-second Outside k same = tt
  same-second (InFirst w) k same = same
  same-second (InSecond w) k same = same

  same-publish : (s : Side) (k r : ℕ) → may_stand s (Publish r) ≡ true → IsSame s (suc k)
  same-publish Outside k r h = tt
  same-publish (InFirst w) k r h = absurd (false≢true h)
  same-publish (InSecond w) k r h = absurd (false≢true h)

  same-behind : (s : Side) (k : ℕ) (x : Instruction) → slice_get xs k ≡ Some x
      → may_stand s x ≡ true → IsSame s k → IsSame (side_behind k s x) (suc k)
  same-behind s k (Publish r) e h same = same-publish s k r h
  same-behind s k (When name wanted) e h same = made-same k (When name wanted) e refl
  same-behind s k Otherwise e h same =
      same-second s (suc k) (same-on s k (made-same k Otherwise e refl) same)
  same-behind s k EndWhen e h same = tt
  same-behind s k x e h same = same-on s k (made-same k x e refl) same

  same-none : (s : Side) (k : ℕ) → slice_get xs k ≡ None → k < length xs → IsSame s (suc k)
  same-none s k e lt = absurd (there xs k e lt)
    where
      there : (ys : List Instruction) (i : ℕ) → slice_get ys i ≡ None → i < length ys → ⊥
      there [] i e lt = omega (arith, lt)
      there (y ∷ ys) zero e lt = cc
      there (y ∷ ys) (suc i) e lt = there ys i e (omega (arith, lt))

  same-some : (k : ℕ) (o : Option Instruction) → slice_get xs k ≡ o → k < length xs
      → IsSame (side_at xs k) k → IsSame (side_behind_some k (side_at xs k) o) (suc k)
  same-some k None e lt same = same-none (side_at xs k) k e lt
  same-some k (Some x) e lt same =
      same-behind (side_at xs k) k x e (branched.stands k x e) same

  same-at : (k : ℕ) → k ≤ length xs → IsSame (side_at xs k) k
  same-at zero le = tt
  same-at (suc k) le =
      same-some k (slice_get xs k) refl (omega (arith, le)) (same-at k (omega (arith, le)))

  same-home : (s : Side) (k : ℕ) → IsSame s k → made_at k ≡ made_at (home s k)
  same-home Outside k same = refl
  same-home (InFirst w) k same = same
  same-home (InSecond w) k same = same

  -- the count of a place is that of the place whose row goes on behind an `else` and an `end`
  pub made-home : (k : ℕ) → k ≤ length xs → made_at k ≡ made_at (home (side_at xs k) k)
  made-home k le = same-home (side_at xs k) k (same-at k le)
