-- The outputs of a list of instructions, in their places.
use Rattle.std.proofs.Common.{◌≡◌, ℕ, zero, suc, ◌+◌, ◌≤◌, true, List, [], ◌∷◌, ◌++◌, length, take, Some, slice_get, length-append, refl, ap, ◌∙◌, arith}
use Rattle.std.specs.List.{flat_map}
use Rattle.std.proofs.lemmas.Bool.{false≢true}
use Rattle.farm_model.specs.Universe.{Universe}
use Rattle.farm_model.specs.declared.types.Variant.{Variant}
use Rattle.plan_model.specs.Common.{IsBranched, Lane, outputs_of}
use Rattle.plan_model.specs.declared.instructions.Instruction.{Instruction}
use Rattle.plan_model.specs.declared.instructions.Instruction.TheVariants.{Publish}
use Rattle.farm_laws.proofs.Places.{LeadsTo}
use Rattle.farm_laws.proofs.Branches.{is_local, arrives}

module _ (u : Universe) where
  -- the outputs of the first so many instructions
  abbrev pub before : List Instruction → ℕ → ℕ
  before is k = length (flat_map (outputs_of u) (take k is))

  pub before_next : (is : List Instruction) (k : ℕ) (x : Instruction) → slice_get is k ≡ Some x
      → before is (suc k) ≡ before is k + length (outputs_of u x)
  before_next [] k x e = absurd (cc)
  before_next (y ∷ ys) zero x e =
      let s : y ≡ x = cc in
      let l = length-append (outputs_of u y) (flat_map (outputs_of u) (take 0 ys)) in
      let t : length (outputs_of u y) ≡ length (outputs_of u x) = ap (λ z. length (outputs_of u z))
      s in
      omega (arith, l, t)
  before_next (y ∷ ys) (suc k) x e =
      let l = length-append (outputs_of u y) (flat_map (outputs_of u) (take (suc k) ys)) in
      let m = length-append (outputs_of u y) (flat_map (outputs_of u) (take k ys)) in
      omega (arith, l, m, before_next ys k x e)

  -- a branch has no outputs
  local_none : (x : Instruction) → is_local x ≡ true → length (outputs_of u x) ≡ 0
  local_none (Publish r) h = absurd (false≢true h)
  local_none _ h = refl

  -- so there are as many where an instruction leads to as behind it
  pub before_arrives : (of : Lane) → IsBranched of.instructions → (k : ℕ) (x : Instruction)
      (next : ℕ) → slice_get of.instructions k ≡ Some x → LeadsTo of k x next
      → before of.instructions next ≡ before of.instructions (suc k)
  before_arrives of branched k x next e place =
      let is = of.instructions in
      arrives of branched (λ j. before is j ≡ before is (suc k))
      (λ j y at local same. omega (arith, before_next is j y at, local_none y local, same))
      k x next e refl place

  pub before_more : (is : List Instruction) (k m : ℕ) → before is k ≤ before is (k + m)
  before_more [] zero zero = omega arith
  before_more [] zero (suc m) = omega arith
  before_more [] (suc k) m = omega arith
  before_more (y ∷ ys) zero m = omega arith
  before_more (y ∷ ys) (suc k) m =
      let e : suc k + m ≡ suc (k + m) = omega arith in
      let l = length-append (outputs_of u y) (flat_map (outputs_of u) (take k ys)) in
      let n = length-append (outputs_of u y) (flat_map (outputs_of u) (take (k + m) ys)) in
      let f : before (y ∷ ys) (suc k + m) ≡ before (y ∷ ys) (suc (k + m)) = ap (before (y ∷ ys))
      e in
      omega (arith, f, l, n, before_more ys k m)

  get_front : (xs ys : List Variant) (i : ℕ) (v : Variant) → slice_get xs i ≡ Some v
      → slice_get (xs ++ ys) i ≡ Some v
  get_front [] ys i v e = absurd (cc)
  get_front (x ∷ xs) ys zero v e = e
  get_front (x ∷ xs) ys (suc i) v e = get_front xs ys i v e

  get_behind : (xs ys : List Variant) (i : ℕ) → slice_get (xs ++ ys) (length xs + i)
      ≡ slice_get ys i
  get_behind [] ys i = let e : 0 + i ≡ i = omega arith in ap (slice_get ys) e
  get_behind (x ∷ xs) ys i =
      let e : suc (length xs) + i ≡ suc (length xs + i) = omega arith in
      ap (slice_get (x ∷ xs ++ ys)) e ∙ get_behind xs ys i

  -- the outputs of all lanes, place by place
  pub output_there : (is : List Instruction) (k made : ℕ) (x : Instruction) (v : Variant)
      → slice_get is k ≡ Some x → slice_get (outputs_of u x) made ≡ Some v
      → slice_get (flat_map (outputs_of u) is) (before is k + made) ≡ Some v
  output_there [] k made x v e at = absurd (cc)
  output_there (y ∷ ys) zero made x v e at =
      let s : y ≡ x = cc in
      let z : before (y ∷ ys) 0 + made ≡ made = omega arith in
      ap (slice_get (flat_map (outputs_of u) (y ∷ ys))) z
      ∙ get_front (outputs_of u y) (flat_map (outputs_of u) ys) made v
      (ap (λ z. slice_get (outputs_of u z) made) s ∙ at)
  output_there (y ∷ ys) (suc k) made x v e at =
      let l = length-append (outputs_of u y) (flat_map (outputs_of u) (take k ys)) in
      let z : before (y ∷ ys) (suc k) + made ≡ length (outputs_of u y) + (before ys k + made) =
      omega (arith, l) in
      ap (slice_get (flat_map (outputs_of u) (y ∷ ys))) z
      ∙ (get_behind (outputs_of u y) (flat_map (outputs_of u) ys) (before ys k + made)
      ∙ output_there ys k made x v e at)
