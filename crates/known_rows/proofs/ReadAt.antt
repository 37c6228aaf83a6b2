-- What is read of a lane's instructions.
use Rattle.std.proofs.Common.{◌≡◌, ℕ, ◌<◌, List, length, get_or, Some, slice_get, refl, sym, ap, ◌∙◌}
use Rattle.std.proofs.lemmas.Option.{slice_get_read}
use Rattle.plan_model.specs.Plan.{Plan, lane, instruction_at}
use Rattle.plan_model.specs.declared.instructions.Instruction.{Instruction}

-- the instruction that was read stands at the place
pub read_at : (p : Plan) (l : ℕ) (xs : List Instruction) (i : ℕ) (x : Instruction)
    → xs ≡ (lane p l).instructions → i < length xs → x ≡ get_or xs i x
    → instruction_at p l i ≡ Some x
read_at p l xs i x is lt at =
    ap (λ ys. slice_get ys i) (sym is) ∙ slice_get_read xs (length xs) i x refl lt at
