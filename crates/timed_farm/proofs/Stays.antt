-- A lane that rests on behind a variant.
use Rattle.std.proofs.Common.{◌≡◌, ℕ, Option, Some, None, refl, ap, subst}
use Rattle.std.specs.Prelude.{◌||◌}
use Rattle.farm_model.specs.Common.{Universe, same}
use Rattle.farm_model.specs.declared.types.Variant.{Variant}
use Rattle.plan_model.specs.Common.{Plan, lane, instruction_at, State, lane_state, turn_of}
use Rattle.plan_model.specs.declared.instructions.Instruction.{Instruction}
use Rattle.plan_model.specs.declared.instructions.Instruction.TheVariants.{Unpack, Configure, Deconfigure, Remove, Build, Publish, Wait, When, Otherwise, EndWhen}
use Rattle.timed_run.specs.Clocks.{StaysOver}
use Rattle.timed_run.specs.Timed.{rests}
use Rattle.timed_run.proofs.Rests.{stays-wait}
use Rattle.timed_farm.specs.Rests.{RestsBehind}

pub stays : (u : Universe) (p : Plan) (s : State) (l : ℕ) (v : Variant) (x : Option Instruction)
    → instruction_at p l (lane_state s l).done ≡ x → RestsBehind u x v → StaysOver u p s l v
stays u p s l v None is rest = λ there r.
    ap (λ x. rests (turn_of u (λ w. there w || same v w) (lane p l) (lane_state s l) x)) is
stays u p s l v (Some (Wait e)) is unmet = stays-wait u p s l v e is unmet
stays u p s l v (Some (Unpack name wanted)) is rest = absurd rest
stays u p s l v (Some (Configure members)) is rest = absurd rest
stays u p s l v (Some (Deconfigure members)) is rest = absurd rest
stays u p s l v (Some (Remove members)) is rest = absurd rest
stays u p s l v (Some (Build r)) is rest = absurd rest
stays u p s l v (Some (Publish r)) is rest = absurd rest
stays u p s l v (Some (When name wanted)) is rest = absurd rest
stays u p s l v (Some Otherwise) is rest = absurd rest
stays u p s l v (Some EndWhen) is rest = absurd rest

pub stays-at : (u known : Universe) (p read : Plan) (s : State) (l place : ℕ) (v : Variant)
    → known ≡ u → read ≡ p → place ≡ (lane_state s l).done
    → RestsBehind known (instruction_at read l place) v → StaysOver u p s l v
stays-at u known p read s l place v of_u of_p at rest =
    stays u p s l v (instruction_at p l (lane_state s l).done) refl
    (subst (λ i. RestsBehind u (instruction_at p l i) v) at
    (subst (λ q. RestsBehind u (instruction_at q l place) v) of_p
    (subst (λ k. RestsBehind k (instruction_at read l place) v) of_u rest)))
