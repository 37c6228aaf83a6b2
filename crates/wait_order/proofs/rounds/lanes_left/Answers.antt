use Rattle.std.proofs.Common.{ℕ, Bool, ◌++◌, ◌∷◌, [], nat_lt, cond, length, sym, ap, ◌∙◌}
use Rattle.plan_model.specs.Plan.{lane}
use Rattle.wait_order.specs.Standing.{place_of}
use Rattle.wait_order.proofs.Ends.{filter_next}
use Rattle.wait_order.proofs.rounds.lanes_left.Goals as goal

pub loop-number-preserved : goal.loop-number-preserved
loop-number-preserved c =
    let f : ℕ → Bool =
    λ n. nat_lt (place_of c.args.ats.now n) (length (lane c.args.plan.now.lanes n).instructions) in
    c.in_ok-add_left.ensures
    ∙ ap (λ xs. xs ++ cond (f c.loop-number.number) (c.loop-number.number ∷ []) [])
    c.loop-number.invariant ∙ sym (filter_next f c.loop-number.number)
