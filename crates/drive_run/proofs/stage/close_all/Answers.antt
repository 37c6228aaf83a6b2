use Rattle.std.proofs.Common.{◌≡◌, refl, ℕ, zero, suc, List, [], ◌∷◌, get_or}
use Rattle.std.proofs.lemmas.List.Edits.{map_over_more}
use Rattle.drive_run.specs.declared.stage.Stage.{Stage}
use Rattle.drive_run.specs.declared.stage.Stage.TheVariants.{Closed}
use Rattle.drive_run.proofs.stage.close_all.Goals as goal

read_again : (stages : List Stage) (k : ℕ) (d : Stage)
    → get_or stages k d ≡ get_or stages k (get_or stages k d)
read_again [] k d = refl
read_again (x ∷ stages) zero d = refl
read_again (x ∷ stages) (suc k) d = read_again stages k d

pub loop-stage-preserved : goal.loop-stage-preserved
loop-stage-preserved c =
    let stages = c.loop-stage.lanes in
    let k = c.loop-stage.stage-index in
    map_over_more (λ (stage : Stage). Closed) c.args.lanes.now stages k (get_or stages k Closed)
    c.loop-stage-test.true c.loop-stage.invariant (read_again stages k Closed)
