use Rattle.std.proofs.Common.{◌≡◌, ◌∙◌, ap, refl, ℕ, zero, suc, List, [], ◌∷◌, set, get_or}
use Rattle.std.proofs.lemmas.List.Edits.{map_over_more}
use Rattle.drive_run.specs.declared.desk.LaneDesk.{LaneDesk}
use Rattle.drive_run.specs.LaneDesks.{closed, idle}
use Rattle.drive_run.proofs.desk.close_all.Goals as goal

read_again : (ds : List LaneDesk) (k : ℕ) (d : LaneDesk)
    → get_or ds k d ≡ get_or ds k (get_or ds k d)
read_again [] k d = refl
read_again (e ∷ ds) zero d = refl
read_again (e ∷ ds) (suc k) d = read_again ds k d

pub loop-desk-preserved : goal.loop-desk-preserved
loop-desk-preserved c =
    let desks = c.loop-desk.desks in
    let k = c.loop-desk.desk-index in
    ap (set desks k) c.close.ensures
    ∙ map_over_more closed c.args.desks.now desks k (get_or desks k (idle 0))
    c.loop-desk-test.true c.loop-desk.invariant (read_again desks k (idle 0))
