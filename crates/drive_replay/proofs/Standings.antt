-- One more of the instructions that a lane goes past, and of the lanes that do.
use Rattle.std.proofs.Common.{◌≡◌, refl, arith, ℕ, suc, ◌+◌, ◌-◌, ◌<◌, if◌then◌else◌}
use Rattle.std.specs.Option.{option_map, unwrap_or}
use Rattle.drive_replay.specs.Follow.{Life}
use Rattle.drive_replay.specs.Onward.{here, moved}
use Rattle.drive_replay.specs.Standings.{is_quiet, lane_rested, passed, rested_from}
use Rattle.farm_core.specs.Farm.{Farm}

pub passed_next : (most k : ℕ) (f : Farm) (l : ℕ) → k < most
    → passed (most - k) f l
    ≡ (if is_quiet (here f l)
    then unwrap_or (option_map (λ g. passed (most - (k + 1)) g l) (moved f l)) f else f)
passed_next most k f l lt =
    let e : most - k ≡ suc (most - (k + 1)) = omega arith in rw e refl

pub rested_next : (lanes k : ℕ) (x : Life) → k < lanes
    → rested_from (lanes - k) k x ≡ rested_from (lanes - (k + 1)) (k + 1) (lane_rested x k)
rested_next lanes k x lt =
    let e : lanes - k ≡ suc (lanes - (k + 1)) = omega arith in
    let n : k + 1 ≡ suc k = omega arith in rw (e, n) refl
