-- One turn of the many that are left.
use Rattle.std.proofs.Common.{◌≡◌, refl, arith, ℕ, suc, ◌+◌, ◌-◌, ◌<◌, ◌==◌, Some, if◌then◌else◌}
use Rattle.std.specs.Option.{option_and_then}
use Rattle.farm_core.specs.Farm.{Farm}
use Rattle.drive_replay.specs.Onward.{done_in, led, moved, turned, waited}

pub turned_next : (count k : ℕ) (f : Farm) (l : ℕ) → k < count
    → turned (count - k) f l ≡ option_and_then (λ g. turned (count - (k + 1)) g l) (moved f l)
turned_next count k f l lt =
    let e : count - k ≡ suc (count - (k + 1)) = omega arith in rw e refl

pub led_next : (count k : ℕ) (f : Farm) (l place : ℕ) → k < count
    → led (count - k) f l place
    ≡ (if done_in f l == place then Some f
    else option_and_then (λ g. led (count - (k + 1)) g l place) (waited f l))
led_next count k f l place lt =
    let e : count - k ≡ suc (count - (k + 1)) = omega arith in rw e refl
