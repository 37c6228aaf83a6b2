-- What is still to be tried becomes less.
use Rattle.std.proofs.Common.{◌≡◌, ℕ, zero, suc, ◌+◌, ◌-◌, ◌*◌, ◌<◌, ◌≤◌, Bool, true, false, inl, inr, List, [], ◌∷◌, length, Some, slice_get, slice_set, sym, ap, ◌∙◌, arith, length-set}
use Rattle.std.specs.Prelude.{if◌then◌else◌}
use Rattle.std.proofs.lemmas.Bool.{cases_Bool}
use Rattle.std.proofs.lemmas.Option.{none-some, same_Some}
use Rattle.timed_run.specs.declared.clock.Clock.{Clock}
use Rattle.timed_run.specs.declared.event.Event.{Event}
use Rattle.timed_run.specs.Clocks.{awake_of, work_left}

abbrev num : Bool → ℕ
num b = if b then 1 else 0

one-most : (b : Bool) → (if b then 1 else 0) ≤ 1
one-most true = omega arith
one-most false = omega arith

-- no more lanes are awake than there are
pub awake-most : (cs : List Clock) → awake_of cs ≤ length cs
awake-most [] = omega arith
awake-most (c ∷ cs) =
    let one = one-most c.awake in let rest = awake-most cs in omega (arith, one, rest)

-- a lane that falls asleep is one less
pub awake-less : (cs : List Clock) (l : ℕ) (c new : Clock) → slice_get cs l ≡ Some c
    → c.awake ≡ true → new.awake ≡ false → awake_of (slice_set cs l new) + 1 ≡ awake_of cs
awake-less [] l c new is up down = absurd (none-some c is)
awake-less (d ∷ cs) zero c new is up down =
    let one : ◌≡◌ {A = ℕ} (if d.awake then 1 else 0) 1 =
    ap (λ (x : Clock). num x.awake) (same_Some d c is)
    ∙ ap num up in
    let none : ◌≡◌ {A = ℕ} (if new.awake then 1 else 0) 0 = ap num down in
    omega (arith, one, none)
awake-less (d ∷ cs) (suc l) c new is up down =
    let rest = awake-less cs l c new is up down in omega (arith, rest)

-- where nothing is left no lane is awake
none-awake : (cs : List Clock) → awake_of cs ≡ 0 → (l : ℕ) (c : Clock) → slice_get cs l ≡ Some c
    → c.awake ≡ false
none-awake [] none l c is = absurd (none-some c is)
none-awake (d ∷ cs) none zero c is = elim (cases_Bool d.awake) [
  | inl up ↦
      let one : ◌≡◌ {A = ℕ} (if d.awake then 1 else 0) 1 = ap num up in
      absurd (omega (arith, one, none))
  | inr down ↦ ap (λ (x : Clock). x.awake) (sym (same_Some d c is)) ∙ down
]
none-awake (d ∷ cs) none (suc l) c is = none-awake cs (omega (arith, none)) l c is

-- an event more
pub work-less : (count : ℕ) (events more : List Event) (clocks new : List Clock)
    → length more ≡ length events + 1 → length more ≤ count → length new ≡ length clocks
    → work_left count more new < work_left count events clocks
work-less count events more clocks new longer within same =
    let most = awake-most new in
    let n = count - length more in
    let step : count - length events ≡ suc n = omega (arith, longer, within) in
    let times : suc n * suc (length clocks) ≡ n * suc (length clocks) + suc (length clocks) =
    omega arith in
    rw (step, same) (omega (arith, most, same, times))

-- a lane that falls asleep
pub work-rests : (count : ℕ) (events : List Event) (clocks : List Clock) (l : ℕ) (c new : Clock)
    → slice_get clocks l ≡ Some c → c.awake ≡ true → new.awake ≡ false
    → work_left count events (slice_set clocks l new) < work_left count events clocks
work-rests count events clocks l c new is up down =
    let less = awake-less clocks l c new is up down in
    rw (length-set clocks l new) (omega (arith, less))
