-- The archive at a moment, and what a lane does over it.
use Rattle.std.proofs.Common.{◌≡◌, ℕ, suc, ◌+◌, ◌*◌, ◌<◌, ◌≤◌, Bool, true, false, ◌⊎◌, inl, inr, List, [], ◌∷◌, ◌++◌, Option, Some, None, refl, sym, ap, ◌∙◌, arith}
use Rattle.std.specs.Prelude.{◌||◌, ◌&&◌, nat_le, All}
use Rattle.std.specs.List.{list_any}
use Rattle.std.proofs.lemmas.Bool.{cases_Bool, false≢true, or_cases, or_left, or_right, and_parts, le-leb, lt-leb}
use Rattle.std.proofs.lemmas.List.Folds.{list_any-append}
use Rattle.std.proofs.Math.Bool.{or_assoc, or-false}
use Rattle.farm_model.specs.Universe.{Universe}
use Rattle.farm_model.specs.declared.types.Variant.{Variant}
use Rattle.plan_model.specs.Common.{Lane, LaneState, Turn, Goes, Gives, Waits, Ends, Fails, turn_of, passes, archive}
use Rattle.plan_model.specs.declared.instructions.Instruction.{Instruction}
use Rattle.plan_model.specs.declared.instructions.Instruction.TheVariants.{Unpack, Configure, Deconfigure, Remove, Build, Publish, Wait, When, Otherwise, EndWhen}
use Rattle.farm_laws.proofs.Boards.{passes-mono}
use Rattle.farm_laws.proofs.Progress.{NotStuck, turn_ready}
use Rattle.timed_run.specs.Beginning.{Beginning}
use Rattle.timed_run.specs.declared.event.Event.{Event}
use Rattle.timed_run.specs.Timed.{is_given, archive_at, rests}
use Rattle.timed_run.specs.Clocks.{IsPast, archive_behind}

-- what an event has given by a moment
abbrev given_by : ℕ → Variant → Event → Bool
given_by m v e = nat_le e.end m && is_given e.output v

-- an event that gives nothing, or that ends later, changes nothing
none_by : (m : ℕ) (v : Variant) (x : Event) → (x.output ≡ None) ⊎ (m < x.end)
    → given_by m v x ≡ false
none_by m v x (inl none) = rw none (and_nothing (nat_le x.end m))
  where
    and_nothing : (b : Bool) → (b && false) ≡ false
    and_nothing true = refl
    and_nothing false = refl
none_by m v x (inr later) = rw (lt-leb x.end m later) refl

pub archive_at-more : (u : Universe) (b : Beginning) (events : List Event) (x : Event) (m : ℕ)
    → (x.output ≡ None) ⊎ (m < x.end) → archive_at u b (events ++ x ∷ []) m ≡ archive_at u b events m
unfolding archive_at
archive_at-more u b events x m none = λ i v. more v i
  where
    more : (v : Variant) → archive_at u b (events ++ x ∷ []) m v ≡ archive_at u b events m v
    more v = ap (λ y. archive u b.state.published v || y)
        (list_any-append (given_by m v) events (x ∷ [])
        ∙ (ap (λ y. list_any (given_by m v) events || (y || false)) (none_by m v x none)
        ∙ or-false (list_any (given_by m v) events)))

-- nothing is there at a moment that is not there behind all events
given-later : (m : ℕ) (v : Variant) (events : List Event)
    → list_any (given_by m v) events ≡ true
    → list_any (λ (e : Event). is_given e.output v) events ≡ true
given-later m v [] h = h
given-later m v (e ∷ es) h =
    elim (or_cases (given_by m v e) _ h) [
      | inl here ↦ or_left (is_given e.output v) _
          (and_parts (nat_le e.end m) (is_given e.output v) here).1
      | inr there ↦ or_right (is_given e.output v) _ (given-later m v es there)
    ]

pub at-behind : (u : Universe) (b : Beginning) (events : List Event) (m : ℕ) (v : Variant)
    → archive_at u b events m v ≡ true → archive_behind u b events v ≡ true
unfolding archive_at archive_behind
at-behind u b events m v h =
    elim (or_cases (archive u b.state.published v) _ h) [
      | inl first ↦ or_left (archive u b.state.published v) _ first
      | inr made ↦ or_right (archive u b.state.published v) _ (given-later m v events made)
    ]

-- at a moment that is not before that of any event, all outputs are there
given_now : (now last m : ℕ) (v : Variant) (e : Event) → IsPast now last e → now ≤ 2 * m + 1
    → given_by m v e ≡ is_given e.output v
given_now now last m v e past late = by e.output refl
  where
    by : (o : Option Variant) → e.output ≡ o → (nat_le e.end m && is_given o v) ≡ is_given o v
    by None is = elim (cases_Bool (nat_le e.end m)) [
      | inl ended ↦ rw ended refl
      | inr not_yet ↦ rw not_yet refl
    ]
    by (Some w) is = let ended = past.1 w is in
        rw (le-leb e.end m (omega (arith, ended, late))) refl

any_now : (now last m : ℕ) (v : Variant) (events : List Event)
    → All (IsPast now last) events → now ≤ 2 * m + 1
    → list_any (given_by m v) events ≡ list_any (λ (e : Event). is_given e.output v) events
any_now now last m v [] past late = refl
any_now now last m v (e ∷ es) past late =
    ap (λ b. b || list_any (given_by m v) es)
    (given_now now last m v e (past 0 e (omega arith)) late)
    ∙ ap (λ b. is_given e.output v || b)
    (any_now now last m v es (λ k d lt. past (suc k) d (omega (arith, lt))) late)

pub at-now : (u : Universe) (b : Beginning) (now last m : ℕ) (events : List Event) → All (IsPast now last) events
    → now ≤ 2 * m + 1 → archive_at u b events m ≡ archive_behind u b events
unfolding archive_at archive_behind
at-now u b now last m events past late = λ i v.
    ap (λ y. archive u b.state.published v || y) (any_now now last m v events past late) i

-- an event more
pub behind-more : (u : Universe) (b : Beginning) (events : List Event) (x : Event) (v : Variant)
    → archive_behind u b (events ++ x ∷ []) v ≡ (archive_behind u b events v || is_given x.output v)
unfolding archive_behind
behind-more u b events x v =
    ap (λ y. archive u b.state.published v || y)
    (list_any-append (λ (e : Event). is_given e.output v) events (x ∷ [])
    ∙ ap (λ y. list_any (λ (e : Event). is_given e.output v) events || y)
    (or-false (is_given x.output v)))
    ∙ sym (or_assoc (archive u b.state.published v) (list_any (λ (e : Event). is_given e.output v) events)
    (is_given x.output v))

-- a lane that rests, rests over less too
pub not_stuck : (turn : Turn) → NotStuck turn → rests turn ≡ true → ⊥
not_stuck (Goes next) h e = false≢true e
not_stuck (Gives next v) h e = false≢true e
not_stuck Waits h e = h
not_stuck Ends h e = h
not_stuck (Fails t) h e = false≢true e

pub rests-less : (u : Universe) (there less : Variant → Bool) (of : Lane) (st : LaneState)
    (x : Option Instruction) → ((v : Variant) → less v ≡ true → there v ≡ true)
    → rests (turn_of u there of st x) ≡ true → rests (turn_of u less of st x) ≡ true
rests-less u there less of st None below h = refl
rests-less u there less of st (Some (Unpack name wanted)) below h =
    absurd (not_stuck _ (turn_ready u there of st (Unpack name wanted) tt) h)
rests-less u there less of st (Some (Wait e)) below h =
    elim (cases_Bool (passes u less e)) [
      | inl passed ↦ absurd (not_stuck _
          (turn_ready u there of st (Wait e) (passes-mono u less there e below passed)) h)
      | inr not_yet ↦ rw not_yet refl
    ]
rests-less u there less of st (Some (When name wanted)) below h =
    absurd (false≢true h)
rests-less u there less of st (Some (Configure members)) below h = h
rests-less u there less of st (Some (Deconfigure members)) below h = h
rests-less u there less of st (Some (Remove members)) below h = h
rests-less u there less of st (Some (Build r)) below h = h
rests-less u there less of st (Some (Publish r)) below h = h
rests-less u there less of st (Some Otherwise) below h = h
rests-less u there less of st (Some EndWhen) below h = h
