-- The lane that has the next event, among one lane more.
use Rattle.std.proofs.Common.{◌≡◌, ℕ, ◌+◌, ◌*◌, ◌<◌, ◌≤◌, Bool, true, false, List, Option, Some, None, slice_get, refl, sym, ap, ◌∙◌, subst, arith}
use Rattle.std.specs.Prelude.{not, nat_lt, if◌then◌else◌}
use Rattle.std.proofs.lemmas.Bool.{false≢true, not-false, ltb-true, ltb-false}
use Rattle.std.proofs.lemmas.Option.{none-some, same_Some}
use Rattle.plan_model.specs.Common.{Plan, instruction_at, State, lane_state, is_publish}
use Rattle.timed_run.specs.declared.clock.Clock.{Clock}
use Rattle.timed_run.specs.Clocks.{moment_of, FoundTo}
use Rattle.timed_run.proofs.Loops.{found-here, found-still}
use Rattle.timed_run.specs.Moments.{number_of, lane_of, IsNextTo}
use Rattle.timed_run.specs.declared.earliest.Moment.{Moment}
use Rattle.timed_run.specs.declared.earliest.Next.{Next}

module _ (p : Plan) (s : State) (clocks : List Clock) (n : ℕ) (c : Clock)
    (at : slice_get clocks n ≡ Some c) (found : Option ℕ) (f : FoundTo p s clocks n found) where
  asleep : c.awake ≡ false → FoundTo p s clocks (n + 1) found
  asleep down = found-still p s clocks n c at found f (λ up. absurd (false≢true (sym down ∙ up)))

  module _ (up : c.awake ≡ true) (earlier : Bool) (none : found ≡ None → earlier ≡ true)
      (some : (l : ℕ) (x d : Clock) → found ≡ Some l → slice_get clocks n ≡ Some x
      → slice_get clocks l ≡ Some d
      → earlier ≡ nat_lt (moment_of p s n x.next) (moment_of p s l d.next)) where
    here : earlier ≡ true → FoundTo p s clocks (n + 1) (Some n)
    here before = found-here p s clocks n c at found f up
        (λ l d e there. ltb-true (moment_of p s n c.next) (moment_of p s l d.next)
        (sym (some l c d e at there) ∙ before))

    which : (o : Option ℕ) → found ≡ o → earlier ≡ false → (l : ℕ) × (found ≡ Some l)
        × ((d : Clock) → slice_get clocks l ≡ Some d
        → moment_of p s l d.next ≤ moment_of p s n c.next)
    which None e late = absurd (false≢true (sym late ∙ none e))
    which (Some l) e late = (
      l,
      e,
      λ d there. ltb-false (moment_of p s n c.next) (moment_of p s l d.next)
          (sym (some l c d e at there) ∙ late),
    )

    still : earlier ≡ false → FoundTo p s clocks (n + 1) found
    still late = found-still p s clocks n c at found f (λ _. which found refl late)

-- the same, with the moment of the lane that was found
module _ (p : Plan) (s : State) (clocks : List Clock) (n : ℕ) (c : Clock)
    (at : slice_get clocks n ≡ Some c) (found : Option Next) (f : IsNextTo p s clocks n found)
  where
    pub next-asleep : c.awake ≡ false → IsNextTo p s clocks (n + 1) found
    next-asleep down = record {
      lane = asleep p s clocks n c at (lane_of found) f.lane down;
      moment = f.moment;
    }

    module _ (not-down : not c.awake ≡ false) (m : Moment) (is : number_of m ≡ moment_of p s n c.next)
        (earlier : Bool) (none : found ≡ None → earlier ≡ true)
        (some : (next : Next) → found ≡ Some next
        → earlier ≡ nat_lt (number_of m) (number_of next.moment)) where
      up : c.awake ≡ true
      up = not-false c.awake not-down

      lane-none : (o : Option Next) → found ≡ o → lane_of o ≡ None → earlier ≡ true
      lane-none None e left = none e
      lane-none (Some next) e left = absurd (none-some next.lane (sym left))

      lane-some : (o : Option Next) → found ≡ o → (l : ℕ) (x d : Clock) → lane_of o ≡ Some l
          → slice_get clocks n ≡ Some x → slice_get clocks l ≡ Some d
          → earlier ≡ nat_lt (moment_of p s n x.next) (moment_of p s l d.next)
      lane-some None e l x d there at_n at_l = absurd (none-some l there)
      lane-some (Some next) e l x d there at_n at_l =
          let is_l : next.lane ≡ l = same_Some next.lane l there in
          let is_c : c ≡ x = same_Some c x (sym at ∙ at_n) in
          let at_next : slice_get clocks next.lane ≡ Some d =
          ap (slice_get clocks) is_l ∙ at_l in
          some next e
          ∙ (ap (λ k. nat_lt k (number_of next.moment))
          (is ∙ ap (λ (y : Clock). moment_of p s n y.next) is_c)
          ∙ ap (nat_lt (moment_of p s n x.next))
          (f.moment next d e at_next ∙ ap (λ k. moment_of p s k d.next) is_l))

      pub next-here : earlier ≡ true
          → IsNextTo p s clocks (n + 1) (Some (record { lane = n; moment = m }))
      next-here before = record {
        lane = here p s clocks n c at (lane_of found) f.lane up earlier
            (lane-none found refl) (lane-some found refl) before;
        moment = λ next d e there.
            let is_next : record { lane = n; moment = m } ≡ next = same_Some _ next e in
            subst (λ (x : Next). slice_get clocks x.lane ≡ Some d
            → number_of x.moment ≡ moment_of p s x.lane d.next) is_next
            (λ at_n. is ∙ ap (λ (y : Clock). moment_of p s n y.next) (same_Some c d (sym at ∙ at_n)))
            there;
      }

      pub next-still : earlier ≡ false → IsNextTo p s clocks (n + 1) found
      next-still late = record {
        lane = still p s clocks n c at (lane_of found) f.lane up earlier
            (lane-none found refl) (lane-some found refl) late;
        moment = f.moment;
      }

    -- a lane that is free later than another one's moment comes after it
    number-most : (begins : Bool) (t : ℕ) → 2 * t + (if begins then 1 else 0) ≤ 2 * t + 1
    number-most true t = omega arith
    number-most false t = omega arith

    moment-least : (gives : Bool) (t : ℕ)
        → 2 * t + 1 ≤ (if gives then 2 * t + 2 else 2 * t + 1)
    moment-least true t = omega arith
    moment-least false t = omega arith

    pub next-later : (next : Next) → found ≡ Some next → next.moment.time < c.next
        → IsNextTo p s clocks (n + 1) found
    next-later next e sooner = record {
      lane = found-still p s clocks n c at (lane_of found) f.lane
          (λ up. (next.lane, ap lane_of e, λ d there. not-after d there));
      moment = f.moment;
    }
      where
        not-after : (d : Clock) → slice_get clocks next.lane ≡ Some d
            → moment_of p s next.lane d.next ≤ moment_of p s n c.next
        not-after d there =
            let gives = is_publish (instruction_at p n (lane_state s n).done) in
            omega (
              arith,
              f.moment next d e there,
              number-most next.moment.begins next.moment.time,
              moment-least gives c.next,
              sooner,
            )

-- none of no lanes, and the lane of what was found of all
pub next-none : (p : Plan) (s : State) (clocks : List Clock) → IsNextTo p s clocks 0 None
next-none p s clocks = record {
  lane = λ k d lt. absurd (omega (arith, lt));
  moment = λ next c e. absurd (none-some next e);
}
