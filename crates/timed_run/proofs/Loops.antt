-- One lane more is looked at.
use Rattle.std.proofs.Common.{◌≡◌, ℕ, ◌+◌, ◌<◌, ◌≤◌, true, false, inl, inr, List, length, Option, Some, None, slice_get, slice_set, refl, sym, ap, ◌∙◌, subst, arith, length-set}
use Rattle.std.proofs.lemmas.Bool.{cases_eq, cases_Bool, false≢true}
use Rattle.std.proofs.lemmas.Option.{none-some, same_Some, slice_get-get_or}
use Rattle.farm_model.specs.Universe.{Universe}
use Rattle.farm_model.specs.declared.types.Variant.{Variant}
use Rattle.plan_model.specs.Common.{Plan, State}
use Rattle.timed_run.specs.declared.clock.Clock.{Clock}
use Rattle.timed_run.specs.Clocks.{moment_of, FoundTo, IsWoken, AreWoken}
use Rattle.timed_run.specs.Timed.{IsNoLater}
use Rattle.timed_run.proofs.Lists.{AtSet, Same, Other, at_set}

module _ (p : Plan) (s : State) (clocks : List Clock) where
  pub found-none : FoundTo p s clocks 0 None
  found-none k d lt is = absurd (omega (arith, lt))

  module _ (n : ℕ) (c : Clock) (at : slice_get clocks n ≡ Some c) where
    -- a lane comes no later than itself
    itself : (k : ℕ) (d : Clock) → slice_get clocks k ≡ Some d → k ≡ n
        → IsNoLater (moment_of p s n c.next) n (moment_of p s k d.next) k
    itself k d is same =
        let is_c : c ≡ d = same_Some c d (sym at ∙ (ap (slice_get clocks) (sym same) ∙ is)) in
        subst (λ i. IsNoLater (moment_of p s n c.next) n (moment_of p s i d.next) i) (sym same)
        (subst (λ (x : Clock). IsNoLater (moment_of p s n c.next) n (moment_of p s n x.next) n)
        is_c (omega arith, λ at_once. omega arith))

    -- its next event is before that of the lane that was found
    pub found-here : (found : Option ℕ) → FoundTo p s clocks n found → c.awake ≡ true
        → ((l : ℕ) (d : Clock) → found ≡ Some l → slice_get clocks l ≡ Some d
        → moment_of p s n c.next < moment_of p s l d.next) → FoundTo p s clocks (n + 1) (Some n)
    found-here None f up earlier = record {
      clock = c;
      is = at;
      within = omega arith;
      awake = up;
      first = λ k d lt is awake. elim (cases_eq k n) [
        | inl same ↦ itself k d is same
        | inr other ↦ absurd (false≢true (sym (f k d (omega (arith, lt, other)) is) ∙ awake))
      ];
    }
    found-here (Some l) f up earlier = record {
      clock = c;
      is = at;
      within = omega arith;
      awake = up;
      first = λ k d lt is awake. elim (cases_eq k n) [
        | inl same ↦ itself k d is same
        | inr other ↦
            let before = f.first k d (omega (arith, lt, other)) is awake in
            let less = earlier l f.clock refl f.is in (
              omega (arith, before.0, less),
              λ at_once. absurd (omega (arith, before.0, less, at_once)),
            )
      ];
    }

    -- it is asleep, or its next event is not before
    pub found-still : (found : Option ℕ) → FoundTo p s clocks n found
        → (c.awake ≡ true → (l : ℕ) × (found ≡ Some l) × ((d : Clock)
        → slice_get clocks l ≡ Some d → moment_of p s l d.next ≤ moment_of p s n c.next))
        → FoundTo p s clocks (n + 1) found
    found-still None f late = λ k d lt is. elim (cases_eq k n) [
      | inl same ↦
          let is_c : c ≡ d =
          same_Some c d (sym at ∙ (ap (slice_get clocks) (sym same) ∙ is)) in
          ap (λ (x : Clock). x.awake) (sym is_c) ∙ down
      | inr other ↦ f k d (omega (arith, lt, other)) is
    ]
      where
        down : c.awake ≡ false
        down = elim (cases_Bool c.awake) [
          | inl up ↦ let some = late up in absurd (none-some some.0 some.1)
          | inr asleep ↦ asleep
        ]
    found-still (Some l) f late = record {
      clock = f.clock;
      is = f.is;
      within = omega (arith, f.within);
      awake = f.awake;
      first = λ k d lt is awake. elim (cases_eq k n) [
        | inl same ↦
            let is_c : c ≡ d =
            same_Some c d (sym at ∙ (ap (slice_get clocks) (sym same) ∙ is)) in
            let some = late (ap (λ (x : Clock). x.awake) is_c ∙ awake) in
            let same_l : l ≡ some.0 = same_Some l some.0 some.1 in
            let le : moment_of p s l f.clock.next ≤ moment_of p s n c.next =
            subst (λ j. moment_of p s j f.clock.next ≤ moment_of p s n c.next) (sym same_l)
            (some.2 f.clock (subst (λ j. slice_get clocks j ≡ Some f.clock) same_l f.is)) in
            subst (λ i. IsNoLater (moment_of p s l f.clock.next) l (moment_of p s i d.next) i)
            (sym same)
            (subst (λ (x : Clock). IsNoLater (moment_of p s l f.clock.next) l
            (moment_of p s n x.next) n) is_c (le, λ at_once. omega (arith, f.within)))
        | inr other ↦ f.first k d (omega (arith, lt, other)) is awake
      ];
    }

module _ (u : Universe) (p : Plan) (s : State) (v : Variant) (time : ℕ) (old : List Clock) where
  pub woken-none : AreWoken u p s v time 0 old old
  woken-none = record {
    long = refl;
    each = λ l c is. (c, is, (λ lt. absurd (omega (arith, lt))), λ ge. refl);
  }

  -- lane n stays as it is
  pub woken-still : (n : ℕ) (now : List Clock) → AreWoken u p s v time n old now
      → ((c : Clock) → slice_get now n ≡ Some c → slice_get old n ≡ Some c
      → IsWoken u p s v time n c c)
      → AreWoken u p s v time (n + 1) old now
  woken-still n now w why = record {
    long = w.long;
    each = λ l c is. by l c is (w.each l c is);
  }
    where
      by : (l : ℕ) (c : Clock) → slice_get now l ≡ Some c → (d : Clock)
          × (slice_get old l ≡ Some d) × (l < n → IsWoken u p s v time l d c)
          × (n ≤ l → c ≡ d)
          → (d : Clock) × (slice_get old l ≡ Some d)
          × (l < n + 1 → IsWoken u p s v time l d c) × (n + 1 ≤ l → c ≡ d)
      by l c is (d, at, early, late) = (
        d,
        at,
        (λ lt. elim (cases_eq l n) [
          | inl same ↦ here l c d is at (late (omega (arith, same))) same
          | inr other ↦ early (omega (arith, lt, other))
        ]),
        λ ge. late (omega (arith, ge)),
      )
        where
          here : (l : ℕ) (c d : Clock) → slice_get now l ≡ Some c → slice_get old l ≡ Some d
              → c ≡ d → l ≡ n → IsWoken u p s v time l d c
          here l c d is at same l_is =
              let is_n : slice_get now n ≡ Some c = subst (λ i. slice_get now i ≡ Some c) l_is is
              in
              let at_n : slice_get old n ≡ Some c =
              subst (λ i. slice_get old i ≡ Some c) l_is (at ∙ ap Some (sym same)) in
              subst (λ i. IsWoken u p s v time i d c) (sym l_is)
              (subst (λ x. IsWoken u p s v time n x c) same (why c is_n at_n))

  -- lane n is set
  pub woken-set : (n : ℕ) (now : List Clock) (new : Clock) → AreWoken u p s v time n old now
      → ((c : Clock) → slice_get now n ≡ Some c → slice_get old n ≡ Some c
      → IsWoken u p s v time n c new)
      → n < length now → AreWoken u p s v time (n + 1) old (slice_set now n new)
  woken-set n now new w why there = record {
    long = length-set now n new ∙ w.long;
    each = λ l c is. by l c (at_set now n new l c is);
  }
    where
      was : (c : Clock) × (slice_get now n ≡ Some c)
      was = (_, slice_get-get_or now n new there)

      by : (l : ℕ) (c : Clock) → AtSet now n new l c → (d : Clock)
          × (slice_get old l ≡ Some d) × (l < n + 1 → IsWoken u p s v time l d c)
          × (n + 1 ≤ l → c ≡ d)
      by l c (Same same is) =
          let at = w.each n was.0 was.1 in
          let old_n : slice_get old n ≡ Some was.0 = at.1 ∙ ap Some (sym (at.3 (omega arith))) in (
            was.0,
            subst (λ i. slice_get old i ≡ Some was.0) (sym same) old_n,
            (λ lt. subst (λ i. IsWoken u p s v time i was.0 c) (sym same)
                (subst (IsWoken u p s v time n was.0) is (why was.0 was.1 old_n))),
            λ ge. absurd (omega (arith, ge, same)),
          )
      by l c (Other other is) =
          let at = w.each l c is in (
            at.0,
            at.1,
            (λ lt. at.2 (omega (arith, lt, other))),
            λ ge. at.3 (omega (arith, ge)),
          )
