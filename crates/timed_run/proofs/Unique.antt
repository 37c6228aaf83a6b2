-- A plan has one timed run.
use Rattle.std.proofs.Common.{◌≡◌, ℕ, zero, suc, ◌+◌, ◌*◌, ◌<◌, ◌≤◌, Bool, true, inl, inr, List, [], ◌∷◌, ◌++◌, length, map, Option, Some, None, refl, sym, ap, ◌∙◌, subst, arith, append_assoc, get_or-set_other}
use Rattle.std.specs.Prelude.{All}
use Rattle.std.proofs.lemmas.Bool.{cases_lt, leb-true}
use Rattle.std.proofs.lemmas.List.{map-append}
use Rattle.std.proofs.lemmas.Option.{slice_get_past}
use Rattle.farm_model.specs.Universe.{Universe}
use Rattle.farm_model.specs.declared.types.Variant.{Variant}
use Rattle.farm_model.proofs.BelowLaws.{every_below-at}
use Rattle.plan_model.specs.Common.{Plan, lane, instruction_at, LaneState, Turn, Goes, Gives, Waits, Ends, Fails, turn_of, State, lane_state, no_state, Moved, Run, is_finished}
use Rattle.farm_laws.proofs.Steps.{After, turn_at, step_keeps}
use Rattle.timed_run.specs.Beginning.{Beginning, first_free}
use Rattle.timed_run.specs.declared.event.Event.{Event}
use Rattle.timed_run.specs.Timed.{archive_at, free_at, turn_over, rests, Takes, counts_at, IsInOrder, IsTimed, IsReached, IsTimedRun, IsOnlyTimedRun}
use Rattle.timed_run.proofs.Ahead.{timed-time}
use Rattle.timed_run.proofs.Lists.{all_at, no-later}
use Rattle.timed_run.proofs.Ordered.{Each, each-map, each-in, Sorted, sorted, in-some-order, TimedFrom, timed_from, timed-in, archive-front, NoneOf, free-behind, First, There, Nowhere, first-of}
use Rattle.timed_run.proofs.Waited.{takes-moves}

same_moved : (a b : State) → Moved a ≡ Moved b → a ≡ b
same_moved a b e = cc

-- a run leads to one state
run-same : (u : Universe) (p : Plan) (ls : List ℕ) (s a b : State) → Run u p s ls a
    → Run u p s ls b → a ≡ b
run-same u p [] s a b r q = sym r ∙ q
run-same u p (l ∷ ls) s a b r q =
    let next : r.0 ≡ q.0 = same_moved r.0 q.0 (sym r.1 ∙ q.1) in
    run-same u p ls q.0 a b (subst (λ x. Run u p x ls a) next r.2) q.2

run-split : (u : Universe) (p : Plan) (ls ks : List ℕ) (s t : State) → Run u p s (ls ++ ks) t
    → (m : State) × Run u p s ls m × Run u p m ks t
run-split u p [] ks s t r = (s, refl, r)
run-split u p (l ∷ ls) ks s t r =
    let rest = run-split u p ls ks r.0 t r.2 in (rest.0, (r.0, r.1, rest.1), rest.2)

-- a lane stands where it stood behind events of others
after_other : (s : State) (k l : ℕ) → (l ≡ k → ⊥) → (turn : Turn)
    → After (λ x. lane_state x l ≡ lane_state s l) s k turn
after_other s k l other (Goes next) = get_or-set_other s.lanes k l next no_state other
after_other s k l other (Gives next v) = get_or-set_other s.lanes k l next no_state other
after_other s k l other Waits = tt
after_other s k l other Ends = tt
after_other s k l other (Fails trap) = tt

others-stay : (u : Universe) (p : Plan) (l : ℕ) (mid : List Event) (s t : State) → NoneOf l mid
    → Run u p s (map (λ (e : Event). e.lane) mid) t → lane_state t l ≡ lane_state s l
others-stay u p l [] s t none r = ap (λ x. lane_state x l) (sym r)
others-stay u p l (x ∷ xs) s t none r =
    others-stay u p l xs r.0 t none.1 r.2
    ∙ step_keeps u p (λ m. lane_state m l ≡ lane_state s l) s r.0 x.lane r.1
    (λ lt. after_other s x.lane l (λ same. none.0 (sym same)) (turn_at u p s x.lane))

-- at the end no lane has an instruction
none-left : (p : Plan) (t : State) (l : ℕ) → is_finished p t ≡ true
    → instruction_at p l (lane_state t l).done ≡ None
unfolding is_finished
none-left p t l finished = elim (cases_lt l (length p)) [
  | inl lt ↦ slice_get_past (lane p l).instructions (lane_state t l).done
      (leb-true (length (lane p l).instructions) (lane_state t l).done
      (every_below-at (length p) _ l lt finished))
  | inr ge ↦ past p l (lane_state t l).done ge
]
  where
    past : (p : Plan) (l i : ℕ) → length p ≤ l → instruction_at p l i ≡ None
    past [] l i ge = refl
    past (x ∷ xs) zero i ge = absurd (omega (arith, ge))
    past (x ∷ xs) (suc l) i ge = past xs l i (omega (arith, ge))

-- so it takes no event
nothing-more : (u : Universe) (p : Plan) (s : State) (e : Event) (there : Variant → Bool)
    → instruction_at p e.lane (lane_state s e.lane).done ≡ None
    → Takes e (lane_state s e.lane) (turn_over u p s e.lane there) → ⊥
nothing-more u p s e there none takes =
    subst (Takes e (lane_state s e.lane))
    (ap (turn_of u there (lane p e.lane) (lane_state s e.lane)) none) takes

-- what a lane does then says what the event gives and when it ends
taken-same : (a b : Event) (st : LaneState) (turn : Turn) → a.begin ≡ b.begin → Takes a st turn
    → Takes b st turn → (a.output ≡ b.output) × (a.end ≡ b.end)
taken-same a b st (Goes next) same x y = (x.0 ∙ sym y.0, omega (arith, same, x.1, y.1))
taken-same a b st (Gives next v) same x y = (x.0 ∙ sym y.0, omega (arith, same, x.1, y.1))
taken-same a b st Waits same x y = absurd x
taken-same a b st Ends same x y = absurd x
taken-same a b st (Fails trap) same x y = absurd x

event-same : (a b : Event) → a.lane ≡ b.lane → a.place ≡ b.place → a.free ≡ b.free
    → a.begin ≡ b.begin → a.end ≡ b.end → a.output ≡ b.output → a ≡ b
event-same a b lanes places frees begins ends outputs = λ i. record {
  lane = lanes i;
  place = places i;
  free = frees i;
  begin = begins i;
  end = ends i;
  output = outputs i;
}

-- these events lead all lanes to their ends
abbrev IsWhole : Universe → Plan → Beginning → List Event → Type 0
IsWhole u p b all = (t : State) × Run u p b.state (map (λ (e : Event). e.lane) all) t
    × (is_finished p t ≡ true)

-- An event of one run, and what another run has behind the same beginning, none of it sooner.
module _ (u : Universe) (p : Plan) (b : Beginning) (one other before : List Event) (e : Event) (es fs : List Event)
    (is_one : one ≡ before ++ e ∷ es) (is_other : other ≡ before ++ fs)
    (timed : IsTimed u p b one before e) (behind : Each (IsInOrder e) es)
    (later : Each (IsInOrder e) fs) where
  abbrev lanes_of : List Event → List ℕ
  lanes_of xs = map (λ (x : Event). x.lane) xs

  own : 2 * e.begin + 1 ≤ counts_at e
  own = by e.output refl
    where
      time : (e.begin ≤ e.end) × ((v : Variant) → e.output ≡ Some v → e.begin < e.end)
      time = timed-time u p b one before e timed

      by : (o : Option Variant) → e.output ≡ o → 2 * e.begin + 1 ≤ counts_at e
      by None is = rw is (omega arith)
      by (Some v) is = let less = time.1 v is in rw is (omega (arith, less))

  counts : (m : ℕ) → m ≤ e.begin → (x : Event) → IsInOrder e x → 2 * m + 1 ≤ counts_at x
  counts m le x order = omega (arith, own, le, order.0)

  -- until it begins both runs have one archive
  archives : (m : ℕ) → m ≤ e.begin → archive_at u b other m ≡ archive_at u b one m
  archives m le =
      ap (λ xs. archive_at u b xs m) is_other
      ∙ (archive-front u b before fs m
      (each-map (IsInOrder e) (λ x. 2 * m + 1 ≤ counts_at x) (counts m le) fs later)
      ∙ sym (ap (λ xs. archive_at u b xs m) is_one
      ∙ archive-front u b before (e ∷ es) m (
        omega (arith, own, le),
        each-map (IsInOrder e) (λ x. 2 * m + 1 ≤ counts_at x) (counts m le) es behind,
      )))

  -- the next event of its lane in the other run
  module _ (mid : List Event) (x : Event) (rest : List Event) (none : NoneOf e.lane mid)
      (here : x.lane ≡ e.lane) (twin : IsTimed u p b other (before ++ mid) x) where
    lanes : lane_state twin.state e.lane ≡ lane_state timed.state e.lane
    lanes =
        let parts = run-split u p (lanes_of before) (lanes_of mid) b.state twin.state
        (subst (λ ls. Run u p b.state ls twin.state)
        (map-append (λ (y : Event). y.lane) before mid) twin.run) in
        others-stay u p e.lane mid parts.0 twin.state none parts.2
        ∙ ap (λ s. lane_state s e.lane)
        (run-same u p (lanes_of before) b.state parts.0 timed.state parts.1 timed.run)

    states : lane_state twin.state x.lane ≡ lane_state timed.state e.lane
    states = ap (lane_state twin.state) here ∙ lanes

    turns : (m : ℕ) → m ≤ e.begin → turn_over u p twin.state x.lane (archive_at u b other m)
        ≡ turn_over u p timed.state e.lane (archive_at u b one m)
    turns m le =
        ap (λ l. turn_over u p twin.state l (archive_at u b other m)) here
        ∙ (ap (λ (st : LaneState). turn_of u (archive_at u b other m) (lane p e.lane) st
        (instruction_at p e.lane st.done)) lanes
        ∙ ap (turn_over u p timed.state e.lane) (archives m le))

    frees : x.free ≡ e.free
    frees = twin.free
        ∙ (ap (λ l. free_at (first_free b l) l (before ++ mid)) here
        ∙ (free-behind (first_free b e.lane) e.lane before mid none ∙ sym timed.free))

    begins : x.begin ≡ e.begin
    begins = elim (cases_lt x.begin e.begin) [
      | inl sooner ↦ absurd (takes-moves x (lane_state twin.state x.lane)
          (turn_over u p twin.state x.lane (archive_at u b other x.begin)) twin.takes
          (subst (λ turn. rests turn ≡ true) (sym (turns x.begin (omega (arith, sooner))))
          (timed.rested x.begin (omega (arith, frees, twin.later)) sooner)))
      | inr not ↦ elim (cases_lt e.begin x.begin) [
        | inl later ↦ absurd (takes-moves e (lane_state timed.state e.lane)
            (turn_over u p timed.state e.lane (archive_at u b one e.begin)) timed.takes
            (subst (λ turn. rests turn ≡ true) (turns e.begin (omega arith))
            (twin.rested e.begin (omega (arith, frees, timed.later)) later)))
        | inr nor ↦ omega (arith, not, nor)
      ]
    ]

    takes : Takes x (lane_state timed.state e.lane)
        (turn_over u p timed.state e.lane (archive_at u b one e.begin))
    takes = subst (Takes x (lane_state timed.state e.lane))
        (ap (λ m. turn_over u p twin.state x.lane (archive_at u b other m)) begins
        ∙ turns e.begin (omega arith))
        (subst (λ st. Takes x st (turn_over u p twin.state x.lane (archive_at u b other x.begin)))
        states twin.takes)

    twin-same : x ≡ e
    twin-same =
        let taken = taken-same x e (lane_state timed.state e.lane)
        (turn_over u p timed.state e.lane (archive_at u b one e.begin)) begins takes timed.takes in
        event-same x e here
        (twin.place ∙ (ap (λ (st : LaneState). st.done) states ∙ sym timed.place)) frees begins
        taken.1 taken.0

  -- the other run has it too, behind events of other lanes
  record Later : Type 0 where
    pub mid : List Event
    pub rest : List Event
    pub is : fs ≡ mid ++ e ∷ rest
    pub none : NoneOf e.lane mid

  has-it : TimedFrom u p b other before fs → IsWhole u p b other → Later
  has-it all whole = by (first-of e.lane fs)
    where
      by : First e.lane fs → Later
      by (There mid x rest is none here) =
          let twin = timed-in u p b other before mid x rest (subst (TimedFrom u p b other before) is all)
          in record {
            mid = mid;
            rest = rest;
            is = is ∙ ap (λ y. mid ++ y ∷ rest) (twin-same mid x rest none here twin);
            none = none;
          }
      by (Nowhere none) =
          let parts = run-split u p (lanes_of before) (lanes_of fs) b.state whole.0
          (subst (λ ls. Run u p b.state ls whole.0)
          (ap lanes_of is_other ∙ map-append (λ (y : Event). y.lane) before fs) whole.1) in
          let lanes : lane_state whole.0 e.lane ≡ lane_state timed.state e.lane =
          others-stay u p e.lane fs parts.0 whole.0 none parts.2
          ∙ ap (λ s. lane_state s e.lane)
          (run-same u p (lanes_of before) b.state parts.0 timed.state parts.1 timed.run) in
          absurd (nothing-more u p timed.state e (archive_at u b one e.begin)
          (ap (λ (st : LaneState). instruction_at p e.lane st.done) (sym lanes)
          ∙ none-left p whole.0 e.lane whole.2) timed.takes)

-- the first events of two lists
same_head : (f e : Event) (fs rest : List Event) → f ∷ fs ≡ e ∷ rest → f ≡ e
same_head f e fs rest is = cc

same_tail : (f e : Event) (fs rest : List Event) → f ∷ fs ≡ e ∷ rest → fs ≡ rest
same_tail f e fs rest is = cc

not_empty : (mid rest : List Event) (e : Event) → [] ≡ mid ++ e ∷ rest → ⊥
not_empty [] rest e is = cc
not_empty (x ∷ xs) rest e is = cc

-- what comes next in one run, and no later than what comes next in the other, comes next there too
next-same : (u : Universe) (p : Plan) (b : Beginning) (one other before : List Event) (e f : Event)
    (es fs : List Event) → one ≡ before ++ e ∷ es → other ≡ before ++ f ∷ fs
    → TimedFrom u p b one before (e ∷ es) → TimedFrom u p b other before (f ∷ fs)
    → Sorted (e ∷ es) → Sorted (f ∷ fs) → IsWhole u p b other → IsInOrder e f → f ≡ e
next-same u p b one other before e f es fs is_one is_other ones others s_one s_other whole first =
    by found.mid found.is found.none
  where
    later : Each (IsInOrder e) (f ∷ fs)
    later = (
      first,
      each-map (IsInOrder f) (IsInOrder e)
          (λ x. no-later (counts_at e) e.lane (counts_at f) f.lane (counts_at x) x.lane first) fs
          s_other.0,
    )

    found : Later u p b one other before e es (f ∷ fs) is_one is_other ones.0 s_one.0 later
    found = has-it u p b one other before e es (f ∷ fs) is_one is_other ones.0 s_one.0 later others
        whole

    by : (mid : List Event) → f ∷ fs ≡ mid ++ e ∷ found.rest → NoneOf e.lane mid → f ≡ e
    by [] is none = same_head f e fs found.rest is
    by (g ∷ gs) is none =
        let order : IsInOrder f e = each-in (IsInOrder f) gs e found.rest
        (subst (Each (IsInOrder f)) (same_tail f g fs (gs ++ e ∷ found.rest) is) s_other.0) in
        let counts : counts_at e ≡ counts_at f = omega (arith, first.0, order.0) in
        let one_way = first.1 counts in
        let other_way = order.1 (sym counts) in
        let lanes : f.lane ≡ e.lane = omega (arith, one_way, other_way) in
        absurd (none.0 (ap (λ (x : Event). x.lane)
        (sym (same_head f g fs (gs ++ e ∷ found.rest) is)) ∙ lanes))

-- an event more, and none
none-behind : (u : Universe) (p : Plan) (b : Beginning) (one other before : List Event) (e : Event)
    (es : List Event) → one ≡ before ++ e ∷ es → other ≡ before ++ []
    → TimedFrom u p b one before (e ∷ es) → Sorted (e ∷ es) → IsWhole u p b other → ⊥
none-behind u p b one other before e es is_one is_other ones s_one whole =
    let found = has-it u p b one other before e es [] is_one is_other ones.0 s_one.0 tt tt whole in
    not_empty found.mid found.rest e found.is

-- behind the same beginning two runs have the same events
same-behind : (u : Universe) (p : Plan) (b : Beginning) (one other : List Event) (es fs before : List Event)
    → one ≡ before ++ es → other ≡ before ++ fs → TimedFrom u p b one before es
    → TimedFrom u p b other before fs → Sorted es → Sorted fs → IsWhole u p b one → IsWhole u p b other
    → es ≡ fs
same-behind u p b one other [] [] before at_a at_b ta tb sa sb wa wb = refl
same-behind u p b one other (e ∷ es) [] before at_a at_b ta tb sa sb wa wb =
    absurd (none-behind u p b one other before e es at_a at_b ta sa wb)
same-behind u p b one other [] (f ∷ fs) before at_a at_b ta tb sa sb wa wb =
    absurd (none-behind u p b other one before f fs at_b at_a tb sb wa)
same-behind u p b one other (e ∷ es) (f ∷ fs) before at_a at_b ta tb sa sb wa wb =
    let heads : f ≡ e = elim (in-some-order e f) [
      | inl first ↦ next-same u p b one other before e f es fs at_a at_b ta tb sa sb wb first
      | inr first ↦ sym (next-same u p b other one before f e fs es at_b at_a tb ta sb sa wa first)
    ] in
    let front : before ++ f ∷ [] ≡ before ++ e ∷ [] = ap (λ x. before ++ x ∷ []) heads in
    ap (λ x. x ∷ es) (sym heads)
    ∙ ap (λ xs. f ∷ xs)
    (same-behind u p b one other es fs (before ++ e ∷ []) (at_a ∙ sym (append_assoc before (e ∷ []) es))
    (at_b ∙ (sym (append_assoc before (f ∷ []) fs) ∙ ap (λ xs. xs ++ fs) front)) ta.1
    (subst (λ xs. TimedFrom u p b other xs fs) front tb.1) sa.1 sb.1 wa wb)

reached-most : (b : Beginning) (events : List Event) (end last : ℕ) → IsReached b events end
    → All (λ time. time ≤ last) b.free → All (λ (e : Event). e.end ≤ last) events → end ≤ last
reached-most b events end last (inl empty) free all = omega (arith, empty.1)
reached-most b events end last (inr (inl (l, at))) free all =
    all_at (λ time. time ≤ last) b.free free l end at
reached-most b events end last (inr (inr (k, e, at, is))) free all =
    let most = all_at (λ (x : Event). x.end ≤ last) events all k e at in omega (arith, most, is)

same-run : (u : Universe) (p : Plan) (b : Beginning) (events : List Event) (end : ℕ) → IsTimedRun u p b events end
    → (other : List Event) (last : ℕ) → IsTimedRun u p b other last
    → (other ≡ events) × (last ≡ end)
same-run u p b events end one other last also =
    let same : other ≡ events = same-behind u p b other events other events [] refl refl
    (timed_from u p b other [] other refl also.timed)
    (timed_from u p b events [] events refl one.timed) (sorted other also.ordered)
    (sorted events one.ordered) (also.last, also.run, also.finished)
    (one.last, one.run, one.finished) in
    let less = reached-most b events end last one.reached also.free
    (subst (All (λ (e : Event). e.end ≤ last)) same also.greatest) in
    let most = reached-most b other last end also.reached one.free
    (subst (All (λ (e : Event). e.end ≤ end)) (sym same) one.greatest) in
    (same, omega (arith, less, most))

pub only-one : (u : Universe) (p : Plan) (b : Beginning) (events : List Event) (end : ℕ)
    → IsTimedRun u p b events end → IsOnlyTimedRun u p b events end
only-one u p b events end one = record { only = same-run u p b events end one }
