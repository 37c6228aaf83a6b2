-- The critical path of a timed run, event by event.
use Rattle.std.proofs.Common.{◌≡◌, ℕ, zero, suc, ◌+◌, ◌-◌, ◌*◌, ◌<◌, ◌≤◌, ◌⊎◌, inl, inr, List, [], ◌∷◌, ◌++◌, length, take, Option, Some, None, slice_get, get_or, refl, sym, ap, ◌∙◌, subst, arith}
use Rattle.std.proofs.lemmas.Bool.{cases_eq, cases_lt, lt-ltb, le-ltb}
use Rattle.std.proofs.lemmas.Option.{none-some, same_Some, slice_get_within, slice_get-get_or}
use Rattle.farm_model.specs.Common.{Universe, IsKnown}
use Rattle.farm_model.specs.declared.types.Variant.{Variant}
use Rattle.plan_model.specs.Common.{Plan, IsSound}
use Rattle.timed_run.specs.Beginning.{Beginning, BeginsAt}
use Rattle.timed_run.specs.declared.event.Event.{Event}
use Rattle.timed_run.specs.Timed.{AreTimed, IsTimedRun}
use Rattle.timed_run.specs.Path.{NoneFrom, WaitsFor, Follows, LetsOn, BeginsFirst, IsLinked, NoneEnds, IsCriticalPath}
use Rattle.timed_run.proofs.Chains.{timed-known, linked-more, linked-ends, never-none, follows-output, follows-lane, begins-first, nearer}
use Rattle.timed_run.specs.Links.{nearest_of, IsInLane, IsLast}

-- what is read past the last event
abbrev pub no_event : Event
no_event = record { lane = 0; place = 0; free = 0; begin = 0; end = 0; output = None }

abbrev pub event_at : List Event → ℕ → Event
event_at events k = get_or events k no_event

module _ (u : Universe) (p : Plan) (b : Beginning) (sound : IsSound u p) (events : List Event)
    (timed : AreTimed u p b events) (j k : ℕ) (lj : j < length events) (lk : k < length events) where
  at_j : slice_get events j ≡ Some (event_at events j)
  at_j = slice_get-get_or events j no_event lj

  at_k : slice_get events k ≡ Some (event_at events k)
  at_k = slice_get-get_or events k no_event lk

  pub known : (v : Variant) → (event_at events j).output ≡ Some v → IsKnown u v
  known v some = timed-known u p b sound events (take j events) (event_at events j)
      (timed j (event_at events j) at_j) v some

  pub lets : (event_at events j).end ≡ (event_at events k).begin → (v : Variant)
      → (event_at events j).output ≡ Some v
      → WaitsFor u p (event_at events k).lane (event_at events k).place v
      → LetsOn u p events j k
  lets joins v some waits = record {
    ahead = event_at events j;
    it = event_at events k;
    at_ahead = at_j;
    at_it = at_k;
    joins = joins;
    lets = record { output = v; gives = some; waits = waits };
  }

  pub not_waits : (v : Variant) → (event_at events j).output ≡ Some v
      → (WaitsFor u p (event_at events k).lane (event_at events k).place v → ⊥)
      → LetsOn u p events j k → ⊥
  not_waits v some none l =
      let is_a : l.ahead ≡ event_at events j = same_Some _ _ (sym l.at_ahead ∙ at_j) in
      let is_e : l.it ≡ event_at events k = same_Some _ _ (sym l.at_it ∙ at_k) in
      let is_v : l.lets.output ≡ v =
      same_Some _ _ (sym l.lets.gives ∙ (ap (λ (x : Event). x.output) is_a ∙ some)) in
      none (subst (λ (x : Event). WaitsFor u p x.lane x.place v) is_e
      (subst (WaitsFor u p l.it.lane l.it.place) is_v l.lets.waits))

  pub not_none : (event_at events j).output ≡ None → LetsOn u p events j k → ⊥
  not_none none l =
      let is_a : l.ahead ≡ event_at events j = same_Some _ _ (sym l.at_ahead ∙ at_j) in
      none-some l.lets.output
      (sym none ∙ (ap (λ (x : Event). x.output) (sym is_a) ∙ l.lets.gives))

  pub not_joined : ((event_at events j).end ≡ (event_at events k).begin → ⊥)
      → LetsOn u p events j k → ⊥
  not_joined apart l =
      let is_a : l.ahead ≡ event_at events j = same_Some _ _ (sym l.at_ahead ∙ at_j) in
      let is_e : l.it ≡ event_at events k = same_Some _ _ (sym l.at_it ∙ at_k) in
      apart (sym (ap (λ (x : Event). x.end) is_a) ∙ (l.joins ∙ ap (λ (x : Event). x.begin) is_e))

-- all events are looked at
pub nearest-within : (number step n : ℕ) → number < n → step < n → nearest_of number step < n
nearest-within number step n ln ls = elim (cases_lt step number) [
  | inl lt ↦ rw (lt-ltb step number lt) (omega (arith, ln))
  | inr ge ↦ rw (le-ltb step number ge) ls
]

pub nearest-all : (number j n : ℕ) → number < n → j < n
    → (s : ℕ) × (s < n) × (nearest_of number s ≡ j)
nearest-all number j n ln lj = elim (cases_lt j number) [
  | inl lt ↦
      let back : number - 1 - j < number = omega (arith, lt) in (
        number - 1 - j,
        omega (arith, ln, lt),
        rw (lt-ltb (number - 1 - j) number back) (omega (arith, lt)),
      )
  | inr ge ↦ (j, lj, rw (le-ltb j number ge) refl)
]

pub none-lets : (u : Universe) (p : Plan) (events : List Event) (number : ℕ)
    → number < length events → (n : ℕ) → length events ≤ n
    → ((s : ℕ) → s < n → LetsOn u p events (nearest_of number s) number → ⊥)
    → (j : ℕ) → LetsOn u p events j number → ⊥
none-lets u p events number ln n enough none j l =
    let at = nearest-all number j (length events) ln
    (slice_get_within events j l.ahead l.at_ahead) in
    none at.0 (omega (arith, at.1, enough))
    (subst (λ i. LetsOn u p events i number) (sym at.2) l)

-- what is ahead of an event
module _ (u : Universe) (p : Plan) (b : Beginning) (events : List Event) (timed : AreTimed u p b events) (k : ℕ)
    (lk : k < length events) where
  here : slice_get events k ≡ Some (event_at events k)
  here = slice_get-get_or events k no_event lk

  pub waited-none : (event_at events k).free < (event_at events k).begin
      → ((j : ℕ) → LetsOn u p events j k → ⊥) → BeginsFirst b events k
  waited-none lt none =
      absurd (never-none u p b events timed k (event_at events k) here lt none)

  pub waited-some : (event_at events k).free < (event_at events k).begin → (j : ℕ)
      → LetsOn u p events j k → Follows u p events j k
  waited-some lt j l = follows-output u p b events timed k (event_at events k) here lt j l

  pub lane-none : (event_at events k).begin ≤ (event_at events k).free
      → ((e : Event) → slice_get events k ≡ Some e → NoneFrom events e.lane 0 k)
      → BeginsFirst b events k
  lane-none le none = (
    event_at events k,
    here,
    begins-first u p b events timed k (event_at events k) here le (none (event_at events k) here),
  )

  pub lane-some : (event_at events k).begin ≤ (event_at events k).free → (j : ℕ)
      → IsInLane events j k → Follows u p events j k
  lane-some le j l =
      let same : l.it ≡ event_at events k = same_Some _ _ (sym l.at_it ∙ here) in
      follows-lane u p b events timed k (event_at events k) here le j l.ahead l.at_ahead l.before
      (l.same ∙ ap (λ (x : Event). x.lane) same)
      (subst (λ (x : Event). NoneFrom events x.lane (suc j) k) same l.none)

-- the path so far: where it begins
abbrev pub StartsWith : Beginning → List Event → ℕ → List ℕ → Option ℕ → Type 0
StartsWith b events end [] next =
    (next ≡ None → (events ≡ []) ⊎ (NoneEnds events end × BeginsAt b end))
    × ((k : ℕ) → next ≡ Some k → IsLast events k end)
StartsWith b events end (k ∷ path) next = IsLast events k end

pub starts-more : (b : Beginning) (events : List Event) (end : ℕ) (path : List ℕ) (k : ℕ) (next : Option ℕ)
    → StartsWith b events end path (Some k) → StartsWith b events end (path ++ k ∷ []) next
starts-more b events end [] k next s = s.1 k refl
starts-more b events end (i ∷ path) k next s = s

-- the last event is there, if there is any
pub starts : (u : Universe) (p : Plan) (b : Beginning) (events : List Event) (end : ℕ) (next : Option ℕ)
    → IsTimedRun u p b events end
    → (next ≡ None → NoneEnds events end)
    → ((k : ℕ) → next ≡ Some k → IsLast events k end) → StartsWith b events end [] next
starts u p b events end next run none some = (
  (λ is. elim run.reached [
    | inl empty ↦ inl empty.0
    | inr reached ↦ elim reached [
      | inl begins ↦ inr (none is, begins)
      | inr last ↦ absurd (none is last.0 last.1 last.2 last.3)
    ]
  ]),
  some,
)

pub ends-path : (u : Universe) (p : Plan) (b : Beginning) (events : List Event) (end : ℕ) (path : List ℕ)
    → IsLinked u p b events path None → StartsWith b events end path None
    → IsCriticalPath u p b events end path
ends-path u p b events end [] l s = s.0 refl
ends-path u p b events end (k ∷ path) l s = (s, linked-ends u p b events k path l)

-- how far it is to the beginning at most
abbrev pub left_of : List Event → Option ℕ → ℕ
left_of events None = 0
left_of events (Some k) = (event_at events k).begin * suc (length events) + suc k

times-more : (b c n : ℕ) → b < c → suc b * n ≤ c * n
times-more b (suc c) n lt = elim (cases_eq b c) [
  | inl same ↦ ap-le same
  | inr other ↦
      let rest = times-more b c n (omega (arith, lt, other)) in
      let next : suc c * n ≡ c * n + n = omega arith in omega (arith, rest, next)
]
  where
    ap-le : b ≡ c → suc b * n ≤ suc c * n
    ap-le same = subst (λ x. suc b * n ≤ suc x * n) same (omega arith)
times-more b zero n lt = absurd (omega (arith, lt))

pub left-less : (u : Universe) (p : Plan) (b : Beginning) (events : List Event) → AreTimed u p b events
    → (k : ℕ) (next : Option ℕ) → k < length events
    → ((j : ℕ) → next ≡ Some j → Follows u p events j k)
    → left_of events next < left_of events (Some k)
left-less u p b events timed k None lk f = omega arith
left-less u p b events timed k (Some j) lk f =
    let follows = f j refl in
    let less = nearer u p b events timed j k follows in
    let is_a : follows.ahead ≡ event_at events j =
    same_Some _ _ (sym follows.at_ahead ∙ slice_get-get_or events j no_event less.1) in
    let is_e : follows.it ≡ event_at events k =
    same_Some _ _ (sym follows.at_it ∙ slice_get-get_or events k no_event lk) in
    let a : follows.ahead.begin ≡ (event_at events j).begin =
    ap (λ (x : Event). x.begin) is_a in
    let e : follows.it.begin ≡ (event_at events k).begin = ap (λ (x : Event). x.begin) is_e in
    elim (cases_eq (event_at events j).begin (event_at events k).begin) [
      | inl same ↦
          let before = less.2 (a ∙ (same ∙ sym e)) in
          let times : (event_at events j).begin * suc (length events)
          ≡ (event_at events k).begin * suc (length events) =
          ap (λ b. b * suc (length events)) same in omega (arith, before, times)
      | inr other ↦
          let lt : (event_at events j).begin < (event_at events k).begin =
          omega (arith, less.0, a, e, other) in
          let times = times-more (event_at events j).begin (event_at events k).begin
          (suc (length events)) lt in
          let next : suc (event_at events j).begin * suc (length events)
          ≡ (event_at events j).begin * suc (length events) + suc (length events) =
          omega arith in
          omega (arith, times, next, less.1)
    ]

pub next-within : (u : Universe) (p : Plan) (events : List Event) (k : ℕ) (next : Option ℕ)
    → ((j : ℕ) → next ≡ Some j → Follows u p events j k) → (j : ℕ) → next ≡ Some j
    → j < length events
next-within u p events k next f j e =
    let follows = f j e in slice_get_within events j follows.ahead follows.at_ahead

-- what is ahead of the event goes on the path
pub linked-next : (u : Universe) (p : Plan) (b : Beginning) (events : List Event) (path : List ℕ) (k : ℕ)
    (next : Option ℕ) → IsLinked u p b events path (Some k)
    → (next ≡ None → BeginsFirst b events k)
    → ((j : ℕ) → next ≡ Some j → Follows u p events j k)
    → IsLinked u p b events (path ++ k ∷ []) next
linked-next u p b events path k next l none some = linked-more u p b events path k next l (link next refl)
  where
    link : (o : Option ℕ) → next ≡ o → IsLinked u p b events (k ∷ []) o
    link None e = none e
    link (Some j) e = some j e
