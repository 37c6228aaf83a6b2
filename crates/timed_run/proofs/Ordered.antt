-- Events that are timed and in order, as lists that begin at one of them.
use Rattle.std.proofs.Common.{◌≡◌, ℕ, suc, ◌+◌, ◌*◌, ◌<◌, ◌≤◌, ◌⊎◌, inl, inr, List, [], ◌∷◌, ◌++◌, length, take, Option, Some, None, slice_get, refl, sym, ap, ◌∙◌, subst, arith, append_assoc, append-nil, take_at}
use Rattle.std.proofs.lemmas.Bool.{cases_eq, cases_lt}
use Rattle.farm_model.specs.Universe.{Universe}
use Rattle.farm_model.specs.declared.types.Variant.{Variant}
use Rattle.plan_model.specs.Plan.{Plan}
use Rattle.timed_run.specs.Beginning.{Beginning}
use Rattle.timed_run.specs.declared.event.Event.{Event}
use Rattle.timed_run.specs.Timed.{archive_at, free_at, moment_by, counts_at, IsInOrder, AreInOrder, IsTimed, AreTimed}
use Rattle.timed_run.proofs.Archives.{archive_at-more}
use Rattle.timed_run.proofs.Events.{free_other}

-- this holds of each
abbrev pub Each : (Event → Type 0) → List Event → Type 0
Each P [] = Unit {0}
Each P (x ∷ xs) = P x × Each P xs

each_at : (P : Event → Type 0) (xs : List Event)
    → ((k : ℕ) (x : Event) → slice_get xs k ≡ Some x → P x) → Each P xs
each_at P [] all = tt
each_at P (x ∷ xs) all = (all 0 x refl, each_at P xs (λ k y at. all (suc k) y at))

pub each-map : (P Q : Event → Type 0) → ((x : Event) → P x → Q x) → (xs : List Event) → Each P xs
    → Each Q xs
each-map P Q f [] all = tt
each-map P Q f (x ∷ xs) all = (f x all.0, each-map P Q f xs all.1)

pub each-in : (P : Event → Type 0) (mid : List Event) (x : Event) (rest : List Event)
    → Each P (mid ++ x ∷ rest) → P x
each-in P [] x rest all = all.0
each-in P (y ∷ ys) x rest all = each-in P ys x rest all.1

-- each comes no later than those behind it
abbrev pub Sorted : List Event → Type 0
Sorted [] = Unit {0}
Sorted (x ∷ xs) = Each (IsInOrder x) xs × Sorted xs

pub sorted : (xs : List Event) → AreInOrder xs → Sorted xs
sorted [] ordered = tt
sorted (x ∷ xs) ordered = (
  each_at (IsInOrder x) xs (λ k y at. ordered 0 (suc k) x y (omega arith) refl at),
  sorted xs (λ j k a b lt at_a at_b. ordered (suc j) (suc k) a b (omega (arith, lt)) at_a at_b),
)

-- of two events one comes no later
pub in-some-order : (a b : Event) → IsInOrder a b ⊎ IsInOrder b a
in-some-order a b = elim (cases_lt (counts_at a) (counts_at b)) [
  | inl lt ↦ inl (omega (arith, lt), λ same. absurd (omega (arith, lt, same)))
  | inr ge ↦ elim (cases_eq (counts_at a) (counts_at b)) [
    | inl same ↦ elim (cases_lt a.lane b.lane) [
      | inl less ↦ inl (omega (arith, same), λ _. omega (arith, less))
      | inr more ↦ inr (omega (arith, same), λ _. more)
    ]
    | inr other ↦ inr (ge, λ same. absurd (other (sym same)))
  ]
]

-- each is timed, in a run of all these events, behind those before it
abbrev pub TimedFrom : Universe → Plan → Beginning → (all before rest : List Event) → Type 0
TimedFrom u p b all before [] = Unit {0}
TimedFrom u p b all before (x ∷ xs) =
    IsTimed u p b all before x × TimedFrom u p b all (before ++ x ∷ []) xs

behind : (before : List Event) (x : Event) (rest : List Event)
    → slice_get (before ++ x ∷ rest) (length before) ≡ Some x
behind [] x rest = refl
behind (y ∷ ys) x rest = behind ys x rest

pub timed_from : (u : Universe) (p : Plan) (b : Beginning) (all before rest : List Event) → all ≡ before ++ rest
    → AreTimed u p b all → TimedFrom u p b all before rest
timed_from u p b all before [] is timed = tt
timed_from u p b all before (x ∷ xs) is timed =
    let at : slice_get all (length before) ≡ Some x =
    ap (λ es. slice_get es (length before)) is ∙ behind before x xs in
    let front : take (length before) all ≡ before =
    ap (take (length before)) is ∙ take_at before (x ∷ xs) (length before) refl in (
      subst (λ es. IsTimed u p b all es x) front (timed (length before) x at),
      timed_from u p b all (before ++ x ∷ []) xs (is ∙ sym (append_assoc before (x ∷ []) xs)) timed,
    )

pub timed-in : (u : Universe) (p : Plan) (b : Beginning) (all before mid : List Event) (x : Event)
    (rest : List Event) → TimedFrom u p b all before (mid ++ x ∷ rest)
    → IsTimed u p b all (before ++ mid) x
timed-in u p b all before [] x rest t =
    subst (λ es. IsTimed u p b all es x) (sym (append-nil before)) t.0
timed-in u p b all before (y ∷ ys) x rest t =
    subst (λ es. IsTimed u p b all es x) (append_assoc before (y ∷ []) ys)
    (timed-in u p b all (before ++ y ∷ []) ys x rest t.1)

-- what counts later than whatever begins at a moment gives nothing by then
gives-later : (e : Event) (m : ℕ) → 2 * m + 1 ≤ counts_at e → (e.output ≡ None) ⊎ (m < e.end)
gives-later e m late = by e.output refl
  where
    by : (o : Option Variant) → e.output ≡ o → (e.output ≡ None) ⊎ (m < e.end)
    by None is = inl is
    by (Some v) is =
        let counts : counts_at e ≡ 2 * e.end = ap (λ o. moment_by o e.begin e.end) is in
        inr (omega (arith, late, counts))

pub archive-front : (u : Universe) (b : Beginning) (before rest : List Event) (m : ℕ)
    → Each (λ e. 2 * m + 1 ≤ counts_at e) rest
    → archive_at u b (before ++ rest) m ≡ archive_at u b before m
archive-front u b before [] m late = ap (λ es. archive_at u b es m) (append-nil before)
archive-front u b before (x ∷ xs) m late =
    ap (λ es. archive_at u b es m) (sym (append_assoc before (x ∷ []) xs))
    ∙ (archive-front u b (before ++ x ∷ []) xs m late.1
    ∙ archive_at-more u b before x m (gives-later x m late.0))

-- events of other lanes
abbrev pub NoneOf : ℕ → List Event → Type 0
NoneOf l es = Each (λ e. e.lane ≡ l → ⊥) es

pub free-behind : (first l : ℕ) (before mid : List Event) → NoneOf l mid
    → free_at first l (before ++ mid) ≡ free_at first l before
free-behind first l before [] none = ap (free_at first l) (append-nil before)
free-behind first l before (x ∷ xs) none =
    ap (free_at first l) (sym (append_assoc before (x ∷ []) xs))
    ∙ (free-behind first l (before ++ x ∷ []) xs none.1 ∙ free_other first l before x none.0)

-- the first event of a lane, or none of them is of it
pub data First (l : ℕ) (es : List Event) : Type 0 where
  There : (mid : List Event) (x : Event) (rest : List Event) → es ≡ mid ++ x ∷ rest
      → NoneOf l mid → x.lane ≡ l → First l es
  Nowhere : NoneOf l es → First l es

further : (l : ℕ) (e : Event) (es : List Event) → (e.lane ≡ l → ⊥) → First l es → First l (e ∷ es)
further l e es other (There mid x rest is none here) =
    There (e ∷ mid) x rest (ap (λ xs. e ∷ xs) is) (other, none) here
further l e es other (Nowhere none) = Nowhere (other, none)

pub first-of : (l : ℕ) (es : List Event) → First l es
first-of l [] = Nowhere tt
first-of l (e ∷ es) = elim (cases_eq e.lane l) [
  | inl here ↦ There [] e es refl tt here
  | inr other ↦ further l e es other (first-of l es)
]
