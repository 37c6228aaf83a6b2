-- What a lane spends is within its cost, and its cost within its budget; no schedule meets a trap.
use Rattle.std.proofs.Common.{◌≡◌, ℕ, zero, suc, ◌<◌, ◌≤◌, Bool, true, ◌⊎◌, inl, inr, List, [], ◌∷◌, length, Option, Some, None, refl, ap, subst, arith}
use Rattle.std.proofs.lemmas.Option.{slice_get_past}
use Rattle.std.proofs.lemmas.Bool.{false≢true, cases_lt}
use Rattle.deb_relation.specs.declared.operator.Op.{Op}
use Rattle.farm_model.specs.Universe.{Universe}
use Rattle.farm_model.specs.declared.types.Variant.{Variant}
use Rattle.farm_model.proofs.TrapLaws.{within-limit}
use Rattle.plan_model.specs.Common.{Side, Outside, InFirst, InSecond, side_behind, side_behind_some, side_at, may_stand, IsBranched, Lane, Plan, lane, instruction_at, LaneState, newest, State, Outcome, Moved, Blocked, Finished, Unknown, Trapped, step, play_on, play, possible, Rows, KeepsRows, IsSound, May, unpack_risk, risk, may_unpack, may_after, Maps, maps_behind, maps_behind_some, maps_at, may_at, IsSafeUnder}
use Rattle.plan_model.specs.declared.instructions.Instruction.{Instruction}
use Rattle.plan_model.specs.declared.instructions.Instruction.TheVariants.{Unpack, Configure, Deconfigure, Remove, Build, Publish, Wait, When, Otherwise, EndWhen}
use Rattle.farm_laws.specs.Agrees.{place_paid, Agrees}
use Rattle.farm_laws.proofs.Whole.{safe_at, Holds, holds_step, never_trapped}

cost_unpack : (u : Universe) (there : Variant → Bool) (of : Lane) (m : May) (name : ℕ)
    (wanted : Option (Op × List ℕ)) (o : Option ℕ) → m.cost ≤ of.budget
    → unpack_risk u there of m name wanted o ≡ None
    → (may_unpack u there m name wanted o).cost ≤ of.budget
cost_unpack u there of m name wanted None low e = low
cost_unpack u there of m name wanted (Some h) low e = within-limit _ _ _ _ e

-- safe rows: what a lane may spend is within its budget
cost_after : (u : Universe) (p : Plan) (rows : Rows) (l i : ℕ) (x : Instruction)
    → (may_at u p rows l i).cost ≤ (lane p l).budget
    → risk u (lane p l) (rows l i) (possible u p l i) (may_at u p rows l i) x ≡ None
    → (may_after u (rows l i) (possible u p l i) (may_at u p rows l i) x).cost
    ≤ (lane p l).budget
cost_after u p rows l i (Unpack name wanted) low safe =
    cost_unpack u (possible u p l i) (lane p l) (may_at u p rows l i) name wanted
    (newest u (rows l i) name wanted) low safe
cost_after u p rows l i (Configure members) low safe = within-limit _ _ _ _ safe
cost_after u p rows l i (Deconfigure members) low safe = within-limit _ _ _ _ safe
cost_after u p rows l i (Remove members) low safe = within-limit _ _ _ _ safe
cost_after u p rows l i (Build r) low safe = within-limit _ _ _ _ safe
cost_after u p rows l i (Publish r) low safe = within-limit _ _ _ _ safe
cost_after u p rows l i _ low safe = low

-- so are the costs of all maps of a place
record AreWithin (m : Maps) (budget : ℕ) : Type 0 where
  here : m.here.cost ≤ budget
  ahead : m.ahead.cost ≤ budget
  first : m.first.cost ≤ budget

maps_within : (u : Universe) (p : Plan) (rows : Rows) (l i : ℕ) (x : Instruction)
    → risk u (lane p l) (rows l i) (possible u p l i) (may_at u p rows l i) x ≡ None
    → AreWithin (maps_at u p rows l i) (lane p l).budget
    → AreWithin (maps_behind u (rows l i) (possible u p l i) (maps_at u p rows l i) x)
    (lane p l).budget
maps_within u p rows l i (When name wanted) safe m =
    record { here = m.here; ahead = m.here; first = m.first }
maps_within u p rows l i Otherwise safe m =
    record { here = m.ahead; ahead = m.ahead; first = m.here }
maps_within u p rows l i EndWhen safe m =
    record {
      here = omega (arith, m.first, m.here);
      ahead = m.ahead;
      first = m.first;
    }
maps_within u p rows l i (Unpack name wanted) safe m =
    let low = cost_after u p rows l i (Unpack name wanted) m.here safe in
    record { here = low; ahead = m.ahead; first = m.first }
maps_within u p rows l i (Configure members) safe m =
    let low = cost_after u p rows l i (Configure members) m.here safe in
    record { here = low; ahead = m.ahead; first = m.first }
maps_within u p rows l i (Deconfigure members) safe m =
    let low = cost_after u p rows l i (Deconfigure members) m.here safe in
    record { here = low; ahead = m.ahead; first = m.first }
maps_within u p rows l i (Remove members) safe m =
    let low = cost_after u p rows l i (Remove members) m.here safe in
    record { here = low; ahead = m.ahead; first = m.first }
maps_within u p rows l i (Build r) safe m =
    let low = cost_after u p rows l i (Build r) m.here safe in
    record { here = low; ahead = m.ahead; first = m.first }
maps_within u p rows l i (Publish r) safe m =
    let low = cost_after u p rows l i (Publish r) m.here safe in
    record { here = low; ahead = m.ahead; first = m.first }
maps_within u p rows l i (Wait e) safe m =
    record { here = m.here; ahead = m.ahead; first = m.first }

all_within : (u : Universe) (p : Plan) (rows : Rows) → IsSafeUnder u p rows → (l i : ℕ)
    → l < length p → AreWithin (maps_at u p rows l i) (lane p l).budget
all_within u p rows safe l zero h =
    record { here = omega arith; ahead = omega arith; first = omega arith }
all_within u p rows safe l (suc i) h =
    by (instruction_at p l i) refl (all_within u p rows safe l i h)
  where
    by : (o : Option Instruction) → instruction_at p l i ≡ o
        → AreWithin (maps_at u p rows l i) (lane p l).budget
        → AreWithin (maps_behind_some u (rows l i) (possible u p l i) (maps_at u p rows l i)
        (instruction_at p l i)) (lane p l).budget
    by None e low = rw e low
    by (Some x) e low = rw e (maps_within u p rows l i x (safe_at u p rows safe l i x h e) low)

pub cost_within : (u : Universe) (p : Plan) (rows : Rows) → IsSafeUnder u p rows → (l i : ℕ)
    → l < length p → (may_at u p rows l i).cost ≤ (lane p l).budget
cost_within u p rows safe l i h = (all_within u p rows safe l i h).here

-- a schedule of an annotated plan meets no trap
module _ (u : Universe) (p : Plan) (rows : Rows) (sound : IsSound u p) (keeps : KeepsRows u p rows)
    (safe : IsSafeUnder u p rows) where
  pub play_safe : (schedule : List ℕ) (k : ℕ) (s : State) → Holds u p rows sound keeps safe s
      → (play u p k s schedule).stop ≡ None
  play_safe [] k s h = refl
  play_safe (l ∷ schedule) k s h = by (step u p s l) refl (λ m g. play_safe schedule (suc k) m g)
    where
      by : (o : Outcome) → step u p s l ≡ o
          → ((m : State) → Holds u p rows sound keeps safe m
          → (play u p (suc k) m schedule).stop ≡ None)
          → (play_on k s l (step u p s l) (λ m. play u p (suc k) m schedule)).stop ≡ None
      by (Moved m) e ih = rw e (ih m (holds_step u p rows sound keeps safe s m l h e))
      by Blocked e ih = rw e (ih s h)
      by Finished e ih = rw e (ih s h)
      by Unknown e ih = rw e (ih s h)
      by (Trapped t) e ih = absurd (never_trapped u p rows sound keeps safe s h l t e)

-- an instruction costs nothing or something
cost_grows : (u : Universe) (known there : Variant → Bool) (m : May) (x : Instruction)
    → m.cost ≤ (may_after u known there m x).cost
cost_grows u known there m (Unpack name wanted) = by (newest u known name wanted)
  where
    by : (o : Option ℕ) → m.cost ≤ (may_unpack u there m name wanted o).cost
    by None = omega arith
    by (Some h) = omega arith
cost_grows u known there m _ = omega arith

module _ (u : Universe) (p : Plan) (rows : Rows) (l : ℕ)
    (branched : IsBranched (lane p l).instructions) where
  abbrev is : List Instruction
  is = (lane p l).instructions

  abbrev maps : ℕ → Maps
  maps i = maps_at u p rows l i

  abbrev cost_at : ℕ → ℕ
  cost_at i = (may_at u p rows l i).cost

  -- what may be spent at some place is within what may be spent at a later one, or at the end of
  -- the first branch of the open `when`
  abbrev IsCounted : ℕ → Side → Maps → Type 0
  IsCounted c (InSecond w) m = (c ≤ m.first.cost) ⊎ (c ≤ m.here.cost)
  IsCounted c _ m = c ≤ m.here.cost

  at_once : (s : Side) (m : Maps) → IsCounted m.here.cost s m
  at_once Outside m = omega arith
  at_once (InFirst w) m = omega arith
  at_once (InSecond w) m = inr (omega arith)

  grown : (c k : ℕ) (s : Side) (known there : Variant → Bool) (m : Maps) (x : Instruction)
      → may_stand s x ≡ true → IsCounted c s m
      → IsCounted c (side_behind k s x) (maps_behind u known there m x)
  grown c k Outside known there m (When name wanted) a h = h
  grown c k Outside known there m Otherwise a h = absurd (false≢true a)
  grown c k Outside known there m EndWhen a h = absurd (false≢true a)
  grown c k Outside known there m (Unpack name wanted) a h =
      let more = cost_grows u known there m.here (Unpack name wanted) in omega (arith, h, more)
  grown c k Outside known there m _ a h = omega (arith, h)
  grown c k (InFirst w) known there m (When name wanted) a h = absurd (false≢true a)
  grown c k (InFirst w) known there m EndWhen a h = absurd (false≢true a)
  grown c k (InFirst w) known there m Otherwise a h = inl h
  grown c k (InFirst w) known there m (Unpack name wanted) a h =
      let more = cost_grows u known there m.here (Unpack name wanted) in omega (arith, h, more)
  grown c k (InFirst w) known there m _ a h = omega (arith, h)
  grown c k (InSecond w) known there m (When name wanted) a h = absurd (false≢true a)
  grown c k (InSecond w) known there m Otherwise a h = absurd (false≢true a)
  grown c k (InSecond w) known there m EndWhen a h =
      elim h [
        | inl first ↦ omega (arith, first)
        | inr here ↦ omega (arith, here)
      ]
  grown c k (InSecond w) known there m (Unpack name wanted) a h =
      let more = cost_grows u known there m.here (Unpack name wanted) in
      elim h [
        | inl first ↦ inl first
        | inr here ↦ inr (omega (arith, here, more))
      ]
  grown c k (InSecond w) known there m (Configure members) a h =
      elim h [ inl first ↦ inl first | inr here ↦ inr (omega (arith, here)) ]
  grown c k (InSecond w) known there m (Deconfigure members) a h =
      elim h [ inl first ↦ inl first | inr here ↦ inr (omega (arith, here)) ]
  grown c k (InSecond w) known there m (Remove members) a h =
      elim h [ inl first ↦ inl first | inr here ↦ inr (omega (arith, here)) ]
  grown c k (InSecond w) known there m (Build r) a h =
      elim h [ inl first ↦ inl first | inr here ↦ inr (omega (arith, here)) ]
  grown c k (InSecond w) known there m (Publish r) a h =
      elim h [ inl first ↦ inl first | inr here ↦ inr (omega (arith, here)) ]
  grown c k (InSecond w) known there m (Wait e) a h = h

  counted_behind : (c k : ℕ) (o : Option Instruction) → instruction_at p l k ≡ o
      → IsCounted c (side_at is k) (maps k)
      → IsCounted c (side_behind_some k (side_at is k) o)
      (maps_behind_some u (rows l k) (possible u p l k) (maps k) o)
  counted_behind c k None e h = h
  counted_behind c k (Some x) e h =
      grown c k (side_at is k) (rows l k) (possible u p l k) (maps k) x (branched.stands k x e) h

  counted : (i j : ℕ) → i ≤ j → IsCounted (cost_at i) (side_at is j) (maps j)
  counted i zero le =
      let same : zero ≡ i = omega (arith, le) in
      subst (λ k. IsCounted (cost_at k) (side_at is zero) (maps zero)) same
      (at_once (side_at is zero) (maps zero))
  counted i (suc k) le =
      elim (cases_lt k i) [
        | inl gt ↦ let same : suc k ≡ i = omega (arith, le, gt) in
            subst (λ j. IsCounted (cost_at j) (side_at is (suc k)) (maps (suc k))) same
            (at_once (side_at is (suc k)) (maps (suc k)))
        | inr before ↦ counted_behind (cost_at i) k (instruction_at p l k) refl (counted i k before)
      ]

  cost_past : (i : ℕ) → length is ≤ i → cost_at (suc i) ≡ cost_at i
  cost_past i h = ap (λ o. (maps_behind_some u (rows l i) (possible u p l i) (maps i) o).here.cost)
      (slice_get_past is i h)

  -- at its end a lane may have spent what it may at any place
  pub cost_end : (i : ℕ) → cost_at i ≤ cost_at (length is)
  cost_end i =
      elim (cases_lt (length is) i) [
        | inl gt ↦ past i (omega (arith, gt))
        | inr le ↦ subst (λ s. IsCounted (cost_at i) s (maps (length is))) branched.closed
            (counted i (length is) le)
      ]
    where
      past : (k : ℕ) → length is < k → cost_at k ≤ cost_at (length is)
      past zero b = omega (arith, b)
      past (suc k) b =
          elim (cases_lt (length is) k) [
            | inl more ↦ omega (arith, cost_past k (omega (arith, b)), past k more)
            | inr end ↦ let same : k ≡ length is = omega (arith, b, end) in
                let low = cost_past k (omega (arith, b)) in
                let here = ap cost_at same in omega (arith, low, here)
          ]

-- a lane has spent at most the map's cost at its end
pub spent_within : (u : Universe) (p : Plan) (rows : Rows) (l : ℕ)
    → IsBranched (lane p l).instructions → (st : LaneState)
    → Agrees u p rows l st → st.spent ≤ (may_at u p rows l (length (lane p l).instructions)).cost
spent_within u p rows l branched st a =
    omega (arith, a.spent, cost_end u p rows l branched (place_paid st.done st.made))
