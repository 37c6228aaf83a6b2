-- What came of all lanes, from what came of each; and the lanes before they start.
use Rattle.std.proofs.Common.{◌≡◌, ◌⊎◌, inl, inr, ℕ, zero, suc, ◌<◌, Bool, true, List, [], ◌∷◌, length, map, Some, slice_get, sym, ap, subst, ◌∙◌, arith}
use Rattle.std.proofs.lemmas.List.{length-map}
use Rattle.std.proofs.lemmas.Option.{same_Some}
use Rattle.atomic_table.specs.Seated.{TableId}
use Rattle.chroot_state.specs.Held.{Held, opened}
use Rattle.archive_laws.specs.Records.{Record, blank}
use Rattle.lane_runner.specs.Calls.{IsSameEnd}
use Rattle.lane_runner.specs.declared.run.LaneStop.{LaneStop}
use Rattle.plan_model.specs.Plan.{lane}
use Rattle.plan_verifier.specs.Accepted.{AcceptedPlan}
use Rattle.word_archive.specs.Seats.{LaneSeatOf, LaneSeatsOf}
use Rattle.farm_executor.specs.declared.causes.TheConstants.{NOT_STARTED}
use Rattle.farm_executor.specs.LaneEnds.{AreRising, IsEndOf, IsReady}
use Rattle.farm_executor.specs.Played.{HasRun, WereRun}
use Rattle.farm_executor.specs.Seated.{IsJobOf, IsSeatOf}
use Rattle.farm_executor.proofs.GivenBack.{at_mapped}

module _ {X : Type 0} (stop : X → LaneStop) (chroot : X → Held) (spent : X → ℕ)
    (told : X → Record) (ends : List X) (a : AcceptedPlan) (gives_up : Type 0)
    (long : length ends ≡ length a.plan)
    (each : (l : ℕ) (x : X) → slice_get ends l ≡ Some x
    → HasRun a gives_up l (stop x) (chroot x) (spent x) (told x))
    (stopped : Bool)
    (halted : stopped ≡ true
    → (l : ℕ) × (x : X) × (slice_get ends l ≡ Some x) × ((stop x).code ≡ NOT_STARTED)) where
  place_in : {B : Type 0} (f : X → B) (l : ℕ) (x : X) → slice_get ends l ≡ Some x
      → slice_get (map f ends) l ≡ Some (f x)
  place_in f = at ends
    where
      at : (xs : List X) (l : ℕ) (x : X) → slice_get xs l ≡ Some x
          → slice_get (map f xs) l ≡ Some (f x)
      at [] l x e = absurd (cc)
      at (y ∷ ys) zero x e = ap (λ z. Some (f z)) (same_Some y x e)
      at (y ∷ ys) (suc l) x e = at ys l x e

  each_run : (l : ℕ) (e : LaneStop) (c : Held) (n : ℕ) (r : Record)
      → slice_get (map stop ends) l ≡ Some e → slice_get (map chroot ends) l ≡ Some c
      → slice_get (map spent ends) l ≡ Some n → slice_get (map told ends) l ≡ Some r
      → HasRun a gives_up l e c n r
  each_run l e c n r at_e at_c at_n at_r =
      let x = at_mapped stop ends l e at_e in
      let here = x.1 in
      let is_c = same_Some (chroot x.0) c (sym (place_in chroot l x.0 here) ∙ at_c) in
      let is_n = same_Some (spent x.0) n (sym (place_in spent l x.0 here) ∙ at_n) in
      let is_r = same_Some (told x.0) r (sym (place_in told l x.0 here) ∙ at_r) in
      subst (λ (m : LaneStop × Held × ℕ × Record). HasRun a gives_up l m.0 m.1 m.2 m.3)
      (λ i. (x.2 i, is_c i, is_n i, is_r i)) (each l x.0 here)

  pub were_run : WereRun a gives_up (map stop ends) (map chroot ends) (map spent ends) stopped
      (map told ends)
  were_run = record {
    long = length-map ends stop ∙ long;
    chroots_long = length-map ends chroot ∙ long;
    spent_long = length-map ends spent ∙ long;
    each = each_run;
    halted = λ is. let h = halted is in (h.0, stop h.1, place_in stop h.0 h.1 h.2, h.3);
  }

-- a lane that has its base chroot and its seat may be started
pub job_ready : (t : TableId) (a : AcceptedPlan) (l number : ℕ) (c : Held) (q : LaneSeatOf)
    → l < length a.plan → IsJobOf t a l number c q → IsReady a number q.about q.lane c q.log
job_ready t a l number c q lt j =
    let at = j.seated.number_is in
    let seat = j.seated.seat_is in
    let told = ap (λ (s : LaneSeatOf). s.log) seat in
    record {
      in_plan = omega (arith, lt, at);
      about_is = ap (λ (s : LaneSeatOf). s.about) seat;
      lane_is = ap (λ (s : LaneSeatOf). s.lane) seat ∙ sym at;
      chroot = j.seated.chroot_is ∙ ap (λ k. opened a.universe (lane a.plan k).base) (sym at);
      held = j.held;
      fresh = record {
        at = ap (λ (r : Record). r.at) told
            ∙ ap (λ k. (blank a.universe (lane a.plan k)).at) (sym at);
        undrawn = ap (λ (r : Record). r.serials) told;
        unhalted = ap (λ (r : Record). r.halted) told;
        unseen = ap (λ (r : Record). r.saw) told;
      };
    }

-- its end is of the same table, plan and lane
pub end_seat : (t : TableId) (a : AcceptedPlan) (l number : ℕ) (c : Held) (q r : LaneSeatOf)
    → IsJobOf t a l number c q → IsSameEnd q.table q.about q.lane r.table r.about r.lane
    → IsSeatOf t a l r
end_seat t a l number c q r j same =
    let seat = j.seated.seat_is in
    let table = same.home_is ∙ ap (λ (s : LaneSeatOf). s.table) seat in
    let about = same.about_is ∙ ap (λ (s : LaneSeatOf). s.about) seat in
    let of = same.lane_is ∙ ap (λ (s : LaneSeatOf). s.lane) seat in
    λ i. record { table = table i; about = about i; lane = of i; log = r.log }

-- and what came of it is what came of that lane
pub end_run : (t : TableId) (a : AcceptedPlan) (gives_up : Type 0) (l number : ℕ) (c d : Held)
    (q : LaneSeatOf) (r : Record) (stop : LaneStop) (spent : ℕ) → IsJobOf t a l number c q
    → IsEndOf q.about gives_up number c q.log d r stop spent → AreRising r.serials
    → HasRun a gives_up l stop d spent r
end_run t a gives_up l number c d q r stop spent j e rising = record {
  base = c;
  first = q.log;
  end = subst (λ (m : AcceptedPlan × ℕ). IsEndOf m.0 gives_up m.1 c q.log d r stop spent)
      (λ i. (ap (λ (s : LaneSeatOf). s.about) j.seated.seat_is i, j.seated.number_is i)) e;
  rising = rising;
}

-- the base seat's halt leaves table and plan
module _ (old new : LaneSeatsOf) (base : (new ≡ old) ⊎ (new ≡ record old { stopped = true })) where
  pub base_table : new.table ≡ old.table
  base_table =
      elim base [
        | inl same ↦ ap (λ (s : LaneSeatsOf). s.table) same
        | inr halted ↦ ap (λ (s : LaneSeatsOf). s.table) halted
      ]

  pub base_about : new.about ≡ old.about
  base_about =
      elim base [
        | inl same ↦ ap (λ (s : LaneSeatsOf). s.about) same
        | inr halted ↦ ap (λ (s : LaneSeatsOf). s.about) halted
      ]
