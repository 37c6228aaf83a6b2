-- Lanes at their beginning, and the farm of them.
use Rattle.std.proofs.Common.{◌≡◌, ℕ, zero, suc, ◌+◌, ◌<◌, ◌≤◌, inl, inr, List, [], ◌∷◌, ◌++◌, length, map, take, Some, slice_get, refl, sym, ap, ◌∙◌, subst, arith}
use Rattle.std.proofs.lemmas.Bool.{cases_eq}
use Rattle.std.proofs.lemmas.List.{map_push, map_more, length-map, length-take-le, take_all}
use Rattle.std.proofs.lemmas.Option.{none-some, same_Some}
use Rattle.farm_model.specs.Universe.{Universe}
use Rattle.plan_model.specs.Common.{Lane, Plan, lane, no_lane, count, start_lane, start, IsSound}
use Rattle.farm_laws.specs.EventsLeft.{InPlaces, left_in}
use Rattle.farm_laws.proofs.EventsLeft.{places_at_start, left_at_start}
use Rattle.farm_archive.specs.Kept.{Kept, IsArchive}
use Rattle.farm_core.specs.Lanes.{shown, IsRun}
use Rattle.farm_core.specs.Farm.{state_of, published_in, IsCore, AreOpened}
use Rattle.farm_core.specs.declared.lane.LaneRun.{LaneRun}

-- so many lanes are at their beginning
pub record OpenedTo (u : Universe) (p : Plan) (n : ℕ) (lanes : List LaneRun) : Type 0 where
  pub start : map shown lanes ≡ map (start_lane u) (take n p)
  pub each : (l : ℕ) (r : LaneRun) → slice_get lanes l ≡ Some r → IsRun u (lane p l) r
  pub awake : (l : ℕ) (r : LaneRun) → slice_get lanes l ≡ Some r → r.waited ≡ 0

module _ (u : Universe) (p : Plan) where
  pub opened-none : OpenedTo u p 0 []
  opened-none = record {
    start = refl;
    each = λ l r e. absurd (none-some r e);
    awake = λ l r e. absurd (none-some r e);
  }

  long_to : (n : ℕ) (lanes : List LaneRun) → n ≤ length p → OpenedTo u p n lanes
      → length lanes ≡ n
  long_to n lanes le o =
      sym (length-map lanes shown)
      ∙ (ap length o.start ∙ (length-map (take n p) (start_lane u) ∙ length-take-le n p le))

  slice_get-push : (lanes : List LaneRun) (new x : LaneRun) (k : ℕ)
      → slice_get (lanes ++ new ∷ []) k ≡ Some x → (k ≡ length lanes → ⊥)
      → slice_get lanes k ≡ Some x
  slice_get-push [] new x zero e other = absurd (other refl)
  slice_get-push [] new x (suc k) e other = e
  slice_get-push (y ∷ ys) new x zero e other = e
  slice_get-push (y ∷ ys) new x (suc k) e other =
      slice_get-push ys new x k e (λ same. other (ap suc same))

  slice_get-last : (lanes : List LaneRun) (new x : LaneRun)
      → slice_get (lanes ++ new ∷ []) (length lanes) ≡ Some x → new ≡ x
  slice_get-last [] new x e = same_Some new x e
  slice_get-last (y ∷ ys) new x e = slice_get-last ys new x e

  pub opened-more : (n : ℕ) (lanes more : List LaneRun) (new : LaneRun) (of : Lane) → n < length p
      → OpenedTo u p n lanes → of ≡ lane p n → shown new ≡ start_lane u of → IsRun u of new
      → new.waited ≡ 0 → more ≡ lanes ++ new ∷ [] → OpenedTo u p (n + 1) more
  opened-more n lanes more new of lt o is begins ok woke pushed =
      let long = long_to n lanes (omega arith) o in
      subst (OpenedTo u p (n + 1)) (sym pushed) (record {
        start =
            map_push shown lanes new
            ∙ (ap (λ xs. xs ++ shown new ∷ []) o.start
            ∙ (ap (λ st. map (start_lane u) (take n p) ++ st ∷ [])
            (begins ∙ ap (start_lane u) is)
            ∙ sym (map_more (start_lane u) p n no_lane lt)));
        each = λ l r e. elim (cases_eq l (length lanes)) [
          | inl same ↦
              let at : slice_get (lanes ++ new ∷ []) (length lanes) ≡ Some r =
              subst (λ k. slice_get (lanes ++ new ∷ []) k ≡ Some r) same e in
              let here : of ≡ lane p l = is ∙ ap (lane p) (sym (same ∙ long)) in
              subst (IsRun u (lane p l)) (slice_get-last lanes new r at)
              (subst (λ (x : Lane). IsRun u x new) here ok)
          | inr other ↦ o.each l r (slice_get-push lanes new r l e other)
        ];
        awake = λ l r e. elim (cases_eq l (length lanes)) [
          | inl same ↦
              let at : slice_get (lanes ++ new ∷ []) (length lanes) ≡ Some r =
              subst (λ k. slice_get (lanes ++ new ∷ []) k ≡ Some r) same e in
              subst (λ (x : LaneRun). x.waited ≡ 0) (slice_get-last lanes new r at) woke
          | inr other ↦ o.awake l r (slice_get-push lanes new r l e other)
        ];
      })

  pub opened-all : (n : ℕ) (lanes : List LaneRun) → length p ≤ n → OpenedTo u p n lanes
      → AreOpened u p lanes
  opened-all n lanes past o = record {
    start = o.start ∙ ap (map (start_lane u)) (take_all n p past);
    each = o.each;
    awake = o.awake;
  }

  -- the farm of lanes at their beginning and the initial archive
  module _ (lanes : List LaneRun) (kept : Kept) (o : AreOpened u p lanes)
      (has : IsArchive u [] kept) where
    published_none : published_in kept.history ≡ []
    published_none = ap published_in has.history

    pub state_start : state_of lanes kept ≡ start u p
    state_start =
        ap (λ xs. record { lanes = xs; published = published_in kept.history }) o.start
        ∙ ap (λ ps. record { lanes = map (start_lane u) p; published = ps }) published_none

    pub core-opened : IsSound u p → count u p ≤ kept.room → IsCore u p lanes kept
    core-opened sound room = record {
      sound = sound;
      long =
          sym (length-map lanes shown) ∙ (ap length o.start ∙ length-map p (start_lane u));
      each = o.each;
      asleep = λ l r e. record {
        within = omega (arith, o.awake l r e);
        waits = λ same. absurd (omega (arith, o.awake l r e, same));
      };
      archive = subst (λ ps. IsArchive u ps kept) (sym published_none) has;
      places = subst (InPlaces u p) (sym state_start) (places_at_start u p sound);
      room =
          let none = ap length has.history in
          let left = ap (left_in u p) state_start ∙ left_at_start u p sound in
          omega (arith, none, left, room);
    }
