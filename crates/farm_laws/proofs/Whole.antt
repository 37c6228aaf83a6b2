-- The induction over a run: what holds of each state that is reached.
use Rattle.std.proofs.Common.{◌≡◌, ◌≢◌, ℕ, ◌<◌, ◌≤◌, Bool, true, false, ◌==◌, inl, inr, List, [], ◌∷◌, length, Option, Some, None, refl, sym, ap, ◌∙◌, subst, arith, zero-add, All}
use Rattle.std.specs.Prelude.{nat_lt}
use Rattle.std.specs.List.{find}
use Rattle.std.proofs.lemmas.Option.{none-some, same_Some}
use Rattle.std.proofs.lemmas.Bool.{cond-true, cond-false, cases_lt, cases_Bool, lt-ltb, le-ltb, eqb-true, eq-eqb}
use Rattle.std.proofs.lemmas.List.{get_or_past}
use Rattle.std.proofs.lemmas.List.Elements.{All-head, All-tail}
use Rattle.std.proofs.lemmas.List.FromFn.{get_or-map-range_with_len, length-map-range_with_len}
use Rattle.farm_model.specs.Common.{Universe, names, variants, base, slot, base_slot, base_chroot}
use Rattle.farm_model.specs.declared.types.Variant.{Variant}
use Rattle.farm_model.specs.declared.types.Trap.{Trap}
use Rattle.farm_model.specs.declared.types.Slot.{Slot}
use Rattle.farm_model.specs.declared.types.Slot.TheVariants.{Absent}
use Rattle.plan_model.specs.Common.{Plan, lane, instruction_at, Turn, Goes, Gives, Waits, Ends, Fails, turn_of, archive, State, start, lane_state, Moved, Unknown, Trapped, outcome, step, Run, possible, Rows, KeepsRows, IsSound, Allows, allows_absent, allows_configured, AllowsAll, risk, may_at, may_base, may_base_slot, risk_of, risk_at, hazard_of, hazard_at, IsSafeUnder}
use Rattle.plan_model.specs.declared.instructions.Instruction.{Instruction}
use Rattle.farm_laws.proofs.Steps.{turn_at, After, step_keeps, run_keeps}
use Rattle.farm_laws.proofs.EventsLeft.{put_each, state_at_start}
use Rattle.farm_laws.proofs.Archive.{publishing-zero}
use Rattle.farm_laws.proofs.KnownRows.{ArchiveHolds, possible_at_zero, archive_stays, archive_at_start}
use Rattle.farm_laws.specs.Agrees.{Agrees, AgreesAfter}
use Rattle.farm_laws.proofs.Safe.{variants_name, Joins, turn_agrees}

find_some : {X : Type 0} (p : X → Bool) (P : X → Type 0) (xs : List X) (x : X) → All P xs
    → find p xs ≡ Some x → (p x ≡ true) × P x
find_some p P [] x all e = absurd (none-some x e)
find_some p P (y ∷ ys) x all e =
    elim (cases_Bool (p y)) [
      | inl here ↦ let same : y ≡ x =
          same_Some y x (sym (cond-true (p y) (Some y) (find p ys) here) ∙ e) in
          (subst (λ z. p z ≡ true) same here, subst P same (All-head P y ys all))
      | inr other ↦ find_some p P ys x (All-tail P y ys all)
          (sym (cond-false (p y) (Some y) (find p ys) other) ∙ e)
    ]

-- without a hazard there is neither a trap nor a branch that parts
no_risk : (o : Option Trap) (part : Bool) → hazard_of o part ≡ None → o ≡ None
no_risk None part e = refl
no_risk (Some t) part e = cc

no_part : (o : Option Trap) (part : Bool) → hazard_of o part ≡ None → part ≡ false
no_part None false e = refl
no_part None true e = cc
no_part (Some t) part e = cc

pub joins_at : (u : Universe) (p : Plan) (rows : Rows) → IsSafeUnder u p rows → (l : ℕ)
    → l < length p → Joins u p rows l
unfolding hazard_at
joins_at u p rows safe l h i = no_part (risk_at u p rows l i) _ (safe l i h)

pub safe_at : (u : Universe) (p : Plan) (rows : Rows) → IsSafeUnder u p rows
    → (l i : ℕ) (x : Instruction) → l < length p → instruction_at p l i ≡ Some x
    → risk u (lane p l) (rows l i) (possible u p l i) (may_at u p rows l i) x ≡ None
unfolding risk_at hazard_at
safe_at u p rows safe l i x h e =
    ap (risk_of u p rows l i) (sym e) ∙ no_risk (risk_at u p rows l i) _ (safe l i h)

module _ (u : Universe) (p : Plan) (rows : Rows) (sound : IsSound u p) (keeps : KeepsRows u p rows)
    (safe : IsSafeUnder u p rows) where
  -- what holds of each reachable state
  pub record Holds (s : State) : Type 0 where
    pub archive_holds : ArchiveHolds u p rows keeps s
    pub agrees : (l : ℕ) → l < length p → Agrees u p rows l (lane_state s l)

  pub state_agrees : (s : State) (l : ℕ) → l < length p → Holds s
      → AgreesAfter u p rows l (turn_at u p s l)
  unfolding turn_at
  state_agrees s l h hs = by_instruction (instruction_at p l (lane_state s l).done) refl
    where
      by_instruction : (o : Option Instruction) → instruction_at p l (lane_state s l).done ≡ o
          → AgreesAfter u p rows l (turn_of u (archive u s.published) (lane p l) (lane_state s l)
          (instruction_at p l (lane_state s l).done))
      by_instruction None e = rw e tt
      by_instruction (Some x) e =
          rw e
          (turn_agrees u p rows l (lane_state s l) (archive u s.published)
          (sound.plan.branched l h) (joins_at u p rows safe l h) (hs.agrees l h) x e
          (rw e at (hs.archive_holds.places.each l h))
          (λ v k. (hs.archive_holds.rows_there.knows l h).0 v k)
          (λ z v k. possible_at_zero u p rows keeps s l v h hs.archive_holds.archive_is
          (λ w. rw z (publishing-zero u _ w)) k)
          (safe_at u p rows safe l (lane_state s l).done x h e))

  agrees_put : (s : State) (l : ℕ) (m : Turn) → l < length p → Holds s → AgreesAfter u p rows l m
      → After (λ t. (k : ℕ) → k < length p → Agrees u p rows k (lane_state t k)) s l m
  agrees_put s l (Goes next) h hs a =
      put_each p (Agrees u p rows) s l next hs.archive_holds.places.long h hs.agrees a
  agrees_put s l (Gives next v) h hs a =
      put_each p (Agrees u p rows) s l next hs.archive_holds.places.long h hs.agrees a
  agrees_put s l Waits h hs a = tt
  agrees_put s l Ends h hs a = tt
  agrees_put s l (Fails t) h hs a = tt

  pub holds_step : (s t : State) (l : ℕ) → Holds s → step u p s l ≡ Moved t → Holds t
  holds_step s t l hs e =
      record {
        archive_holds = archive_stays u p rows keeps sound s t l hs.archive_holds e;
        agrees = step_keeps u p (λ t. (k : ℕ) → k < length p
            → Agrees u p rows k (lane_state t k)) s t l e
            (λ h. agrees_put s l (turn_at u p s l) h hs (state_agrees s l h hs));
      }

  -- what is found among the packages of a lane's base is a known variant of the name
  in_base : (l n : ℕ) (v : Variant)
      → find (λ v. v.name == n) (base u (lane p l).base).packages ≡ Some v → v.bit < variants u n
  in_base l n v e =
      let r = find_some (λ v. v.name == n) (λ v. v.bit < variants u v.name)
      (base u (lane p l).base).packages v (sound.universe.bases_known (lane p l).base) e in
      subst (λ k. v.bit < variants u k) (eqb-true v.name n r.0) r.1

  base_allows : (l n : ℕ) (o : Option Variant)
      → find (λ v. v.name == n) (base u (lane p l).base).packages ≡ o
      → Allows (variants u n) (may_base_slot o) (base_slot o)
  base_allows l n None e = allows_absent
  base_allows l n (Some v) e = allows_configured (in_base l n v e) (eq-eqb v.bit v.bit refl)

  base_past : (l n : ℕ) → names u ≤ n → (o : Option Variant)
      → find (λ v. v.name == n) (base u (lane p l).base).packages ≡ o
      → Allows (variants u n) (may_base_slot o) Absent
  base_past l n ge None e = allows_absent
  base_past l n ge (Some v) e = let lt = variants_name u n v.bit (in_base l n v e) in
      absurd (omega (arith, lt))

  base_agrees : (l : ℕ) → AllowsAll u (may_base u (lane p l)) (base_chroot u (lane p l).base)
  unfolding base_chroot
  base_agrees l =
      let at : ℕ → Slot = λ k. base_slot
      (find (λ (v : Variant). v.name == k) (base u (lane p l).base).packages) in
      record {
        long = length-map-range_with_len _ 0 (names u);
        each = λ n. elim (cases_lt n (names u)) [
          | inl lt ↦ rw (get_or-map-range_with_len at 0 (names u) n n Absent lt (zero-add n))
              (base_allows l n _ refl)
          | inr ge ↦ let off : slot (base_chroot u (lane p l).base) n ≡ Absent =
              get_or_past _ n Absent (omega (arith, length-map-range_with_len at 0 (names u))) in
              rw off (base_past l n ge _ refl)
        ];
      }

  pub holds_at_start : Holds (start u p)
  holds_at_start =
      record {
        archive_holds = archive_at_start u p rows keeps sound;
        agrees = λ l h. rw (state_at_start u p sound l h)
            (record {
              allows = base_agrees l;
              spent = omega arith;
              long = omega arith;
              built = λ r e. e;
            });
      }

  pub holds_after : (ls : List ℕ) (s : State) → Run u p (start u p) ls s → Holds s
  holds_after ls s r = run_keeps u p Holds (λ s t l hs e. holds_step s t l hs e) ls
      (start u p) s r holds_at_start

  fails : (s : State) (l : ℕ) (t : Trap) (m : Turn) → AgreesAfter u p rows l m
      → outcome s l m ≡ Trapped t → ⊥
  fails s l t (Goes next) a e = cc
  fails s l t (Gives next v) a e = cc
  fails s l t Waits a e = cc
  fails s l t Ends a e = cc
  fails s l t (Fails t') a e = a

  pub never_trapped : (s : State) → Holds s → (l : ℕ) (t : Trap) → step u p s l ≢ Trapped t
  unfolding step turn_at
  never_trapped s hs l t e =
      elim (cases_lt l (length p)) [
        | inl lt ↦ fails s l t (turn_at u p s l) (state_agrees s l lt hs)
            (sym (cond-true (nat_lt l (length p)) _ Unknown (lt-ltb l (length p) lt)) ∙ e)
        | inr ge ↦ let c : Unknown ≡ Trapped t =
            sym (cond-false (nat_lt l (length p)) (outcome s l (turn_at u p s l)) Unknown
            (le-ltb l (length p) ge)) ∙ e in absurd (unknown t c)
      ]
    where
      unknown : (t : Trap) → Unknown ≡ Trapped t → ⊥
      unknown t e = cc
