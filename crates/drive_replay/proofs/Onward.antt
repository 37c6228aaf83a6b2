-- Two states of one plan that only turns apart from the archive have parted, and their turns.
use Rattle.std.proofs.Common.{◌≡◌, ℕ, zero, suc, ◌<◌, inl, inr, Bool, true, false, List, [], ◌∷◌, ◌++◌, length, refl, sym, ap, subst, ◌∙◌, arith, length-set, get_or-set_same, get_or-set_other}
use Rattle.std.proofs.lemmas.Bool.{cases_eq}
use Rattle.drive_replay.proofs.Quiet.{IsQuiet, Leads, comes, led, leads_on, one_end, quiet_turn}
use Rattle.drive_replay.specs.Orders.{comes_to_archive}
use Rattle.farm_laws.proofs.EventsLeft.{put_each}
use Rattle.farm_laws.proofs.Steps.{After, put, put_output, step_keeps, turn_at}
use Rattle.farm_model.specs.Universe.{Universe}
use Rattle.farm_model.specs.declared.types.Variant.{Variant}
use Rattle.plan_model.specs.Common.{Plan, lane, instruction_at, Publication, State, Moved, archive, lane_state, publication, step, LaneState, Turn, Goes, Gives, Waits, Ends, Fails, turn_of}

module _ (u : Universe) (p : Plan) where
  -- from one state of the lane such turns lead to both
  abbrev pub Meets : ℕ → LaneState → LaneState → Type 0
  Meets l x y = (a : LaneState) × (n : ℕ) × (m : ℕ) × Leads u p l n a x × Leads u p l m a y

  pub swap_meets : (l : ℕ) (x y : LaneState) → Meets l x y → Meets l y x
  swap_meets l x y is = (is.0, is.2, is.1, is.4, is.3)

  pub record Same (s t : State) : Type 0 where
    pub long : (length s.lanes ≡ length p) × (length t.lanes ≡ length p)
    pub published : s.published ≡ t.published
    pub lanes : (l : ℕ) → l < length p → Meets l (lane_state s l) (lane_state t l)

  pub swap : (s t : State) → Same s t → Same t s
  swap s t is = record {
    long = (is.long.1, is.long.0);
    published = sym is.published;
    lanes = λ l lt. swap_meets l (lane_state s l) (lane_state t l) (is.lanes l lt);
  }

  quiet_put : (s t : State) (l : ℕ) (next : LaneState) → l < length p → Same s t
      → comes_to_archive p s l ≡ false → next ≡ led u p l (lane_state s l) → Same (put s l next) t
  quiet_put s t l next lt is off e = record {
    long = (length-set s.lanes l next ∙ is.long.0, is.long.1);
    published = is.published;
    lanes =
        put_each p (λ k x. Meets k x (lane_state t k)) s l next is.long.0 lt is.lanes
        (let old = is.lanes l lt in (
          old.0,
          suc old.1,
          old.2,
          subst (Leads u p l (suc old.1) old.0) (sym e)
              (leads_on u p l old.1 old.0 (lane_state s l) old.3 off),
          old.4,
        ));
  }

  quiet_after : (s t : State) (l : ℕ) (turn : Turn) → l < length p → Same s t
      → comes_to_archive p s l ≡ false → IsQuiet (led u p l (lane_state s l)) turn
      → After (λ m. Same m t) s l turn
  quiet_after s t l (Goes next) lt is off e = quiet_put s t l next lt is off e
  quiet_after s t l (Gives next v) lt is off e = absurd e
  quiet_after s t l Waits lt is off e = tt
  quiet_after s t l Ends lt is off e = tt
  quiet_after s t l (Fails trap) lt is off e = tt

  quiet_at : (s : State) (l : ℕ) → comes_to_archive p s l ≡ false
      → IsQuiet (led u p l (lane_state s l)) (turn_at u p s l)
  unfolding turn_at
  quiet_at s l off =
      quiet_turn u (archive u s.published) (lane p l) (lane_state s l)
      (instruction_at p l (lane_state s l).done) off

  -- a turn apart from the archive keeps them so
  pub quiet_step : (s t m : State) (l : ℕ) → Same s t → comes_to_archive p s l ≡ false
      → step u p s l ≡ Moved m → Same m t
  quiet_step s t m l is off moved =
      step_keeps u p (λ x. Same x t) s m l moved
      (λ lt. quiet_after s t l (turn_at u p s l) lt is off (quiet_at s l off))

  -- ---- at the archive

  pub record Both (l : ℕ) (x y : State) : Type 0 where
    pub same : Same x y
    pub behind : lane_state x l ≡ lane_state y l

  put_both : (s t : State) (l : ℕ) (next : LaneState) (a b : List Publication) → l < length p
      → Same s t → a ≡ b
      → Both l (record { lanes = (put s l next).lanes; published = a })
      (record { lanes = (put t l next).lanes; published = b })
  put_both s t l next a b lt is e =
      let one : lane_state (put s l next) l ≡ next =
      get_or-set_same s.lanes l next _ (omega (arith, is.long.0, lt)) in
      let other : lane_state (put t l next) l ≡ next =
      get_or-set_same t.lanes l next _ (omega (arith, is.long.1, lt)) in
      record {
        same =
            record {
              long =
                  (length-set s.lanes l next ∙ is.long.0, length-set t.lanes l next ∙ is.long.1);
              published = e;
              lanes =
                  λ k less. elim (cases_eq k l) [
                    | inl here ↦ subst (λ i. Meets i (lane_state (put s l next) i)
                        (lane_state (put t l next) i)) (sym here)
                        (next, 0, 0, sym one, sym other)
                    | inr apart ↦ subst (λ x. Meets k x (lane_state (put t l next) k))
                        (sym (get_or-set_other s.lanes l k next _ apart))
                        (subst (Meets k (lane_state s k))
                        (sym (get_or-set_other t.lanes l k next _ apart)) (is.lanes k less))
                  ];
            };
        behind = one ∙ sym other;
      }

  second_after : (t x : State) (l : ℕ) (turn : Turn) → turn ≡ turn_at u p t l
      → After (Both l x) t l turn → (m : State) → step u p t l ≡ Moved m → Both l x m
  second_after t x l turn e keeps m moved =
      step_keeps u p (Both l x) t m l moved (λ lt. subst (After (Both l x) t l) e keeps)

  first_after : (s t : State) (l : ℕ) (turn : Turn) → l < length p → Same s t
      → turn ≡ turn_at u p t l
      → After (λ x. (m : State) → step u p t l ≡ Moved m → Both l x m) s l turn
  first_after s t l (Goes next) lt is e =
      second_after t (put s l next) l (Goes next) e
      (put_both s t l next s.published t.published lt is is.published)
  first_after s t l (Gives next v) lt is e =
      second_after t (put_output s l next v) l (Gives next v) e
      (put_both s t l next _ _ lt is (ap (λ (q : List Publication). q ++ publication l v ∷ [])
      is.published))
  first_after s t l Waits lt is e = tt
  first_after s t l Ends lt is e = tt
  first_after s t l (Fails trap) lt is e = tt

  turns_same : (s t : State) (l : ℕ) → Same s t → lane_state s l ≡ lane_state t l
      → turn_at u p s l ≡ turn_at u p t l
  unfolding turn_at
  turns_same s t l is here =
      ap (λ (q : List Publication). turn_of u (archive u q) (lane p l) (lane_state s l)
      (instruction_at p l (lane_state s l).done)) is.published
      ∙ ap (λ (st : LaneState). turn_of u (archive u t.published) (lane p l) st
      (instruction_at p l st.done)) here

  stand_same : (s t : State) (l : ℕ) → l < length p → Same s t → comes_to_archive p s l ≡ true
      → comes_to_archive p t l ≡ true → lane_state s l ≡ lane_state t l
  stand_same s t l lt is on there =
      let old = is.lanes l lt in
      one_end u p l old.1 old.2 old.0 (lane_state s l) (lane_state t l) old.3 old.4 on there

  -- where the same lane comes to the archive in both, it is left in one state
  pub event_step : (s t x y : State) (l : ℕ) → Same s t → comes_to_archive p s l ≡ true
      → comes_to_archive p t l ≡ true → step u p s l ≡ Moved x → step u p t l ≡ Moved y
      → Both l x y
  event_step s t x y l is on there moved too =
      step_keeps u p (λ z. (m : State) → step u p t l ≡ Moved m → Both l z m) s x l moved
      (λ lt. first_after s t l (turn_at u p s l) lt is
      (turns_same s t l is (stand_same s t l lt is on there))) y too
