-- What one step changes, and what follows over whole runs.
use Rattle.std.proofs.Common.{◌≡◌, ℕ, ◌<◌, inl, inr, List, [], ◌∷◌, ◌++◌, length, slice_set, sym, ◌∙◌, subst}
use Rattle.std.specs.Prelude.{nat_lt}
use Rattle.std.proofs.lemmas.Bool.{cond-true, cond-false, cases_lt, lt-ltb, le-ltb}
use Rattle.farm_model.specs.Universe.{Universe}
use Rattle.farm_model.specs.declared.types.Variant.{Variant}
use Rattle.plan_model.specs.Common.{Plan, lane, instruction_at, LaneState, Turn, Goes, Gives, Waits, Ends, Fails, turn_of, publication, archive, State, lane_state, Moved, Unknown, outcome, step, Run}

-- the two ways in which a state changes
abbrev pub put : State → ℕ → LaneState → State
put s l next = record { lanes = slice_set s.lanes l next; published = s.published }

abbrev pub put_output : State → ℕ → LaneState → Variant → State
put_output s l next v = record {
  lanes = slice_set s.lanes l next;
  published =
      s.published ++ publication l v ∷ [];
}

-- what lane l does in this state
unfoldable pub turn_at : Universe → Plan → State → ℕ → Turn
turn_at u p s l = turn_of u (archive u s.published) (lane p l) (lane_state s l)
    (instruction_at p l (lane_state s l).done)

-- what a fact about states asks of a turn
abbrev pub After : (State → Type 0) → State → ℕ → Turn → Type 0
After P s l (Goes next) = P (put s l next)
After P s l (Gives next v) = P (put_output s l next v)
After P s l Waits = Unit {0}
After P s l Ends = Unit {0}
After P s l (Fails t) = Unit {0}

outcome_keeps : (P : State → Type 0) (s m : State) (l : ℕ) (turn : Turn)
    → outcome s l turn ≡ Moved m → After P s l turn → P m
outcome_keeps P s m l (Goes next) e h = let same : put s l next ≡ m = cc in subst P same h
outcome_keeps P s m l (Gives next v) e h = let same : put_output s l next v ≡ m = cc in
    subst P same h
outcome_keeps P s m l Waits e h = cc
outcome_keeps P s m l Ends e h = cc
outcome_keeps P s m l (Fails t) e h = cc

not_moved : (m : State) → Unknown ≡ Moved m → ⊥
not_moved m e = cc

-- a step that moves is a turn of a lane of the plan
pub step_keeps : (u : Universe) (p : Plan) (P : State → Type 0) (s m : State) (l : ℕ)
    → step u p s l ≡ Moved m → (l < length p → After P s l (turn_at u p s l)) → P m
unfolding step turn_at
step_keeps u p P s m l e h =
    elim (cases_lt l (length p)) [
      | inl lt ↦ outcome_keeps P s m l (turn_at u p s l)
          (sym (cond-true (nat_lt l (length p)) _ Unknown (lt-ltb l (length p) lt)) ∙ e) (h lt)
      | inr ge ↦ let c : Unknown ≡ Moved m =
          sym (cond-false (nat_lt l (length p)) (outcome s l (turn_at u p s l)) Unknown
          (le-ltb l (length p) ge)) ∙ e in absurd (not_moved m c)
    ]

-- an invariant of the steps holds after a run
pub run_keeps : (u : Universe) (p : Plan) (P : State → Type 0)
    → ((s m : State) (l : ℕ) → P s → step u p s l ≡ Moved m → P m) → (ls : List ℕ) (s t : State)
    → Run u p s ls t → P s → P t
run_keeps u p P h [] s t r b = subst P r b
run_keeps u p P h (l ∷ ls) s t r b = run_keeps u p P h ls r.0 t r.2 (h s r.0 l b r.1)
