-- The archive is the initial variants and what the lanes have made, so it has nothing outside what
-- is possible.
use Rattle.std.proofs.Common.{◌≡◌, ℕ, ◌<◌, Bool, true, ◌||◌, ◌⊎◌, inl, inr, List, length, take, Option, Some, None, slice_get, refl, sym, ap, ◌∙◌, subst, arith, get_or-set_same, get_or-set_other}
use Rattle.std.specs.List.{list_any}
use Rattle.std.proofs.lemmas.Bool.{false≢true, or_cases, or_left, or_right, cases_eq, eq-eqb, ne_eqb}
use Rattle.farm_model.specs.Common.{Universe, same, initial}
use Rattle.farm_model.specs.declared.types.Variant.{Variant}
use Rattle.farm_model.proofs.BelowLaws.{some_below-at}
use Rattle.plan_model.specs.Common.{Plan, lane, instruction_at, outputs_of, LaneState, Publication, archive, State, lane_state, gives, within_reach, possible, publishing}
use Rattle.plan_model.specs.declared.instructions.Instruction.{Instruction}
use Rattle.farm_laws.proofs.Steps.{put, put_output}
use Rattle.farm_laws.proofs.Archive.{list_any-take, list_any-some, archive-push, made_before, made_by}

module _ (u : Universe) (p : Plan) where
  abbrev pub made_in : State → ℕ → Variant → Bool
  made_in s j v = made_by u (lane p j).instructions (lane_state s j).done (lane_state s j).made v

  -- the archive is the initial variants and what the lanes have made
  pub record ArchiveIs (s : State) : Type 0 where
    pub only : (v : Variant) → archive u s.published v ≡ true
        → (initial u v ≡ true) ⊎ ((j : ℕ) × (j < length p) × (made_in s j v ≡ true))
    pub all : (j : ℕ) (v : Variant) → j < length p → made_in s j v ≡ true
        → archive u s.published v ≡ true

  -- what a lane that moves makes of the lanes' outputs
  made_put : (s : State) (l : ℕ) (next : LaneState) (v : Variant) (Q : Bool → Type 0) (j : ℕ)
      → length s.lanes ≡ length p → l < length p
      → (j ≡ l → Q (made_by u (lane p l).instructions next.done next.made v))
      → ((j ≡ l → ⊥) → Q (made_in s j v)) → Q (made_in (put s l next) j v)
  made_put s l next v Q j long h here other =
      elim (cases_eq j l) [
        | inl e ↦ subst (λ k. Q (made_by u (lane p k).instructions
            (lane_state (put s l next) k).done (lane_state (put s l next) k).made v)) (sym e)
            (subst (λ (x : LaneState). Q (made_by u (lane p l).instructions x.done x.made v))
            (sym (get_or-set_same s.lanes l next _ (omega (arith, long)))) (here e))
        | inr ne ↦ subst (λ (x : LaneState). Q (made_by u (lane p j).instructions x.done x.made v))
            (sym (get_or-set_other s.lanes l j next _ ne)) (other ne)
      ]

  pub archive_goes : (s : State) (l : ℕ) (next : LaneState) → length s.lanes ≡ length p
      → l < length p
      → ((v : Variant) → made_by u (lane p l).instructions next.done next.made v ≡ made_in s l v)
      → ArchiveIs s → ArchiveIs (put s l next)
  archive_goes s l next long h same_made a =
      record {
        only = λ v e. elim (a.only v e) [
          | inl i ↦ inl i
          | inr w ↦ inr (
            w.0,
            w.1,
            made_put s l next v (λ b. b ≡ true) w.0 long h
                (λ e. same_made v ∙ ap (λ k. made_in s k v) (sym e) ∙ w.2) (λ ne. w.2),
          )
        ];
        all = λ j v lt e. a.all j v lt
            (made_put s l next v (λ b. b ≡ true → made_in s j v ≡ true) j long h
            (λ same q. ap (λ k. made_in s k v) same ∙ sym (same_made v) ∙ q) (λ ne q. q) e);
      }

  pub archive_gives : (s : State) (l : ℕ) (next : LaneState) (v : Variant)
      → length s.lanes ≡ length p → l < length p
      → ((w : Variant) → made_by u (lane p l).instructions next.done next.made w
      ≡ (made_in s l w || same v w)) → ArchiveIs s → ArchiveIs (put_output s l next v)
  archive_gives s l next v long h more a =
      record {
        only = λ w e. elim (or_cases _ _ (sym (archive-push u s.published l v w) ∙ e)) [
          | inl old ↦ elim (a.only w old) [
            | inl i ↦ inl i
            | inr x ↦ inr (
              x.0,
              x.1,
              made_put s l next w (λ b. b ≡ true) x.0 long h
                  (λ e. more w ∙ or_left _ _ (ap (λ k. made_in s k w) (sym e) ∙ x.2)) (λ ne. x.2),
            )
          ]
          | inr new ↦ inr (
            l,
            h,
            made_put s l next w (λ b. b ≡ true) l long h
                (λ e. more w ∙ or_right _ _ new) (λ ne. absurd (ne refl)),
          )
        ];
        all = λ j w lt e. archive-push u s.published l v w
            ∙ made_put s l next w (λ b. b ≡ true
            → (archive u s.published w || same v w) ≡ true) j long h
            (λ same_lane q. elim (or_cases _ _ (sym (more w) ∙ q)) [
              | inl old ↦
                  or_left _ _ (a.all l w h old)
              | inr new ↦ or_right _ _ new
            ])
            (λ ne q. or_left _ _ (a.all j w lt q)) e;
      }

  within_reach-other : (l i j : ℕ) → (j ≡ l → ⊥) → within_reach p l i j ≡ (lane p j).instructions
  within_reach-other l i j ne = rw (ne_eqb j l ne) refl

  within_reach-own : (l i : ℕ) → within_reach p l i l ≡ take i (lane p l).instructions
  within_reach-own l i = rw (eq-eqb l l refl) refl

  publishing-gives : (v : Variant) (o : Option Instruction) (made : ℕ)
      → publishing u o made v ≡ true → (x : Instruction) × (o ≡ Some x) × (gives u v x ≡ true)
  publishing-gives v None made e = absurd (false≢true e)
  publishing-gives v (Some x) made e =
      (x, refl, list_any-take (λ w. same w v) made (outputs_of u x) e)

  made_by-some : (is : List Instruction) (done made : ℕ) (v : Variant)
      → made_by u is done made v ≡ true → list_any (gives u v) is ≡ true
  unfolding made_before
  made_by-some is done made v e =
      elim (or_cases _ _ e) [
        | inl before ↦ list_any-take (gives u v) done is before
        | inr now ↦ let r = publishing-gives v (slice_get is done) made now in
            list_any-some (gives u v) is done r.0 r.1 r.2
      ]

  -- claim: in the archive is nothing but what is possible at a lane's place, and what it has made
  -- of the publish that it is at
  pub nothing_else : (s : State) (l : ℕ) (v : Variant) → l < length p → ArchiveIs s
      → archive u s.published v ≡ true
      → (possible u p l (lane_state s l).done v ≡ true)
      ⊎ (publishing u (instruction_at p l (lane_state s l).done) (lane_state s l).made v ≡ true)
  unfolding possible made_before
  nothing_else s l v h a e =
      let place = lane_state s l in
      let reach : ℕ → Bool = λ j. list_any (gives u v) (within_reach p l place.done j) in
      elim (a.only v e) [
        | inl i ↦ inl (or_left _ _ i)
        | inr w ↦ elim (cases_eq w.0 l) [
          | inl own ↦ let m : made_in s l v ≡ true = ap (λ k. made_in s k v) (sym own) ∙ w.2 in
              elim (or_cases _ _ m) [
                | inl before ↦ inl (or_right (initial u v) _
                    (some_below-at (length p) reach l h
                    (ap (list_any (gives u v)) (within_reach-own l place.done) ∙ before)))
                | inr now ↦ inr now
              ]
          | inr other ↦ let made = made_by-some (lane p w.0).instructions (lane_state s w.0).done
              (lane_state s w.0).made v w.2 in
              inl (or_right (initial u v) _ (some_below-at (length p) reach w.0 w.1
              (ap (list_any (gives u v)) (within_reach-other l place.done w.0 other) ∙ made)))
        ]
      ]

  -- the initial variants are there
  pub initial_there : (h : List Publication) (v : Variant) → initial u v ≡ true
      → archive u h v ≡ true
  unfolding archive
  initial_there h v e = or_left _ _ e
