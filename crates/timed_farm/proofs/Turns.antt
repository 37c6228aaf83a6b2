-- What the core has published, and lanes that it does not have.
use Rattle.std.proofs.Common.{◌≡◌, ℕ, zero, suc, List, [], ◌∷◌, Some, None, length, slice_get, get_or, ◌<◌, ◌≤◌, refl, sym, ap, ◌∙◌, subst, arith}
use Rattle.std.proofs.lemmas.Option.{slice_get_read}
use Rattle.std.specs.Option.{option_map}
use Rattle.farm_model.specs.Universe.{Universe}
use Rattle.plan_model.specs.Common.{Plan, State, step}
use Rattle.plan_model.specs.Run as run
use Rattle.farm_archive.specs.Kept.{numbered}
use Rattle.farm_archive.specs.declared.publication.Publication.{Publication}
use Rattle.farm_core.proofs.Views.{unknown}

-- a lane that the plan does not have does not move
pub no_lane : (u : Universe) (p read : Plan) (s : State) (l : ℕ) → read ≡ p → length read ≤ l
    → (next : State) → step u p s l ≡ run.Moved next → ⊥
no_lane u p read s l is past next moves =
    let none : step u p s l ≡ run.Unknown =
    unknown u p s l (subst (λ q. length q ≤ l) is past) in cc

-- as many publications with serials as without
pub numbered-long : (k : ℕ) (qs : List run.Publication) → length (numbered k qs) ≡ length qs
numbered-long k [] = refl
numbered-long k (q ∷ qs) = ap suc (numbered-long (suc k) qs)

-- and the same variants
pub numbered-at : (k : ℕ) (qs : List run.Publication) (i : ℕ)
    → option_map (λ (x : Publication). x.variant) (slice_get (numbered k qs) i)
    ≡ option_map (λ (x : run.Publication). x.variant) (slice_get qs i)
numbered-at k [] i = refl
numbered-at k (q ∷ qs) zero = refl
numbered-at k (q ∷ qs) (suc i) = numbered-at (suc k) qs i

-- the variant of the publication at a place of the core's history
pub output-some : (history : List Publication) (published : List run.Publication) (i : ℕ)
    (q : Publication) → history ≡ numbered 0 published → i < length history
    → q ≡ get_or history i q
    → Some q.variant
    ≡ option_map (λ (x : run.Publication). x.variant) (slice_get published i)
output-some history published i q is lt at =
    let here : slice_get history i ≡ Some q =
    slice_get_read history (length history) i q refl lt at in
    sym (ap (option_map (λ (x : Publication). x.variant)) here)
    ∙ (ap (λ qs. option_map (λ (x : Publication). x.variant) (slice_get qs i)) is
    ∙ numbered-at 0 published i)

past : (qs : List run.Publication) (i : ℕ) → length qs ≤ i
    → None ≡ option_map (λ (x : run.Publication). x.variant) (slice_get qs i)
past [] i le = refl
past (q ∷ qs) zero le = absurd (omega (arith, le))
past (q ∷ qs) (suc i) le = past qs i (omega (arith, le))

-- none past its end
pub output-none : (history : List Publication) (published : List run.Publication) (i : ℕ)
    → history ≡ numbered 0 published → length history ≤ i
    → None ≡ option_map (λ (x : run.Publication). x.variant) (slice_get published i)
output-none history published i is le =
    let long : length history ≡ length published =
    ap length is ∙ numbered-long 0 published in past published i (omega (arith, le, long))
