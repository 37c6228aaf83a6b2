-- The archive from the beginning of a farm that goes on.
use Rattle.std.proofs.Common.{◌≡◌, ℕ, Bool, true, ◌||◌, List, ap, ◌∙◌}
use Rattle.std.proofs.Math.Bool.{or-false}
use Rattle.std.proofs.lemmas.Bool.{or_left}
use Rattle.farm_model.specs.declared.types.Variant.{Variant}
use Rattle.farm_model.specs.Common.{Universe, some_below, variant, names, variants, initial, some_variant, IsKnown}
use Rattle.farm_model.proofs.BelowLaws.{some_below-at}
use Rattle.plan_model.specs.Common.{Plan, Turn, Goes, Gives, Waits, Ends, Fails, State, Moved, step, archive}
use Rattle.farm_laws.proofs.Archive.{archive-push}
use Rattle.farm_laws.proofs.Safe.{variants_name}
use Rattle.farm_laws.proofs.Steps.{After, turn_at, step_keeps, run_keeps}
use Rattle.leg_laws.specs.Named.{Item, is_published}
use Rattle.leg_laws.specs.Continuation.{IsContinuation}
use Rattle.leg_laws.specs.Laws.{EndsMeet, StaysThere, ArchiveIsLeft}

-- some variant passes, where this one does
pub some_variant-at : (u : Universe) (test : Variant → Bool) (v : Variant) → IsKnown u v
    → test v ≡ true → some_variant u test ≡ true
some_variant-at u test v known e =
    some_below-at (names u) (λ n. some_below (variants u n) (λ b. test (variant n b))) v.name
    (variants_name u v.name v.bit known)
    (some_below-at (variants u v.name) (λ b. test (variant v.name b)) v.bit known e)

pub ends_meet : EndsMeet
unfolding archive
ends_meet u s brought gone w q continues x known =
    or-false (initial w x) ∙ continues.exact x known

pub archive_is_left : (u : Universe) (s : State) (brought gone : List Item) (w : Universe)
    → IsContinuation u s brought gone w → (t : State) → ArchiveIsLeft u s brought gone w t
unfolding archive
archive_is_left u s brought gone w continues t x known =
    ap (λ b. b || is_published t x) (continues.exact x known)

module _ (w : Universe) (q : Plan) (x : Variant) where
  abbrev Has : State → Type 0
  Has t = archive w t.published x ≡ true

  after_turn : (s : State) (l : ℕ) → Has s → (turn : Turn) → After Has s l turn
  after_turn s l h (Goes next) = h
  after_turn s l h (Gives next v) = archive-push w s.published l v x ∙ or_left _ _ h
  after_turn s l h Waits = tt
  after_turn s l h Ends = tt
  after_turn s l h (Fails trap) = tt

  after_step : (s m : State) (l : ℕ) → Has s → step w q s l ≡ Moved m → Has m
  after_step s m l h e = step_keeps w q Has s m l e (λ lt. after_turn s l h (turn_at w q s l))

pub stays_there : StaysThere
stays_there w q s t schedule run x h =
    run_keeps w q (Has w q x) (λ a b l. after_step w q x a b l) schedule s t run h
