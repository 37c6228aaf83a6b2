-- A plan publishes no more than it has events.
use Rattle.std.proofs.Common.{◌≡◌, ℕ, zero, suc, ◌+◌, ◌<◌, ◌≤◌, true, refl, sym, ap, ◌∙◌, subst, List, [], ◌∷◌, length, drop, Option, Some, None, slice_get, arith}
use Rattle.std.specs.List.{flat_map}
use Rattle.std.proofs.lemmas.Bool.{false≢true}
use Rattle.std.proofs.lemmas.List.{length-append, drop_all}
use Rattle.std.proofs.lemmas.List.Concat.{flat_map-cons}
use Rattle.farm_model.specs.Universe.{Universe}
use Rattle.farm_model.proofs.BelowLaws.{sum_below-mono}
use Rattle.plan_model.specs.Common.{Side, Outside, InFirst, InSecond, side_behind, side_behind_some, side_at, may_stand, IsBranched, Plan, lane, outputs_of, lane_outputs, Ways, ways_ahead, ways, count}
use Rattle.plan_model.specs.declared.instructions.Instruction.{Instruction}
use Rattle.plan_model.specs.declared.instructions.Instruction.TheVariants.{Publish, Wait, When, Otherwise, EndWhen}
use Rattle.plan_reader.proofs.BranchLaws.{drop-some}
use Rattle.farm_archive.specs.Room.{outputs_in}

drop_past : (xs : List Instruction) (k : ℕ) → slice_get xs k ≡ None → drop k xs ≡ []
drop_past [] zero e = refl
drop_past [] (suc k) e = refl
drop_past (y ∷ ys) zero e = cc
drop_past (y ∷ ys) (suc k) e = drop_past ys k e

module _ (u : Universe) where
  abbrev outputs_from : List Instruction → ℕ
  outputs_from xs = length (flat_map (outputs_of u) xs)

  -- the outputs from a place on are among the events of the way from there; in a second branch of
  -- the way from behind its `end`, since a first branch goes on there
  abbrev AreCounted : Side → ℕ → Ways → Type 0
  AreCounted (InSecond w) n ahead = n ≤ ahead.past_end
  AreCounted s n ahead = n ≤ ahead.here

  -- one instruction more, where it may stand
  one : (s : Side) (k : ℕ) (x : Instruction) (n : ℕ) (behind : Ways) → may_stand s x ≡ true
      → AreCounted (side_behind k s x) n behind
      → AreCounted s (length (outputs_of u x) + n) (ways_ahead u x behind)
  one Outside k (When name wanted) n behind ok h = omega (arith, h)
  one Outside k Otherwise n behind ok h = absurd (false≢true ok)
  one Outside k EndWhen n behind ok h = absurd (false≢true ok)
  one Outside k _ n behind ok h = omega (arith, h)
  one (InFirst w) k (Publish r) n behind ok h = absurd (false≢true ok)
  one (InFirst w) k (Wait e) n behind ok h = absurd (false≢true ok)
  one (InFirst w) k (When name wanted) n behind ok h = absurd (false≢true ok)
  one (InFirst w) k EndWhen n behind ok h = absurd (false≢true ok)
  one (InFirst w) k _ n behind ok h = omega (arith, h)
  one (InSecond w) k (Publish r) n behind ok h = absurd (false≢true ok)
  one (InSecond w) k (Wait e) n behind ok h = absurd (false≢true ok)
  one (InSecond w) k (When name wanted) n behind ok h = absurd (false≢true ok)
  one (InSecond w) k Otherwise n behind ok h = absurd (false≢true ok)
  one (InSecond w) k _ n behind ok h = omega (arith, h)

  none : (s : Side) → AreCounted s (outputs_from []) (ways u [])
  none (InSecond w) = omega arith
  none _ = omega arith

  -- the instructions of a lane, from a place on
  module _ (xs : List Instruction) (branched : IsBranched xs) where
    from : (n k : ℕ) → length xs ≤ k + n
        → AreCounted (side_at xs k) (outputs_from (drop k xs)) (ways u (drop k xs))
    from zero k le = rw (drop_all k xs (omega (arith, le))) (none (side_at xs k))
    from (suc n) k le = by (slice_get xs k) refl (from n (suc k) (omega (arith, le)))
      where
        by : (o : Option Instruction) → slice_get xs k ≡ o
            → AreCounted (side_behind_some k (side_at xs k) (slice_get xs k))
            (outputs_from (drop (suc k) xs)) (ways u (drop (suc k) xs))
            → AreCounted (side_at xs k) (outputs_from (drop k xs)) (ways u (drop k xs))
        by None e rest = rw (drop_past xs k e) (none (side_at xs k))
        by (Some x) e rest =
            let behind = drop (suc k) xs in
            let parts : outputs_from (x ∷ behind) ≡ length (outputs_of u x) + outputs_from behind =
            ap length (flat_map-cons (outputs_of u) x behind)
            ∙ length-append (outputs_of u x) (flat_map (outputs_of u) behind) in
            let next = subst (λ o. AreCounted (side_behind_some k (side_at xs k) o)
            (outputs_from behind) (ways u behind)) e rest in
            let here = one (side_at xs k) k x (outputs_from behind) (ways u behind)
            (branched.stands k x e) next in
            rw (drop-some xs k x e)
            (subst (λ m. AreCounted (side_at xs k) m (ways u (x ∷ behind))) (sym parts) here)

    all : outputs_from xs ≤ (ways u xs).here
    all = from (length xs) 0 (omega arith)

  -- the outputs of a plan are among its events
  pub outputs-counted : (p : Plan)
      → ((l : ℕ) → l < length p → IsBranched (lane p l).instructions)
      → outputs_in u p ≤ count u p
  unfolding outputs_in count
  outputs-counted p branched =
      sum_below-mono (length p) (λ l. length (lane_outputs u (lane p l)))
      (λ l. (ways u (lane p l).instructions).here)
      (λ l lt. all (lane p l).instructions (branched l lt))
