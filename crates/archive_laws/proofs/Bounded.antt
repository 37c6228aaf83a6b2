-- The words that lanes load are within bounds, and records at the beginning.
use Rattle.std.proofs.Common.{◌≡◌, ◌⊎◌, true, ℕ, ◌<◌, length, refl, sym, ap, subst, ◌∙◌, arith}
use Rattle.farm_model.specs.Common.{variant, has_bit, word_has, Universe}
use Rattle.plan_model.specs.Common.{possible, publishing, Plan, lane, instruction_at, IsSound, LaneState}
use Rattle.farm_laws.proofs.Branches.{stand-outside}
use Rattle.farm_laws.proofs.EventsLeft.{fresh_place}
use Rattle.archive_laws.proofs.Foreseen.{worlds_are_foreseen}
use Rattle.archive_laws.specs.Bounds.{IsRecord}
use Rattle.archive_laws.specs.Laws.{LoadsAreInBounds}
use Rattle.archive_laws.specs.Records.{blank}

-- a word that was loaded has what is known, and nothing but what may be there
pub loads_are_in_bounds : LoadsAreInBounds
unfolding has_bit
loads_are_in_bounds u p rows sound annotation l lt st n found h =
    let f = worlds_are_foreseen u p rows sound annotation h.world h.reached in
    record {
      known = λ b k. ap (λ x. word_has x b) (sym h.word)
          ∙ f.known l (variant n b) lt
          (subst (λ (x : LaneState). rows l x.done (variant n b) ≡ true) (sym h.stands) k);
      bounded = λ b e. subst (λ (x : LaneState). (possible u p l x.done (variant n b) ≡ true)
          ⊎ (publishing u (instruction_at p l x.done) x.made (variant n b) ≡ true)) h.stands
          (f.bounded l (variant n b) lt (ap (λ x. word_has x b) h.word ∙ e));
    }

-- what holds of each record holds at the beginning
pub blank_holds : (u : Universe) (p : Plan) → IsSound u p → (l : ℕ) → l < length p
    → IsRecord u p l (blank u (lane p l))
blank_holds u p sound l lt = record {
  in_plan = lt;
  place = fresh_place u p sound l 0 lt
      (stand-outside (lane p l).instructions (sound.plan.branched l lt) 0 refl);
  made = omega arith;
  one = omega arith;
  few = omega arith;
}
