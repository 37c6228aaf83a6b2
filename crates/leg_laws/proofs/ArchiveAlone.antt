-- A turn looks at the known variants of the archive alone.
use Rattle.std.proofs.Common.{◌≡◌, ℕ, zero, suc, ◌<◌, Bool, ◌&&◌, List, Option, Some, None, refl, ap, ◌∙◌, arith, if◌then◌else◌}
use Rattle.deb_relation.specs.declared.operator.Op.{Op}
use Rattle.deb_relation.specs.Common.{Entry}
use Rattle.farm_model.specs.declared.types.Variant.{Variant}
use Rattle.farm_model.specs.Common.{highest_below, Universe, variant, names, variants, is_wanted, satisfies_entry, IsKnown}
use Rattle.farm_model.proofs.BelowLaws.{some_below-same}
use Rattle.plan_model.specs.declared.instructions.Instruction.{Instruction}
use Rattle.plan_model.specs.declared.instructions.Instruction.TheVariants.{Unpack, Wait, When}
use Rattle.plan_model.specs.Common.{Lane, LaneState, passes, Goes, Waits, past, past_when, unpacks, turn_of, wait_cost, newest, has_wanted}
use Rattle.leg_laws.specs.Laws.{ArchiveAlone}

highest_below-same : (n : ℕ) (p q : ℕ → Bool) → ((k : ℕ) → k < n → p k ≡ q k)
    → highest_below n p ≡ highest_below n q
highest_below-same zero p q h = refl
highest_below-same (suc n) p q h =
    let now = h n (omega arith) in
    let rest = highest_below-same n p q (λ k lt. h k (omega (arith, lt))) in
    ap (λ b. if b then Some n else highest_below n p) now
    ∙ ap (λ o. if q n then Some n else o) rest

module _ (w : Universe) (there other : Variant → Bool)
    (same_known : (x : Variant) → IsKnown w x → there x ≡ other x) where
  newest-same : (name : ℕ) (wanted : Option (Op × List ℕ))
      → newest w there name wanted ≡ newest w other name wanted
  unfolding newest
  newest-same name wanted =
      highest_below-same (variants w name) _ _ (λ b lt.
      ap (λ t. t && is_wanted w wanted (variant name b)) (same_known (variant name b) lt))

  wanted-same : (name : ℕ) (wanted : Option (Op × List ℕ))
      → has_wanted w there name wanted ≡ has_wanted w other name wanted
  unfolding has_wanted
  wanted-same name wanted =
      some_below-same (variants w name) _ _ (λ b lt.
      ap (λ t. t && is_wanted w wanted (variant name b)) (same_known (variant name b) lt))

  passes-same : (e : Entry) → passes w there e ≡ passes w other e
  passes-same e =
      some_below-same (names w) _ _ (λ n in_names. some_below-same (variants w n) _ _ (λ b lt.
      ap (λ t. t && satisfies_entry w e (variant n b)) (same_known (variant n b) lt)))

  turn-same : (of : Lane) (st : LaneState) (next : Option Instruction)
      → turn_of w there of st next ≡ turn_of w other of st next
  turn-same of st (Some (Unpack name wanted)) =
      ap (unpacks w of st name) (newest-same name wanted)
  turn-same of st (Some (Wait e)) =
      ap (λ b. if b then Goes (past of st wait_cost st.chroot) else Waits) (passes-same e)
  turn-same of st (Some (When name wanted)) =
      ap (λ holds. Goes (past_when of st holds)) (wanted-same name wanted)
  turn-same of st (Some _) = refl
  turn-same of st None = refl

pub archive_alone : ArchiveAlone
archive_alone w of st there other same_known next = turn-same w there other same_known of st next
