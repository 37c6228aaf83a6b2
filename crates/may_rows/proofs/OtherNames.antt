-- Tests of variants of other names alone.
use Rattle.std.proofs.Common.{◌≡◌, ℕ, Bool, true, false, not, ◌&&◌, ◌==◌, refl}
use Rattle.farm_model.specs.Common.{Universe, variant, names, variants}
use Rattle.farm_model.specs.declared.types.Variant.{Variant}
use Rattle.farm_model.proofs.BelowLaws.{some_below-same, some_below-none}
use Rattle.plan_model.specs.May.{Bits, MaySlot, MayAbsent, MayUnpacked, MayConfigured, May, some_of, some_name, may_hold, may_hold_configured}
use Rattle.sat_rows.specs.Rows.{of_another_name}

none_of : (u : Universe) (n : ℕ) (current : Bits) → some_of u n current (λ b. false) ≡ false
none_of u n current =
    some_below-none (variants u n) (λ b. current b && false) (λ b lt. no_more (current b))
  where
    no_more : (t : Bool) → (t && false) ≡ false
    no_more true = refl
    no_more false = refl

hold_other : (u : Universe) (n : ℕ) (other : Bool) (q : Bits) (s : MaySlot)
    → may_hold u n (λ b. other && q b) s ≡ (other && may_hold u n q s)
hold_other u n true q MayAbsent = refl
hold_other u n true q (MayUnpacked current last) = refl
hold_other u n true q (MayConfigured current) = refl
hold_other u n false q MayAbsent = refl
hold_other u n false q (MayUnpacked current last) = none_of u n current
hold_other u n false q (MayConfigured current) = none_of u n current

configured_other : (u : Universe) (n : ℕ) (other : Bool) (q : Bits) (s : MaySlot)
    → may_hold_configured u n (λ b. other && q b) s ≡ (other && may_hold_configured u n q s)
configured_other u n true q MayAbsent = refl
configured_other u n true q (MayUnpacked current last) = refl
configured_other u n true q (MayConfigured current) = refl
configured_other u n false q MayAbsent = refl
configured_other u n false q (MayUnpacked current last) = refl
configured_other u n false q (MayConfigured current) = none_of u n current

module _ (u : Universe) (m : May) (v : Variant) (q : Variant → Bool) where
  pub may_hold-other : some_name u m
      (λ n s. may_hold u n (λ b. of_another_name v q (variant n b)) s)
      ≡ some_name u m (λ n s. not (n == v.name) && may_hold u n (λ b. q (variant n b)) s)
  may_hold-other =
      some_below-same (names u) _ _
      (λ n lt. hold_other u n (not (n == v.name)) (λ b. q (variant n b)) (m.slots n))

  pub may_hold_configured-other : some_name u m
      (λ n s. may_hold_configured u n (λ b. of_another_name v q (variant n b)) s)
      ≡ some_name u m
      (λ n s. not (n == v.name) && may_hold_configured u n (λ b. q (variant n b)) s)
  may_hold_configured-other =
      some_below-same (names u) _ _
      (λ n lt. configured_other u n (not (n == v.name)) (λ b. q (variant n b)) (m.slots n))
