-- The disk space taken, when a slot changes.
use Rattle.std.proofs.Common.{◌≡◌, ℕ, zero, suc, ◌+◌, ◌*◌, ◌<◌, ◌≤◌, ap, length, length-set, get_or-set_same, get_or-set_other, arith}
use Rattle.std.specs.Prelude.{slice_set}
use Rattle.farm_model.specs.Common.{sum_below, Universe, names, Chroot, slot, size_in, used}
use Rattle.farm_model.specs.declared.types.Slot.{Slot}
use Rattle.farm_model.specs.declared.types.Slot.TheVariants.{Absent, Unpacked, Configured}
use Rattle.farm_model.proofs.BelowLaws.{sum_below-change, sum_below-few}
use Rattle.farm_universe.proofs.SizeLaws.{size_small}
use Rattle.farm_universe.specs.Kept.{IsKept}
use Rattle.farm_universe.specs.declared.limits.TheConstants.{MOST_NAMES, MOST_SIZE}
use Rattle.chroot_state.specs.Slots.{IsKnownSlot, AreSlots}

-- a slot is changed: what it took is given back, and what it takes is added
pub used-put : (u : Universe) (c : Chroot) (n : ℕ) (s : Slot) → n < length c
    → used u (slice_set c n s) + size_in u n (slot c n) ≡ used u c + size_in u n s
unfolding used
used-put u c n s lt =
    let f : ℕ → ℕ = λ k. size_in u k (slot (slice_set c n s) k) in
    let g : ℕ → ℕ = λ k. size_in u k (slot c k) in
    let long : sum_below (length (slice_set c n s)) f ≡ sum_below (length c) f =
    ap (λ k. sum_below k f) (length-set c n s) in
    let change : sum_below (length c) f + g n ≡ sum_below (length c) g + f n =
    sum_below-change (length c) n f g lt
    (λ k b ne. ap (size_in u k) (get_or-set_other c n k s Absent ne)) in
    let here : f n ≡ size_in u n s = ap (size_in u n) (get_or-set_same c n s Absent lt) in
    omega (arith, long, change, here)

-- what a slot takes is part of the whole
pub size-within : (u : Universe) (c : Chroot) (n : ℕ) → n < length c
    → size_in u n (slot c n) ≤ used u c
size-within u c n lt = let e = used-put u c n Absent lt in omega (arith, e)

slot-small : (u : Universe) (n : ℕ) (s : Slot) → IsKept u → IsKnownSlot u n s
    → size_in u n s ≤ MOST_SIZE
slot-small u n Absent kept known = omega arith
slot-small u n (Unpacked b last) kept known = size_small u n b kept known.0
slot-small u n (Configured b) kept known = size_small u n b kept known

-- a chroot takes no more than its names can
pub used-small : (u : Universe) (c : Chroot) → IsKept u → AreSlots u c
    → used u c ≤ MOST_NAMES * MOST_SIZE
unfolding used names
used-small u c kept slots =
    let sum =
    sum_below-few MOST_SIZE (length c) (λ n. size_in u n (slot c n))
    (λ n. slot-small u n (slot c n) kept (slots.known n)) in
    let few : length c ≤ MOST_NAMES = omega
    (arith, slots.long, kept.few_names, kept.sound.listed) in
    omega (arith, sum, few)
