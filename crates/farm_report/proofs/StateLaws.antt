-- Names, versions and slots, as a state tells them.
use Rattle.std.proofs.Common.{◌≡◌, ℕ, List, [], refl, option_map, Some, None}
use Rattle.std.specs.List.{flat_map, range_with_len}
use Rattle.chroot_state.specs.Held.{Held}
use Rattle.chroot_state.specs.Slots.{bit_of, phase_of}
use Rattle.farm_archive.specs.declared.publication.Publication.{Publication}
use Rattle.farm_model.specs.Common.{slot, names, variant, Universe}
use Rattle.farm_model.specs.declared.types.Variant.{Variant}
use Rattle.farm_model.specs.declared.types.Slot.{Slot}
use Rattle.farm_model.specs.declared.types.Slot.TheVariants.{Absent, Unpacked, Configured}
use Rattle.plan_model.specs.Plan.{Plan}
use Rattle.farm_report.specs.StateText.{published_text, present_variant_text, held_text, lane_lines}

-- nothing is told of what is absent
pub absent_is : (u : Universe) (n : ℕ) (s : Slot) → option_map (variant n) (bit_of s) ≡ None
    → [] ≡ held_text u n s
absent_is u n Absent is = refl
absent_is u n (Unpacked b last) is = cc
absent_is u n (Configured b) is = cc

-- and of what is present its variant and phase
pub present_is : (u : Universe) (n : ℕ) (s : Slot) (v : Variant)
    → option_map (variant n) (bit_of s) ≡ Some v
    → present_variant_text u v (phase_of s) ≡ held_text u n s
present_is u n Absent v is = cc
present_is u n (Unpacked b last) v is =
    let same : v ≡ variant n b = cc in
    rw same refl
present_is u n (Configured b) v is =
    let same : v ≡ variant n b = cc in
    rw same refl

-- what a chroot holds
abbrev pub chroot_text : Universe → Held → List ℕ
chroot_text u h = flat_map (λ n. held_text u n (slot h.slots n)) (range_with_len 0 (names u))

-- the lines of a lane whose parts are these
pub lane_is : (u v : Universe) (n m : List ℕ) (d e s t : ℕ) (h k : Held) → u ≡ v → n ≡ m → d ≡ e
    → s ≡ t → h ≡ k → lane_lines u n d s h.slots ≡ lane_lines v m e t k.slots
lane_is u v n m d e s t h k uv nm de st hk =
    λ i. lane_lines (uv i) (nm i) (de i) (st i) (hk i).slots

-- what is read past the last publication
abbrev pub no_publication : Publication
no_publication = record { serial = 0; lane = 0; variant = variant 0 0 }

pub publications_are : (u v : Universe) (p q : Plan) (h k : List Publication) → u ≡ v → p ≡ q → h
    ≡ k
    → flat_map (published_text u p) h ≡ flat_map (published_text v q) k
publications_are u v p q h k uv pq hk = λ i. flat_map (published_text (uv i) (pq i)) (hk i)
