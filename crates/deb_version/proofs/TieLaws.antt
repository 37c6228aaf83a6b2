-- Versions are equal where they mean the same.
use Rattle.std.proofs.Common.{◌≡◌, ℕ, Bool, true, false, List, length, refl, Option, None, Some, unwrap_or, codes, Result, Ok, Err, IsOk, nat_lt, if◌then◌else◌, ◌||◌}
use Rattle.std.specs.declared.cmp.Ordering.TheVariants.{Equal}
use Rattle.std.specs.Option.{option_map_or}
use Rattle.std.specs.Result.{result_unwrap_or}
use Rattle.std.specs.Ordering.{nat_cmp}
use Rattle.std.proofs.lemmas.Bool.{or_parts}
use Rattle.std.proofs.lemmas.Cmp.{tied_itself, nat_cmp_total}
use Rattle.std.proofs.lemmas.Map.Lookups.{exact_unsigned}
use Rattle.deb_text.specs.Cuts.{is_nil}
use Rattle.deb_version.specs.declared.error.TheConstants.{EMPTY_PART, BAD_CHARACTER, EPOCH_TOO_LARGE, TOO_LONG}
use Rattle.deb_version.specs.declared.grammar.TheConstants.{MAX_LENGTH, MAX_EPOCH}
use Rattle.deb_version.specs.Grammar.{Pieces, pieces_of, parts_with, has_empty_piece, has_bad_byte, epoch_number, version_at, parts_at}
use Rattle.deb_version.specs.Laws.{MeanSame, TiesMeanSame}
use Rattle.deb_version.specs.Order.{Parts, part_cmp, revision_of, version_cmp}
use Rattle.deb_version.specs.OrderLaws.{equal_parts}
use Rattle.deb_version.proofs.MeaningLaws.{part-same, part_cmp-same}

-- the upstream and the revision of a version are not empty
abbrev AreFull : Parts → Type 0
AreFull parts = (is_nil parts.upstream ≡ false) × (is_nil (revision_of parts) ≡ false)

revision-full : (revision : Option (List ℕ)) → option_map_or is_nil revision false ≡ false
    → is_nil (unwrap_or revision (codes "0")) ≡ false
revision-full None e = refl
revision-full (Some bytes) e = e

pieces-full : (pieces : Pieces) → has_empty_piece pieces ≡ false
    → AreFull (parts_with (epoch_number pieces) pieces)
pieces-full pieces e =
    let no_epoch = option_map_or is_nil pieces.epoch false in
    let no_revision = option_map_or is_nil pieces.revision false in
    let both = or_parts (is_nil pieces.upstream || no_epoch) no_revision e in
    ((or_parts (is_nil pieces.upstream) no_epoch both.0).0, revision-full pieces.revision both.1)

abbrev judged : Bool → Bool → Bool → Bool → Parts → Result Parts ℕ
judged long empty bad large parts =
    if long then Err TOO_LONG
    else (if empty then Err EMPTY_PART
    else (if bad then Err BAD_CHARACTER
    else (if large then Err EPOCH_TOO_LARGE
    else Ok parts)))

judged-full : (long empty bad large : Bool) (parts other : Parts) → (empty ≡ false → AreFull parts)
    → IsOk (judged long empty bad large parts)
    → AreFull (result_unwrap_or (judged long empty bad large parts) other)
judged-full true empty bad large parts other full ok = absurd cc
judged-full false true bad large parts other full ok = absurd cc
judged-full false false true large parts other full ok = absurd cc
judged-full false false false true parts other full ok = absurd cc
judged-full false false false false parts other full ok = full refl

version-full : (text : List ℕ) → IsOk (version_at text) → AreFull (parts_at text)
unfolding version_at
version-full text ok =
    let pieces = pieces_of text in
    judged-full (nat_lt MAX_LENGTH (length text)) (has_empty_piece pieces) (has_bad_byte pieces)
    (nat_lt MAX_EPOCH (epoch_number pieces)) (parts_with (epoch_number pieces) pieces) _
    (pieces-full pieces) ok

version-same : (v w : Parts) → AreFull v → AreFull w → version_cmp v w ≡ Equal → MeanSame v w
unfolding version_cmp
version-same v w full_v full_w e =
    let epochs = equal_parts (nat_cmp v.epoch w.epoch) _ e in
    let parts = equal_parts (part_cmp v.upstream w.upstream) _ epochs.1 in
    record {
      epoch = exact_unsigned _ _ epochs.0;
      upstream = part-same v.upstream w.upstream full_v.0 full_w.0 parts.0;
      revision = part-same (revision_of v) (revision_of w) full_v.1 full_w.1 parts.1;
    }

version_cmp-same : (v w : Parts) → MeanSame v w → version_cmp v w ≡ Equal
unfolding version_cmp
version_cmp-same v w same =
    let upstream = part_cmp-same v.upstream w.upstream same.upstream in
    let revision = part_cmp-same (revision_of v) (revision_of w) same.revision in
    rw (same.epoch, upstream, revision) (rw (tied_itself nat_cmp_total w.epoch) refl)

pub ties_mean_same : TiesMeanSame
ties_mean_same a b ok_a ok_b = (
  λ e. version-same (parts_at a) (parts_at b) (version-full a ok_a) (version-full b ok_b) e,
  λ same. version_cmp-same (parts_at a) (parts_at b) same,
)
