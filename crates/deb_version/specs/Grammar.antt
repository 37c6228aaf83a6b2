-- The version that a text spells, or why it spells none, by Debian Policy 5.6.12:
-- "[epoch:]upstream_version[-debian_revision]".
--
--   pieces_of text     the text, cut at its first colon and its last hyphen
--   parts_of pieces    the parts that the pieces spell, or the first fault
--   version_at text    the same of a text
--   text_cmp           the order of texts that are versions
use Rattle.std.specs.Prelude.{ℕ, Bool, false, not, ◌==◌, ◌||◌, ◌&&◌, nat_lt, List, [], length, if◌then◌else◌, Option, Some, None, Result, Ok, Err}
use Rattle.std.specs.Char.{is_ascii_alphanumeric}
use Rattle.std.specs.List.{list_any, list_all}
use Rattle.std.specs.Option.{option_map_or, is_some}
use Rattle.std.specs.Result.{result_unwrap_or}
use Rattle.std.specs.declared.cmp.Ordering.{Ordering}
use Rattle.std.specs.Ordering.{on}
use Rattle.deb_text.specs.Common.{is_byte, is_digit, is_nil, before, after, before_last, after_last, number}
use Rattle.deb_version.specs.declared.grammar.TheConstants.{MAX_LENGTH, MAX_EPOCH}
use Rattle.deb_version.specs.declared.error.TheConstants.{EMPTY_PART, BAD_CHARACTER, EPOCH_TOO_LARGE, TOO_LONG}
use Rattle.deb_version.specs.Order.{Parts, version_cmp}

pub record Pieces : Type 0 where
  pub epoch : Option (List ℕ)
  pub upstream : List ℕ
  pub revision : Option (List ℕ)

abbrev pub is_colon : ℕ → Bool
is_colon = is_byte 58

abbrev pub is_hyphen : ℕ → Bool
is_hyphen = is_byte 45

-- the epoch ends at the first colon
abbrev pub epoch_of : List ℕ → Option (List ℕ)
epoch_of text = if list_any is_colon text then Some (before is_colon text) else None

abbrev pub rest_of : List ℕ → List ℕ
rest_of text = if list_any is_colon text then after is_colon text else text

-- the revision follows the last hyphen of the rest
abbrev pub upstream_of : List ℕ → List ℕ
upstream_of rest = if list_any is_hyphen rest then before_last is_hyphen rest else rest

abbrev pub revision_at : List ℕ → Option (List ℕ)
revision_at rest = if list_any is_hyphen rest then Some (after_last is_hyphen rest) else None

abbrev pub pieces_of : List ℕ → Pieces
pieces_of text = record {
  epoch = epoch_of text;
  upstream = upstream_of (rest_of text);
  revision = revision_at (rest_of text);
}

abbrev pub has_empty_piece : Pieces → Bool
has_empty_piece pieces =
    is_nil pieces.upstream
    || option_map_or is_nil pieces.epoch false
    || option_map_or is_nil pieces.revision false

-- "must contain only alphanumerics and the characters + . ~"
abbrev pub is_revision_byte : ℕ → Bool
is_revision_byte b = is_ascii_alphanumeric b || b == 43 || b == 46 || b == 126

-- "must contain only alphanumerics and the characters . + - ~", and by dpkg also a colon, which
-- stands there only where an epoch is present
abbrev pub is_upstream_byte : Bool → ℕ → Bool
is_upstream_byte has_epoch b = is_revision_byte b || b == 45 || has_epoch && b == 58

abbrev pub has_bad_byte : Pieces → Bool
has_bad_byte pieces =
    option_map_or (λ epoch. not (list_all is_digit epoch)) pieces.epoch false
    || not (list_all (is_upstream_byte (is_some pieces.epoch)) pieces.upstream)
    || option_map_or (λ revision. not (list_all is_revision_byte revision)) pieces.revision false

abbrev pub epoch_number : Pieces → ℕ
epoch_number pieces = option_map_or number pieces.epoch 0

abbrev pub parts_with : ℕ → Pieces → Parts
parts_with epoch pieces =
    record { epoch = epoch; upstream = pieces.upstream; revision = pieces.revision }

-- the first fault, in this order, or the parts
abbrev pub parts_of : Pieces → Result Parts ℕ
parts_of pieces =
    if has_empty_piece pieces then Err EMPTY_PART
    else (if has_bad_byte pieces then Err BAD_CHARACTER
    else (if nat_lt MAX_EPOCH (epoch_number pieces) then Err EPOCH_TOO_LARGE
    else Ok (parts_with (epoch_number pieces) pieces)))

unfoldable pub version_at : List ℕ → Result Parts ℕ
version_at text =
    if nat_lt MAX_LENGTH (length text) then Err TOO_LONG else parts_of (pieces_of text)

-- the parts of a text that is a version
abbrev pub parts_at : List ℕ → Parts
parts_at text =
    result_unwrap_or (version_at text) (record { epoch = 0; upstream = []; revision = None })

abbrev pub text_cmp : List ℕ → List ℕ → Ordering
text_cmp = on parts_at version_cmp
