-- Where the pieces stand in a text that is a version.
use Rattle.std.specs.Prelude.{◌≡◌, ℕ, ◌+◌, List, length, Ok}
use Rattle.std.specs.Option.{option_map_or}
use Rattle.deb_version.specs.Grammar.{Pieces, pieces_of, parts_with, version_at}

-- the upstream begins behind the epoch's colon
abbrev pub start_of : Pieces → ℕ
start_of pieces = option_map_or (λ epoch. length epoch + 1) pieces.epoch 0

-- and ends at the revision's hyphen, or with the text
abbrev pub end_of : Pieces → ℕ
end_of pieces = start_of pieces + length pieces.upstream

-- the text is a version, with this epoch and its upstream at these places
pub record IsVersion (text : List ℕ) (epoch start end : ℕ) : Type 0 where
  pub parts : version_at text ≡ Ok (parts_with epoch (pieces_of text))
  pub begins : start ≡ start_of (pieces_of text)
  pub ends : end ≡ end_of (pieces_of text)
