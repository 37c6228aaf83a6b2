-- A table that tells which numbers were seen.
use Rattle.std.specs.Prelude.{◌≡◌, ℕ, ◌<◌, Bool, false, List, length, slice_index_or}
use Rattle.farm_model.specs.Chroot.{member}

-- the place of each number tells whether the number is among these
abbrev pub Marks : List Bool → List ℕ → Type 0
Marks seen numbers = (n : ℕ) → n < length seen → slice_index_or seen n false ≡ member numbers n
