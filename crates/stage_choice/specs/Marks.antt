-- Numbers that are marked.
use Rattle.std.specs.Prelude.{◌≡◌, ℕ, Bool, false, List, slice_index_or}
use Rattle.stage_choice.specs.Orders.{has}

-- exactly the numbers of a list are marked; past the last mark none is
pub record AreMarked (marks : List Bool) (list : List ℕ) : Type 0 where
  pub same : (number : ℕ) → slice_index_or marks number false ≡ has list number
