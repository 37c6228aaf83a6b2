-- The recipes by their names, as the reader of plans keeps them. Only the contracts of private
-- functions cite this file.
--
--   AreFirstPlaces names es   each name leads to the place where it first stands
use Rattle.std.specs.Prelude.{◌≡◌, ℕ, List}
use Rattle.std.specs.Global.{Vec}
use Rattle.std.specs.Map.{lookup}
use Rattle.std.specs.Str.{bytes_eq}
use Rattle.deb_text.specs.Groups.{place_in}

abbrev pub AreFirstPlaces : List (List ℕ) → List (Vec ℕ × ℕ) → Type 0
AreFirstPlaces names es =
    (word : List ℕ) → lookup (λ k. bytes_eq word k.items) es ≡ place_in bytes_eq names word
