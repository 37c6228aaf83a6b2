-- What each point of the lanes knows of one lane's outputs: how many, as the greatest solution.
use Rattle.std.specs.Prelude.{◌≡◌, ℕ, ◌<◌, ◌≤◌, min, max, ◌==◌, List, [], ◌∷◌, length, Option, Some, None, slice_index, slice_get, All, if◌then◌else◌}
use Rattle.known_rows.specs.declared.column.Source.{Source}
use Rattle.known_rows.specs.declared.column.Point.{Point}

-- a count for each point
abbrev pub Counts : Type 0
Counts = ℕ → ℕ

abbrev pub of_list : List ℕ → Counts
of_list xs w = slice_index xs w

-- a lane's beginning knows nothing
abbrev pub count_at : Counts → Option ℕ → ℕ
count_at x None = 0
count_at x (Some w) = x w

-- what is known of the lane's outputs where a publication is seen
abbrev pub known : ℕ → Counts → Source → ℕ
known lane x s = if s.lane == lane then s.count else count_at x s.point

-- the least of it
abbrev pub least : ℕ → Counts → ℕ → List Source → ℕ
least lane x best [] = best
least lane x best (s ∷ ss) = least lane x (min best (known lane x s)) ss

-- what a point may know at most
unfoldable pub bound : ℕ → ℕ → Counts → Point → ℕ
bound lane total x p = if p.lane == lane then p.own else max (count_at x p.before)
    (least lane x total p.sources.items)

abbrev pub IsPointBelow : ℕ → Option ℕ → Type 0
IsPointBelow n None = Unit {0}
IsPointBelow n (Some w) = w < n

abbrev pub ArePlaced : ℕ → List Source → Type 0
ArePlaced n ss = All (λ (s : Source). IsPointBelow n s.point) ss

pub record IsPlaced (n : ℕ) (p : Point) : Type 0 where
  pub before : IsPointBelow n p.before
  pub sources : ArePlaced n p.sources.items

abbrev pub ArePointsIn : ℕ → List Point → Type 0
ArePointsIn n ps = All (IsPlaced n) ps

-- counts that know no more than they may
pub record AreKnownCounts (lane total : ℕ) (ps : List Point) (y : Counts) : Type 0 where
  pub few : (w : ℕ) → y w ≤ total
  pub bounded : (w : ℕ) (p : Point) → slice_get ps w ≡ Some p → y w ≤ bound lane total y p

-- all such counts lie within these
abbrev pub IsAbove : ℕ → ℕ → List Point → List ℕ → Type 0
IsAbove lane total ps xs = (y : Counts) → AreKnownCounts lane total ps y → (w : ℕ) → w < length ps
    → y w ≤ slice_index xs w

pub record IsGreatestColumn (lane total : ℕ) (ps : List Point) (xs : List ℕ) : Type 0 where
  pub long : length xs ≡ length ps
  pub known : (w : ℕ) (p : Point) → slice_get ps w ≡ Some p
      → slice_index xs w ≤ bound lane total (of_list xs) p
  pub above : IsAbove lane total ps xs
