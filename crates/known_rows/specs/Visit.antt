-- The visit of the points: an order of the first look at them. The project's own words. Parameters:
-- ps the points, places the place of each point in the order, k a place, w a point's number, x
-- counts of the outputs of one lane.
--
--   BuildsOnEarlier, IsInTurn  what a point builds on stands before it
--   IsAtPlace, AreAtPlaces  a point stands in the order at its place, and all of the order do
--   IsVisit              the points that are out of turn are listed
--   AreSettled           those in turn that were looked at know no more than they may
use Rattle.std.specs.Prelude.{◌≡◌, ◌⊎◌, ℕ, ◌<◌, ◌≤◌, List, length, All, Option, Some, None, slice_get, slice_index}
use Rattle.std.specs.List.{Contains}
use Rattle.known_rows.specs.declared.column.Point.{Point}
use Rattle.known_rows.specs.declared.column.Source.{Source}
use Rattle.known_rows.specs.declared.visit.Visit.{Visit}
use Rattle.known_rows.specs.Column.{of_list, bound}

-- the point stands before place k, or there is none
abbrev pub IsEarlier : List ℕ → ℕ → Option ℕ → Type 0
IsEarlier places k None = Unit {0}
IsEarlier places k (Some w) = slice_index places w < k

-- all that a point builds on stands before place k
pub record BuildsOnEarlier (places : List ℕ) (k : ℕ) (p : Point) : Type 0 where
  pub before : IsEarlier places k p.before
  pub sources : All (λ (s : Source). IsEarlier places k s.point) p.sources.items

-- point w stands in the order at its place, behind all that it builds on
pub record IsInTurn (order places : List ℕ) (w : ℕ) (p : Point) : Type 0 where
  pub there : slice_get order (slice_index places w) ≡ Some w
  pub ready : BuildsOnEarlier places (slice_index places w) p

-- the point at place k of the order is there, and has this place
pub record IsAtPlace (order places : List ℕ) (k : ℕ) : Type 0 where
  pub there : slice_index order k < length places
  pub place : slice_index places (slice_index order k) ≡ k

abbrev pub AreAtPlaces : List ℕ → List ℕ → Type 0
AreAtPlaces order places = (k : ℕ) → k < length order → IsAtPlace order places k

-- each point of the order stands in it once; each point is in turn there, or listed as late
pub record IsVisit (ps : List Point) (visit : Visit) : Type 0 where
  pub long : length visit.places.items ≡ length ps
  pub placed : AreAtPlaces visit.order.items visit.places.items
  pub each : (w : ℕ) (p : Point) → slice_get ps w ≡ Some p → Contains visit.late.items w
      ⊎ IsInTurn visit.order.items visit.places.items w p

-- those in turn before place k know no more than they may
abbrev pub AreSettled : ℕ → ℕ → List Point → Visit → List ℕ → ℕ → Type 0
AreSettled lane total ps visit x k =
    (w : ℕ) (p : Point) → slice_get ps w ≡ Some p
    → IsInTurn visit.order.items visit.places.items w p → slice_index visit.places.items w < k
    → slice_index x w ≤ bound lane total (of_list x) p
