-- What may be held along a lane, with the branches that it takes. Parameters: u a universe, of a
-- lane, w what may be held at a place.
--
--   forgotten          nothing is known to be met
--   turned             behind an `else`
--   IsBranchEnd        at an `end`
--   IsBehindEnd        behind it
--   IsBranch, IsAt     what is kept of the open branch, and at a place of a lane
use Rattle.std.specs.Prelude.{◌≡◌, ℕ, true, false, [], Option, Some, None}
use Rattle.farm_model.specs.Universe.{Universe}
use Rattle.may_rows.specs.Met.{Doubt, AreDoubts}
use Rattle.may_rows.specs.Walk.{IsOfLane}
use Rattle.may_rows.specs.Words.{Words, may_of}
use Rattle.plan_model.specs.Common.{Side, Outside, InFirst, InSecond, side_at, phases_differ, joined_may, Rows, Maps, maps_at, Lane, Plan, lane}
use Rattle.plan_verifier.specs.declared.branch.Branch.{Branch}
use Rattle.plan_verifier.specs.declared.branch.LaneMay.{LaneMay}

abbrev pub forgotten : Doubt
forgotten = record { known = false; over = []; loose = [] }

-- behind an `else`: what was ahead of the `when`, and the end of the first branch is kept
abbrev pub turned : LaneMay → Branch → LaneMay
turned w (Branch.First at ahead) =
    record { here = ahead; doubts = forgotten; branch = Branch.Second at w.here }
turned w _ = record { here = w.here; doubts = forgotten; branch = Branch.Outside }

-- what may be held at the ends of both branches is of the lane
pub record IsBranchEnd (u : Universe) (of : Lane) (w : LaneMay) : Type 0 where
  pub here : IsOfLane u of w.here
  pub first : (at : ℕ) (first : Words) → w.branch ≡ Branch.Second at first → IsOfLane u of first

-- behind an `end`: the place of the `when`, where some name is in different phases at the ends of
-- its branches; else what may be held behind both
abbrev pub JoinedBy : Universe → Lane → LaneMay → LaneMay → Branch → Option ℕ → Type 0
JoinedBy u of w next (Branch.Second at first) (Some told) =
    (told ≡ at) × (phases_differ u (may_of first) (may_of w.here) ≡ true)
JoinedBy u of w next (Branch.Second at first) None =
    (phases_differ u (may_of first) (may_of w.here) ≡ false)
    × (may_of next.here ≡ joined_may u (may_of first) (may_of w.here)) × IsOfLane u of next.here
    × (next.doubts ≡ forgotten) × (next.branch ≡ Branch.Outside)
JoinedBy u of w next _ told = Unit {0}

abbrev pub IsBehindEnd : Universe → Lane → LaneMay → LaneMay → Option ℕ → Type 0
IsBehindEnd u of w next told = JoinedBy u of w next w.branch told

-- the branch that is kept is the one that the place lies in, with the map that is needed again
abbrev pub IsBranch : Universe → Lane → Side → Maps → Branch → Type 0
IsBranch u of s m Branch.Outside = s ≡ Outside
IsBranch u of s m (Branch.First at ahead) =
    (s ≡ InFirst at) × (m.ahead ≡ may_of ahead) × IsOfLane u of ahead
IsBranch u of s m (Branch.Second at first) =
    (s ≡ InSecond at) × (m.first ≡ may_of first) × IsOfLane u of first

-- what may be held at place i of lane l
pub record IsAt (u : Universe) (p : Plan) (rows : Rows) (l i : ℕ) (w : LaneMay) : Type 0 where
  pub here : (maps_at u p rows l i).here ≡ may_of w.here
  pub of_lane : IsOfLane u (lane p l) w.here
  pub doubts : AreDoubts u (may_of w.here) w.doubts
  pub branch : IsBranch u (lane p l) (side_at (lane p l).instructions i)
      (maps_at u p rows l i) w.branch
