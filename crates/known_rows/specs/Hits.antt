-- The first output of a lane that a row has, and the sources of a point so far.
use Rattle.std.specs.Prelude.{◌≡◌, ◌⊎◌, ℕ, suc, ◌+◌, ◌<◌, ◌≤◌, Bool, true, false, ◌==◌, nat_le, List, [], ◌∷◌, ◌++◌, length, Some, slice_get, if◌then◌else◌}
use Rattle.bit_rows.specs.Sets.{variants_of}
use Rattle.deb_relation.specs.Relations.{Entry}
use Rattle.farm_model.specs.Common.{Universe, satisfies_entry, initial, outputs, IsKnown}
use Rattle.farm_model.specs.declared.types.Variant.{Variant}
use Rattle.plan_model.specs.Plan.{Plan, instruction_at, lane, outputs_before}
use Rattle.plan_model.specs.declared.instructions.Instruction.{Instruction}
use Rattle.plan_model.specs.declared.instructions.Instruction.TheVariants.{Publish}
use Rattle.known_rows.specs.declared.column.Source.{Source}
use Rattle.known_rows.specs.declared.column.Point.{Point}
use Rattle.known_rows.specs.declared.marks.Mark.{Mark}
use Rattle.known_rows.specs.declared.marks.Output.{Output}
use Rattle.known_rows.specs.Points.{asked, IsNothing, IsSource, HasNothing, HasFirst, AreSources}

-- the row has none of the first n outputs
abbrev pub HasNoHit : List ℕ → List Output → ℕ → Type 0
HasNoHit row outs n =
    (k : ℕ) (o : Output) → k < n → slice_get outs k ≡ Some o
    → variants_of row o.variant.name o.variant.bit ≡ false

-- output n is the first one below the limit that the row has
pub record IsFirstOutputHit (row : List ℕ) (outs : List Output) (limit n : ℕ) : Type 0 where
  pub below : n < limit
  pub hit : (o : Output) → slice_get outs n ≡ Some o
      → variants_of row o.variant.name o.variant.bit ≡ true
  pub none : HasNoHit row outs n

-- n is the number of the first output that the row has, or of none where it has none
pub record IsFirst (row : List ℕ) (outs : List Output) (n : ℕ) : Type 0 where
  pub hit : n < length outs → IsFirstOutputHit row outs (length outs) n
  pub none : length outs ≤ n → HasNoHit row outs (length outs)

abbrev pub AreKnownOutputs : Universe → List Output → Type 0
AreKnownOutputs u outs = (k : ℕ) (o : Output) → slice_get outs k ≡ Some o → IsKnown u o.variant

-- the first hit, as a source
pub record IsHitSource (row : List ℕ) (outs : List Output) (limit l : ℕ) (s : Source)
    : Type 0 where
  pub number : ℕ
  pub output : Output
  pub first : IsFirstOutputHit row outs limit number
  pub at : slice_get outs number ≡ Some output
  pub is : s ≡ record { point = output.point; lane = l; count = number + 1 }

-- the first hit is put behind the sources, where there is one
abbrev pub IsPushed : List ℕ → List Output → ℕ → ℕ → List Source → List Source → Type 0
IsPushed row outs limit l ss next =
    (HasNoHit row outs limit × (next ≡ ss))
    ⊎ ((s : Source) × IsHitSource row outs limit l s × (next ≡ ss ++ s ∷ []))

-- the sources of a point in the lanes below n
pub record AreSourcesBelow (u : Universe) (p : Plan) (l i : ℕ) (test : Variant → Bool)
    (ss : List Source) (n : ℕ) : Type 0 where
  pub sound : (k : ℕ) (s : Source) → slice_get ss k ≡ Some s
      → IsNothing u test s ⊎ IsSource u p l i test s
  pub nothing : (c : Variant) → initial u c ≡ true → test c ≡ true → HasNothing ss
  pub outputs : (h k r m : ℕ) (c : Variant) → h < n → instruction_at p h k ≡ Some (Publish r)
      → slice_get (outputs u r) m ≡ Some c → test c ≡ true → (h ≡ l → k < i)
      → HasFirst u p l i test ss h (outputs_before u (lane p h) k (suc m))

-- the point of a mark
pub record IsPointOf (u : Universe) (p : Plan) (mark : Mark) (of : Point) : Type 0 where
  pub lane : of.lane ≡ mark.lane
  pub place : of.place ≡ mark.place
  pub own : of.own ≡ mark.own
  pub before : of.before ≡ mark.before
  pub sources : (x : Instruction) (test : Variant → Bool)
      → instruction_at p mark.lane mark.place ≡ Some x → asked u x ≡ Some test
      → AreSources u p mark.lane mark.place test of.sources.items

pub record HasPointOf (u : Universe) (p : Plan) (ps : List Point) (k : ℕ) (mark : Mark)
    : Type 0 where
  pub point : Point
  pub at : slice_get ps k ≡ Some point
  pub is : IsPointOf u p mark point

-- of its own lane a point may meet an output before it alone
abbrev pub may_meet : Mark → Source → Bool
may_meet mark s = if s.lane == mark.lane then nat_le s.count mark.own else true

-- the sources of an entry, for a wait in no lane of the plan
abbrev pub AreEntrySources : Universe → Plan → Entry → List Source → Type 0
AreEntrySources u p e ss = AreSources u p (length p) 0 (satisfies_entry u e) ss
