-- The laws of a chain of runs. The project's own rules. Parameters: u, p and s the universe and the
-- plan of a run and the state that it came to; w and q those of the farm that goes on, t a state
-- that a run of q reaches.
--
--   EndsMeet, StaysThere          the archive at the beginning, and from there on
--   ArchiveIsLeft                 the archive of every state
--   NoneTwice, EachOnce           nothing is published twice, across two runs and within one
--   HasGrounds, GoesOnSafely      what remains to be done is safe
--   NothingForgotten              what was wanted is there in the end
--   ArchiveAlone                  a turn asks nothing of the past but the archive
--   ChainIsBounded                all turns together
--   LegsCompose, ChainsCompose    the same of a farm that goes on, and of a chain of them
use Rattle.std.specs.Prelude.{◌≡◌, ℕ, ◌+◌, ◌<◌, ◌≤◌, Bool, true, false, ◌||◌, List, Option, Some, slice_get}
use Rattle.farm_model.specs.declared.types.Variant.{Variant}
use Rattle.farm_model.specs.Common.{Recipe, Universe, same, outputs, IsKnown}
use Rattle.plan_model.specs.declared.instructions.Instruction.{Instruction}
use Rattle.plan_model.specs.Common.{Lane, Plan, LaneState, turn_of, Publication, archive, State, start, Run, Reachable, Rows, IsAnnotation, IsOrder, IsSound, IsSafe}
use Rattle.leg_laws.specs.Named.{Item, item_of, is_same, is_published}
use Rattle.leg_laws.specs.Continuation.{stays, IsContinuation}
use Rattle.leg_laws.specs.Left.{Wishes, has_name, has_published, IsLeft}
use Rattle.leg_laws.specs.Chain.{Leg, IsChain, IsKept, turns_of, counts_of}

-- ahead of the first turn the archive has exactly what stays of the one before
abbrev pub EndsMeet : Type 0
EndsMeet =
    (u : Universe) (s : State) (brought gone : List Item) (w : Universe) (q : Plan)
    → IsContinuation u s brought gone w → (x : Variant) → IsKnown w x
    → archive w (start w q).published x ≡ stays u s brought gone (item_of w x)

-- nothing leaves the archive during a run
abbrev pub StaysThere : Type 0
StaysThere =
    (w : Universe) (q : Plan) (s t : State) (schedule : List ℕ) → Run w q s schedule t
    → (x : Variant) → archive w s.published x ≡ true → archive w t.published x ≡ true

-- in every state the archive has what stays, and what was published since
abbrev pub ArchiveIsLeft : Universe → State → (brought gone : List Item) → Universe → State → Type 0
ArchiveIsLeft u s brought gone w t =
    (x : Variant) → IsKnown w x
    → archive w t.published x ≡ (stays u s brought gone (item_of w x) || is_published t x)

-- nothing that the first state has published is published in the second
abbrev pub NoneTwice : Universe → State → Universe → State → Type 0
NoneTwice u s w t =
    (i j : ℕ) (a b : Publication) → slice_get s.published i ≡ Some a
    → slice_get t.published j ≡ Some b → is_same u a.variant w b.variant ≡ false

-- a run publishes nothing twice
abbrev pub EachOnce : State → Type 0
EachOnce t =
    (i j : ℕ) (a b : Publication) → slice_get t.published i ≡ Some a
    → slice_get t.published j ≡ Some b → same a.variant b.variant ≡ true → i ≡ j

pub record IsPublishedOnce (u : Universe) (s : State) (w : Universe) (t : State) : Type 0 where
  pub across : NoneTwice u s w t
  pub within : EachOnce t

abbrev pub PublishedOnce : Type 0
PublishedOnce =
    (u : Universe) (p : Plan) (s : State) (brought gone : List Item) (w : Universe) (q : Plan)
    (t : State) → IsSound u p → Reachable u p s → IsContinuation u s brought gone w → IsSound w q
    → Reachable w q t → IsPublishedOnce u s w t

-- what a plan is accepted for: rows and an order under which it is safe
pub record HasGrounds (w : Universe) (q : Plan) : Type 0 where
  pub sound : IsSound w q
  pub rows : Rows
  pub annotation : IsAnnotation w q rows
  pub order : List ℕ
  pub ordered : IsOrder w q order

abbrev pub GoesOnSafely : Type 0
GoesOnSafely = (w : Universe) (q : Plan) → HasGrounds w q → IsSafe w q

-- an archive has all that a recipe of another universe gives
abbrev pub HasAllOf : Universe → Recipe → Universe → State → Type 0
HasAllOf g r w t =
    (i : ℕ) (v : Variant) → slice_get r.outputs i ≡ Some v
    → (x : Variant) × (archive w t.published x ≡ true) × (is_same g v w x ≡ true)

-- once all that is left is published, the archive has all that each wanted recipe gives, but for
-- those that are given up, and those of which other versions were published before
abbrev pub NothingForgotten : Type 0
NothingForgotten =
    (u : Universe) (s : State) (brought gone : List Item) (wishes : Wishes) (g w : Universe)
    (t : State) → IsContinuation u s brought gone w → IsLeft u s brought gone wishes g w
    → ((r i : ℕ) (x : Variant) → slice_get (outputs w r) i ≡ Some x
    → archive w t.published x ≡ true)
    → (k : ℕ) (r : Recipe) → slice_get g.recipes k ≡ Some r
    → has_name wishes.without r.name ≡ false → has_name wishes.done r.name ≡ false
    → has_published u s r.name ≡ false → HasAllOf g r w t

-- a turn is the same over any archive that has the same known variants
abbrev pub ArchiveAlone : Type 0
ArchiveAlone =
    (w : Universe) (of : Lane) (st : LaneState) (there other : Variant → Bool)
    → ((x : Variant) → IsKnown w x → there x ≡ other x) → (next : Option Instruction)
    → turn_of w there of st next ≡ turn_of w other of st next

-- all turns of a chain are at most the events of its plans
abbrev pub ChainIsBounded : Type 0
ChainIsBounded = (legs : List Leg) → IsChain legs → turns_of legs ≤ counts_of legs

-- Of a farm that goes on, in every state of every run of an accepted plan over it:
pub record IsComposed (u : Universe) (s : State) (brought gone : List Item) (w : Universe) (q : Plan)
    : Type 0 where
  -- the archive has what stays, and what was published since;
  pub archives : (t : State) → Reachable w q t → ArchiveIsLeft u s brought gone w t
  -- no run ends in a trap, some lane can step until all are finished, no run is longer than the
  -- count;
  pub safe : IsSafe w q
  -- and nothing is published twice.
  pub once : (t : State) → Reachable w q t → IsPublishedOnce u s w t

abbrev pub LegsCompose : Type 0
LegsCompose =
    (u : Universe) (p : Plan) (s : State) (brought gone : List Item) (w : Universe) (q : Plan)
    → IsSound u p → Reachable u p s → IsContinuation u s brought gone w → HasGrounds w q
    → IsComposed u s brought gone w q

-- Of a chain of legs, the latest first:
pub record IsStory (legs : List Leg) : Type 0 where
  -- each has in its last state what stays of the one before it, and what it has published;
  pub archives : (i : ℕ) (leg before : Leg) → slice_get legs i ≡ Some leg
      → slice_get legs (i + 1) ≡ Some before
      → ArchiveIsLeft before.universe before.state leg.brought leg.gone leg.universe leg.state
  -- what a leg has published is there in each later one, unless it was withdrawn;
  pub kept : (i j : ℕ) (leg earlier : Leg) → i < j → slice_get legs i ≡ Some leg
      → slice_get legs j ≡ Some earlier → IsKept earlier leg
  -- none publishes what an earlier one has published, nor anything twice;
  pub across : (i j : ℕ) (leg earlier : Leg) → i < j → slice_get legs i ≡ Some leg
      → slice_get legs j ≡ Some earlier
      → NoneTwice earlier.universe earlier.state leg.universe leg.state
  pub within : (i : ℕ) (leg : Leg) → slice_get legs i ≡ Some leg → EachOnce leg.state
  -- each whose plan is accepted is safe;
  pub safe : (i : ℕ) (leg : Leg) → slice_get legs i ≡ Some leg → HasGrounds leg.universe leg.plan
      → IsSafe leg.universe leg.plan
  -- and together they take no more turns than their plans have events.
  pub bounded : turns_of legs ≤ counts_of legs

abbrev pub ChainsCompose : Type 0
ChainsCompose = (legs : List Leg) → IsChain legs → IsStory legs
