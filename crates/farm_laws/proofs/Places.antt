-- How a move changes a lane's place.
use Rattle.std.proofs.Common.{◌≡◌, ℕ, suc, ◌<◌, ◌≤◌, Bool, true, false, ◌⊎◌, inl, inr, List, length, Option, Some, None, slice_get, refl}
use Rattle.std.proofs.lemmas.Bool.{cases_lt, cases_Bool, lt-ltb, le-ltb}
use Rattle.deb_relation.specs.declared.operator.Op.{Op}
use Rattle.farm_model.specs.Common.{Universe, outputs}
use Rattle.farm_model.specs.declared.types.Variant.{Variant}
use Rattle.farm_model.specs.declared.types.Trap.{Trap}
use Rattle.plan_model.specs.Common.{Lane, next_place, else_place, LaneState, newest, passes, Turn, Goes, Gives, Waits, Ends, Fails, has_wanted, past_when, unless, unpacks, given, publishes, turn_of}
use Rattle.plan_model.specs.declared.instructions.Instruction.{Instruction}
use Rattle.plan_model.specs.declared.instructions.Instruction.TheVariants.{Unpack, Configure, Deconfigure, Remove, Build, Publish, Wait, When, Otherwise, EndWhen}

pub unless_keeps : (P : Turn → Type 0) (o : Option Trap) (m : Turn) → ((t : Trap) → P (Fails t))
    → P m → P (unless o m)
unless_keeps P None m f h = h
unless_keeps P (Some t) m f h = f t

-- an instruction that publishes nothing and begins no second branch, and a wait only where it
-- passes
abbrev pub IsQuiet : Universe → (Variant → Bool) → Instruction → Type 0
IsQuiet u there (Publish r) = ⊥
IsQuiet u there (Wait e) = passes u there e ≡ true
IsQuiet u there Otherwise = ⊥
IsQuiet u there EndWhen = ⊥
IsQuiet u there _ = Unit {0}

-- the instruction is a `when`
abbrev pub IsWhen : Instruction → Type 0
IsWhen (When name wanted) = Unit {0}
IsWhen _ = ⊥

-- where an instruction leads: behind it, or a `when` to its second branch too
abbrev pub LeadsTo : Lane → ℕ → Instruction → ℕ → Type 0
LeadsTo of k x next = (next ≡ next_place of k) ⊎ (IsWhen x × (next ≡ else_place of k))

-- a `when` holds where its first branch is taken
abbrev pub Holds : Universe → (Variant → Bool) → Instruction → Type 0
Holds u there (When name wanted) = has_wanted u there name wanted ≡ true
Holds u there _ = Unit {0}

-- the lane goes on behind a quiet instruction
pub record GoesOn (u : Universe) (there : Variant → Bool) (of : Lane) (st : LaneState)
    (x : Option Instruction) (next : LaneState) : Type 0 where
  pub instruction : Instruction
  pub is : x ≡ Some instruction
  pub quiet : IsQuiet u there instruction
  pub place : (Holds u there instruction × (next.done ≡ next_place of st.done))
      ⊎ (IsWhen instruction × (next.done ≡ else_place of st.done))
  pub made : next.made ≡ 0

pub leads_to : {u : Universe} {there : Variant → Bool} {of : Lane} {st : LaneState}
    {x : Option Instruction} {next : LaneState} → (g : GoesOn u there of st x next)
    → LeadsTo of st.done g.instruction next.done
leads_to g =
    elim g.place [
      | inl behind ↦ inl behind.1
      | inr other ↦ inr other
    ]

-- after one more of count outputs
pub record GivesOne (u : Universe) (of : Lane) (st : LaneState) (x : Option Instruction)
    (next : LaneState) (v : Variant) : Type 0 where
  pub recipe : ℕ
  pub is : x ≡ Some (Publish recipe)
  pub output : slice_get (outputs u recipe) st.made ≡ Some v
  pub place : ((suc st.made < length (outputs u recipe)) × (next.done ≡ st.done)
      × (next.made ≡ suc st.made)) ⊎
      ((length (outputs u recipe) ≤ suc st.made) × (next.done ≡ next_place of st.done)
      × (next.made ≡ 0))

abbrev pub PlaceMove : Universe → (Variant → Bool) → Lane → LaneState → Option Instruction → Turn
    → Type 0
PlaceMove u there of st x (Goes next) = GoesOn u there of st x next
PlaceMove u there of st x (Gives next v) = GivesOne u of st x next v
PlaceMove u there of st x Waits = Unit {0}
PlaceMove u there of st x Ends = Unit {0}
PlaceMove u there of st x (Fails t) = Unit {0}

quiet_place : (u : Universe) (there : Variant → Bool) (of : Lane) (st : LaneState)
    (x : Instruction) (o : Option Trap) (next : LaneState) → IsQuiet u there x → Holds u there x
    → next.done ≡ next_place of st.done → next.made ≡ 0
    → PlaceMove u there of st (Some x) (unless o (Goes next))
quiet_place u there of st x None next q w d m =
    record { instruction = x; is = refl; quiet = q; place = inl (w, d); made = m }
quiet_place u there of st x (Some t) next q w d m = tt

unpacks_place : (u : Universe) (there : Variant → Bool) (of : Lane) (st : LaneState) (name : ℕ)
    (wanted : Option (Op × List ℕ)) (o : Option ℕ)
    → PlaceMove u there of st (Some (Unpack name wanted)) (unpacks u of st name o)
unpacks_place u there of st name wanted None = tt
unpacks_place u there of st name wanted (Some b) =
    quiet_place u there of st (Unpack name wanted) _ _ tt tt refl refl

given_place : (of : Lane) (n : ℕ) (st : LaneState) (cost : ℕ)
    → ((suc st.made < n) × ((given of n st cost).done ≡ st.done)
    × ((given of n st cost).made ≡ suc st.made))
    ⊎ ((n ≤ suc st.made) × ((given of n st cost).done ≡ next_place of st.done)
    × ((given of n st cost).made ≡ 0))
given_place of n st cost =
    elim (cases_lt (suc st.made) n) [
      | inl lt ↦ let e = lt-ltb (suc st.made) n lt in inl (lt, rw e, rw e)
      | inr ge ↦ let e = le-ltb (suc st.made) n ge in inr (ge, rw e, rw e)
    ]

output_place : (u : Universe) (there : Variant → Bool) (of : Lane) (st : LaneState) (r : ℕ)
    (v : Variant) (o : Option Trap) (cost : ℕ) → slice_get (outputs u r) st.made ≡ Some v
    → PlaceMove u there of st (Some (Publish r))
    (unless o (Gives (given of (length (outputs u r)) st cost) v))
output_place u there of st r v None cost e =
    record { recipe = r; is = refl; output = e; place = given_place of _ st _ }
output_place u there of st r v (Some t) cost e = tt

publishes_place : (u : Universe) (there : Variant → Bool) (of : Lane) (st : LaneState) (r : ℕ)
    (o : Option Variant) → slice_get (outputs u r) st.made ≡ o
    → PlaceMove u there of st (Some (Publish r)) (publishes u of st r o)
publishes_place u there of st r None e = tt
publishes_place u there of st r (Some v) e = output_place u there of st r v _ _ e

-- what a lane's turn makes of its place
pub turn_place : (u : Universe) (there : Variant → Bool) (of : Lane) (st : LaneState)
    (x : Option Instruction) → PlaceMove u there of st x (turn_of u there of st x)
turn_place u there of st None = tt
turn_place u there of st (Some (Unpack name wanted)) =
    unpacks_place u there of st name wanted (newest u there name wanted)
turn_place u there of st (Some (Configure members)) =
    quiet_place u there of st (Configure members) _ _ tt tt refl refl
turn_place u there of st (Some (Deconfigure members)) =
    quiet_place u there of st (Deconfigure members) _ _ tt tt refl refl
turn_place u there of st (Some (Remove members)) =
    quiet_place u there of st (Remove members) _ _ tt tt refl refl
turn_place u there of st (Some (Build r)) = quiet_place u there of st (Build r) _ _ tt tt refl refl
turn_place u there of st (Some (Publish r)) =
    publishes_place u there of st r (slice_get (outputs u r) st.made) refl
turn_place u there of st (Some (Wait e)) =
    elim (cases_Bool (passes u there e)) [
      | inl passed ↦ rw passed (record {
        instruction = Wait e;
        is = refl;
        quiet = passed;
        place = inl (tt, refl);
        made = refl;
      })
      | inr blocked ↦ rw blocked tt
    ]
turn_place u there of st (Some (When name wanted)) =
    record {
      instruction = When name wanted;
      is = refl;
      quiet = tt;
      place = branch (has_wanted u there name wanted) refl;
      made = refl;
    }
  where
    branch : (holds : Bool) → has_wanted u there name wanted ≡ holds
        → ((has_wanted u there name wanted ≡ true)
        × ((past_when of st holds).done ≡ next_place of st.done))
        ⊎ (IsWhen (When name wanted) × ((past_when of st holds).done ≡ else_place of st.done))
    branch true e = inl (e, refl)
    branch false e = inr (tt, refl)
turn_place u there of st (Some Otherwise) = tt
turn_place u there of st (Some EndWhen) = tt
