-- One lane's end of an archive, between calls. Parameters: home the archive that the end belongs
-- to, a the accepted plan, u its universe, p its plan, l the lane's number, r the lane's record.
--
--   IsSameEnd       the end is of the same archive, plan and lane
--   IsRunning       a runner is on the way of the end's lane
--   HasKept         nothing has halted meanwhile
--   IsAhead         a lane at an instruction
--   IsLoadedWord    the word that the lane has loaded last
--   IsPicked        what an unpack of the lane has picked
--   IsBranched      into which branch a `when` of the lane has led
--   IsLastOutput    what the lane has published last
use Rattle.std.specs.Option.{is_some}
use Rattle.std.specs.Prelude.{◌≡◌, ℕ, suc, ◌<◌, ◌&&◌, Bool, List, length, Option, Some, slice_get}
use Rattle.archive_laws.specs.LaneMoves.{outputs_made}
use Rattle.atomic_table.specs.Seated.{TableId}
use Rattle.chroot_state.specs.Held.{Held}
use Rattle.deb_relation.specs.declared.operator.Op.{Op}
use Rattle.farm_archive.specs.declared.publication.Publication.{Publication}
use Rattle.farm_model.specs.Common.{highest_below, slot, variant, variants, is_wanted, word_has, Universe}
use Rattle.farm_model.specs.declared.types.Slot.TheVariants.{Unpacked}
use Rattle.farm_model.specs.declared.types.Variant.{Variant}
use Rattle.archive_laws.specs.Bounds.{IsInBounds}
use Rattle.archive_laws.specs.Records.{Record, after_load}
use Rattle.plan_model.specs.Plan.{Plan, lane, lane_outputs, instruction_at}
use Rattle.plan_model.specs.declared.instructions.Instruction.TheVariants.{Unpack, When}
use Rattle.plan_verifier.specs.Accepted.{AcceptedPlan, known_rows}
use Rattle.lane_runner.specs.OnWay.{branch_place, IsOnWay}
use Rattle.lane_runner.specs.declared.runner.Runner.{Runner}

pub record IsSameEnd (home : TableId) (a : AcceptedPlan) (l : ℕ) (home' : TableId)
    (a' : AcceptedPlan) (l' : ℕ) : Type 0 where
  pub home_is : home' ≡ home
  pub about_is : a' ≡ a
  pub lane_is : l' ≡ l

-- The runner works at this end, which is of that plan and lane and has this record of it:
pub record IsRunning (a : AcceptedPlan) (w : Runner) (c : Held) (about : AcceptedPlan) (l : ℕ)
    (r : Record) : Type 0 where
  pub about_is : about ≡ a
  pub lane_is : l ≡ w.lane
  pub on : IsOnWay a.universe a.plan (known_rows a) w c r

-- what a record tells of halts is as it was
pub record HasKept (old new : Record) : Type 0 where
  pub halted : new.halted ≡ old.halted
  pub saw : new.saw ≡ old.saw

-- The publication stands in the archive, and is the last one of the lane:
pub record IsLastOutput (u : Universe) (p : Plan) (l : ℕ) (r : Record) (h : Publication)
    : Type 0 where
  pub lane_is : h.lane ≡ l
  -- it is the last of the outputs that the lane has made,
  pub number : ℕ
  pub last : outputs_made u (lane p l) r.at ≡ suc number
  pub variant : slice_get (lane_outputs u (lane p l)) number ≡ Some h.variant
  -- and has the serial that the lane drew for it.
  pub serial : slice_get r.serials number ≡ Some h.serial

-- The lane is at the instruction of this number, counted from 1, with this chroot:
pub record IsAhead (a : AcceptedPlan) (c : Held) (l number : ℕ) (about : AcceptedPlan) (m : ℕ)
    (r : Record) : Type 0 where
  -- its runner, which works at the end of this plan, lane and record, is there,
  pub runner : Runner
  pub running : IsRunning a runner c about m r
  pub lane_is : runner.lane ≡ l
  pub number_is : number ≡ suc runner.done
  -- ahead of the lane's end.
  pub left : runner.done < length (lane a.plan runner.lane).instructions

-- The word is what the lane has loaded last, of this name:
pub record IsLoadedWord (a : AcceptedPlan) (l name word : ℕ) (r : Record) : Type 0 where
  -- its record is the one before with this word,
  pub before : Record
  pub after : r ≡ after_load a.universe a.plan l name word before
  -- and the word has what the lane knows of the archive by then, and no more than may be there.
  pub bounds : IsInBounds a.universe a.plan (known_rows a) l before.at name word

-- The variant is what the unpack of this number has picked:
pub record IsPicked (a : AcceptedPlan) (l number : ℕ) (c : Held) (r : Record) (v : Variant)
    : Type 0 where
  -- the unpack asks for its name,
  pub place : ℕ
  pub number_is : number ≡ suc place
  pub wanted : Option (Op × List ℕ)
  pub here : instruction_at a.plan l place ≡ Some (Unpack v.name wanted)
  -- it is the highest one in the relation in the word that the lane loaded,
  pub word : ℕ
  pub loaded : IsLoadedWord a l v.name word r
  pub highest : Some v.bit ≡ highest_below (variants a.universe v.name)
      (λ b. word_has word b && is_wanted a.universe wanted (variant v.name b))
  -- and the lane's chroot holds it now, unpacked, as its record has it.
  pub last : Option ℕ
  pub holds : slot c.slots v.name ≡ Unpacked v.bit last
  pub recorded : r.at.chroot ≡ c.slots

-- The `when` of this number has led to the branch:
pub record IsBranched (a : AcceptedPlan) (l number : ℕ) (r : Record) (holds : Bool) : Type 0 where
  pub place : ℕ
  pub number_is : number ≡ suc place
  pub name : ℕ
  pub wanted : Option (Op × List ℕ)
  pub here : instruction_at a.plan l place ≡ Some (When name wanted)
  -- the first one where the word that the lane loaded has a variant in the relation,
  pub word : ℕ
  pub loaded : IsLoadedWord a l name word r
  pub found : holds ≡ is_some (highest_below (variants a.universe name)
      (λ b. word_has word b && is_wanted a.universe wanted (variant name b)))
  -- and there its record stands.
  pub recorded : r.at.done ≡ branch_place (lane a.plan l) place holds
