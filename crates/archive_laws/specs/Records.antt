-- What an archive keeps of a lane, and what each of its calls makes of it. The project's own rules.
-- Parameters: u a universe, p a plan, l the number of a lane, st a lane's state, n the number of a
-- name, found its word as loaded, r a lane's record.
--
--   Record, blank                      what is kept of a lane; at its beginning
--   ready_in, next_of, next_output     its next archive step, and the output that comes next
--   after_load, after_publish          its record after a load, and after an output
--   after_draw, after_halt, after_look
use Rattle.std.specs.Prelude.{ℕ, ◌==◌, Bool, true, false, not, ◌||◌, List, [], ◌∷◌, ◌++◌, Option, None, Some, slice_set}
use Rattle.farm_model.specs.Universe.{Universe}
use Rattle.farm_model.specs.declared.types.Variant.{Variant}
use Rattle.plan_model.specs.Common.{Lane, Plan, lane, instruction_at, LaneState, start_lane, ready, with_bit}
use Rattle.plan_model.specs.declared.instructions.Instruction.{Instruction}
use Rattle.archive_laws.specs.LaneMoves.{moved_by, output_of, behind_output}

-- a lane's record: its state after its last archive step, the serials that it has drawn, the last
-- word that it knows of each name, whether it has halted, and whether it was told of a halt
pub record Record : Type 0 where
  pub at : LaneState
  pub serials : List ℕ
  pub loaded : List ℕ
  pub halted : Bool
  pub saw : Bool

-- a lane at its beginning, which knows the initial archive
abbrev pub blank : Universe → Lane → Record
blank u of = record {
  at = start_lane u of;
  serials = [];
  loaded = u.initial;
  halted = false;
  saw = false;
}

-- the lane at its next archive step
abbrev pub ready_in : Universe → Plan → ℕ → LaneState → LaneState
ready_in u p l st = ready u (lane p l) st

-- its next archive step, none at its end
abbrev pub next_of : Universe → Plan → ℕ → LaneState → Option Instruction
next_of u p l st = instruction_at p l (ready_in u p l st).done

-- the output that it makes next, where that step is a publish
abbrev pub next_output : Universe → Plan → ℕ → LaneState → Option Variant
next_output u p l st = output_of u (ready_in u p l st).made (next_of u p l st)

-- after a load of a name's word: the lane moves where the word decides its next archive step
abbrev pub after_load : Universe → Plan → ℕ → ℕ → ℕ → Record → Record
after_load u p l n found r = record r {
  at = moved_by u (lane p l) n found r.at (ready_in u p l r.at) (next_of u p l r.at);
  loaded = slice_set r.loaded n found;
}

-- the words with an output, if there is one
abbrev pub loaded_with : List ℕ → Option Variant → List ℕ
loaded_with loaded None = loaded
loaded_with loaded (Some v) = with_bit loaded v

-- after this output: the lane stands behind it, and knows of it
abbrev pub after_output : Universe → Plan → ℕ → Option Variant → Record → Record
after_output u p l output r = record r {
  at = behind_output u (lane p l) (ready_in u p l r.at) (next_of u p l r.at);
  loaded = loaded_with r.loaded output;
}

-- after its next output
abbrev pub after_publish : Universe → Plan → ℕ → Record → Record
after_publish u p l r = after_output u p l (next_output u p l r.at) r

-- after it has drawn a serial
abbrev pub after_draw : ℕ → Record → Record
after_draw serial r = record r { serials = r.serials ++ serial ∷ [] }

-- after its halt
abbrev pub after_halt : Record → Record
after_halt r = record r { halted = true }

-- after a look at the halt word, which is 0 where nobody has halted
abbrev pub after_look : ℕ → Record → Record
after_look found r = record r { saw = r.saw || not (found == 0) }
