-- A line is placed by what it says by itself.
use Rattle.std.proofs.Common.{◌≡◌, ℕ, List, refl, ap, ◌∙◌, Option, Result, Ok, Err}
use Rattle.std.specs.Prelude.{◌&&◌, if◌then◌else◌}
use Rattle.deb_text.proofs.StepLaws.{fails-with}
use Rattle.deb_text.specs.Common.{Fails, ◌>>=◌}
use Rattle.farm_model.specs.Universe.{Universe}
use Rattle.plan_reader.specs.declared.error.TheConstants.{BAD_LINE}
use Rattle.plan_reader.specs.Drafts.{Reading, is_open, may_say, instruction_of, put, take_form}
use Rattle.plan_reader.specs.Forms.{Wording, UnpackForm, ConfigureForm, DeconfigureForm, RemoveForm, BuildForm, PublishForm, WaitForm, WhenForm, ElseForm, Form, BlockForm, LaneForm, EndForm, UseForm, InstructionForm, form_at}
use Rattle.plan_reader.specs.PlanText.{take_text}
use Rattle.plan_reader.specs.Said.{Said, allows, standing_of, said_by, said_at, place}
use Rattle.plan_model.specs.Branches.{Side}

-- an instruction may stand where its kind may
may-say : (s : Side) (wording : Wording) → may_say s wording ≡ allows s (standing_of wording)
may-say s (UnpackForm name relation) = refl
may-say s (ConfigureForm names) = refl
may-say s (DeconfigureForm names) = refl
may-say s (RemoveForm names) = refl
may-say s (BuildForm recipe) = refl
may-say s (PublishForm recipe) = refl
may-say s (WaitForm entry) = refl
may-say s (WhenForm name relation) = refl
may-say s ElseForm = refl

module _ (u : Universe) (number : ℕ) (r : Reading) where
  -- what a form does is what is placed of it, its names looked up before
  pub placed-form : (form : Form) → take_form u number r form ≡ place u number r (said_by u form)
  unfolding take_form place
  placed-form (BlockForm name) = refl
  placed-form (LaneForm name chroot budget) = refl
  placed-form EndForm = refl
  placed-form (UseForm block) = refl
  placed-form (InstructionForm wording) =
      ap (λ may. if is_open r.draft.current && may then (instruction_of u wording >>= put number r)
      else Err BAD_LINE) (may-say r.side wording)

  -- what a line does is what is placed of it
  pub placed-line : (line : List ℕ) → take_text u number r line
      ≡ (said_at u line >>= place u number r)
  unfolding take_text said_at
  placed-line line = by (form_at line)
    where
      by : (f : Result Form ℕ)
          → (f >>= take_form u number r)
          ≡ ((f >>= λ form. Ok (said_by u form)) >>= place u number r)
      by (Ok form) = placed-form form
      by (Err code) = refl

  -- a line that was read, and is placed by what it says
  pub read-placed : (line : List ℕ) (said : Said) → said_at u line ≡ Ok said
      → take_text u number r line ≡ place u number r said
  read-placed line said is = placed-line line ∙ ap (λ s. s >>= place u number r) is

  -- its own fault is that of the line
  pub read-fails : {E : Type 0} (refusal : E → Option ℕ) (e : E) (line : List ℕ)
      → Fails refusal e (said_at u line) → Fails refusal e (take_text u number r line)
  read-fails refusal e line fails =
      fails-with refusal e (said_at u line) (take_text u number r line)
      (λ code is. placed-line line ∙ ap (λ s. s >>= place u number r) is) fails
