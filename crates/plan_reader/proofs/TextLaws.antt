-- A fact of what is read, carried along the lines of a text to its plan.
use Rattle.std.proofs.Common.{ℕ, List, [], ◌∷◌, IfOk}
use Rattle.std.specs.Prelude.{codes}
use Rattle.deb_stanza.specs.Plain.{plain_lines_at}
use Rattle.deb_text.specs.Common.{Line, is_head}
use Rattle.farm_model.specs.Universe.{Universe}
use Rattle.farm_universe.specs.Told.{in_file}
use Rattle.plan_reader.specs.declared.error.TheConstants.{FILE}
use Rattle.plan_reader.specs.Drafts.{Block, Open, Nothing, InBlock, InLane, Reading, unread, take_form}
use Rattle.plan_reader.specs.Ends.{finished}
use Rattle.plan_reader.specs.Forms.{Form, form_at}
use Rattle.plan_reader.specs.PlanText.{take_text, take_line, reading_of, plan_in, plan_of}
use Rattle.plan_model.specs.Common.{Side, Lane, Plan}
use Rattle.deb_text.proofs.CarriedLaws.{if-has, then-has, steps-keep, placed-has, always}

-- F holds of each form that a line has, and D before the first line and of what a form makes of
-- what is read
module _ (u : Universe) (F : Form → Type 0) (D : Reading → Type 0)
    (form-has : (line : List ℕ) → IfOk (form_at line) F)
    (take-has : (number : ℕ) (r : Reading) (form : Form) → D r → F form
    → IfOk (take_form u number r form) D)
    (unread-has : D unread) where
  line-has : (r : Reading) (line : Line) → D r → IfOk (take_line u r line) D
  unfolding take_text
  line-has r (number, line) is =
      placed-has D FILE number _
      (then-has F D (form_at line) _ (form-has line) (λ form fine. take-has number r form is fine))

  pub reading-has : (ls : List Line) → IfOk (reading_of u ls) D
  unfolding reading_of
  reading-has ls = steps-keep (take_line u) D line-has ls unread unread-has

  -- P holds of the lanes of a draft that ends
  module _ (P : Plan → Type 0)
      (ends : (bs : List Block) (ls : List Lane) (s : Side)
      → D (record { draft = record { blocks = bs; lanes = ls; current = Nothing }; side = s })
      → P ls) where
    finished-has : (bs : List Block) (ls : List Lane) (o : Open) (s : Side)
        → D (record { draft = record { blocks = bs; lanes = ls; current = o }; side = s })
        → IfOk (finished ls o s) P
    finished-has bs ls Nothing s is = ends bs ls s is
    finished-has bs ls (InBlock line b) s is = tt
    finished-has bs ls (InLane line l) s is = tt

    lines-has : (ls : List Line) → IfOk (plan_in u ls) P
    lines-has [] = tt
    lines-has ((number, line) ∷ ls) =
        if-has P (is_head (codes "plan") line) _ _
        (λ _. then-has D P (reading_of u ls) _ (reading-has ls)
        (λ r is. finished-has r.draft.blocks r.draft.lanes r.draft.current r.side is))
        (λ _. tt)

    pub plan-has : (text : List ℕ) → IfOk (plan_of u text) P
    unfolding plan_of
    plan-has text =
        then-has (λ _. Unit {0}) P (in_file FILE (plain_lines_at text)) _
        (always (in_file FILE (plain_lines_at text))) (λ ls _. lines-has ls)
