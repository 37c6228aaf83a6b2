-- What the form of a line keeps: a budget is small.
use Rattle.std.proofs.Common.{◌≡◌, ℕ, ◌<◌, ◌^◌, Bool, true, false, ◌&&◌, List, [], ◌∷◌, refl, Result, Ok, Err, IfOk}
use Rattle.std.specs.Prelude.{codes}
use Rattle.std.specs.Str.{bytes_eq}
use Rattle.deb_text.proofs.AgainLaws.{number-small}
use Rattle.deb_text.specs.Common.{is_nil, is_number, number_at, ◌>>=◌, words, is_word}
use Rattle.plan_reader.specs.Forms.{Wording, Form, BlockForm, LaneForm, EndForm, UseForm, InstructionForm, lane_with, lane_form, one_word, wording_by, form_at, first_word, behind_word}
use Rattle.deb_text.proofs.CarriedLaws.{if-has}

abbrev pub IsForm : Form → Type 0
IsForm (BlockForm name) = Unit {0}
IsForm (LaneForm name chroot budget) = budget < 10 ^ 15
IsForm EndForm = Unit {0}
IsForm (UseForm block) = Unit {0}
IsForm (InstructionForm wording) = Unit {0}

lane_with-has : (name chroot budget : List ℕ)
    → IfOk (lane_with name chroot (number_at budget)) IsForm
lane_with-has name chroot budget = go (is_number budget) refl where
  go : (b : Bool) → is_number budget ≡ b → IfOk (lane_with name chroot (number_at budget)) IsForm
  go true is = rw is (number-small budget is)
  go false is = rw is tt

lane_form-has : (ws : List (List ℕ)) → IfOk (lane_form ws) IsForm
lane_form-has [] = tt
lane_form-has (a ∷ []) = tt
lane_form-has (a ∷ b ∷ []) = tt
lane_form-has (a ∷ b ∷ c ∷ []) = tt
lane_form-has (a ∷ b ∷ c ∷ d ∷ []) = tt
lane_form-has (a ∷ b ∷ c ∷ d ∷ e ∷ []) =
    if-has IsForm
    (is_word a && bytes_eq b (codes "chroot") && is_word c && bytes_eq d (codes "budget")) _ _
    (λ _. lane_with-has a c e) (λ _. tt)
lane_form-has (a ∷ b ∷ c ∷ d ∷ e ∷ f ∷ ws) = tt

block-has : (r : Result (List ℕ) ℕ) → IfOk (r >>= λ (name : List ℕ). Ok (BlockForm name)) IsForm
block-has (Ok name) = tt
block-has (Err code) = tt

use-has : (r : Result (List ℕ) ℕ) → IfOk (r >>= λ (block : List ℕ). Ok (UseForm block)) IsForm
use-has (Ok block) = tt
use-has (Err code) = tt

instruction-has : (r : Result Wording ℕ)
    → IfOk (r >>= λ (wording : Wording). Ok (InstructionForm wording)) IsForm
instruction-has (Ok wording) = tt
instruction-has (Err code) = tt

pub form-has : (line : List ℕ) → IfOk (form_at line) IsForm
unfolding form_at
form-has line =
    if-has IsForm (bytes_eq (first_word line) (codes "lane")) _ _
    (λ _. lane_form-has (words (behind_word line)))
    (λ _. if-has IsForm (bytes_eq (first_word line) (codes "end")) _ _
    (λ _. if-has IsForm (is_nil (words (behind_word line))) _ _ (λ _. tt) (λ _. tt))
    (λ _. if-has IsForm (bytes_eq (first_word line) (codes "block")) _ _
    (λ _. block-has (one_word (words (behind_word line))))
    (λ _. if-has IsForm (bytes_eq (first_word line) (codes "use")) _ _
    (λ _. use-has (one_word (words (behind_word line))))
    (λ _. instruction-has (wording_by (first_word line) (behind_word line))))))
