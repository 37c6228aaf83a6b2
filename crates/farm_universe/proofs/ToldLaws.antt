-- Paragraph by paragraph: the laws of steps whose faults are told at their paragraph.
use Rattle.std.proofs.Common.{◌≡◌, ℕ, Bool, true, false, ◌==◌, if◌then◌else◌, List, [], ◌∷◌, ◌++◌, refl, ap, ◌∙◌, Option, Some, None, MatchOption, Result, Ok, Err}
use Rattle.deb_text.specs.Common.{Gives, placed, fault_at, refusal_of as fault_of, ◌>>=◌, answer, steps, goods, own_or, item_fault, read_step}
use Rattle.deb_text.proofs.StepLaws.{steps-judged, goods-push}
use Rattle.deb_stanza.specs.Stanza.{Paragraph}
use Rattle.farm_universe.specs.Told.{told, fault_told, paragraphs_judged}
use Rattle.farm_universe.specs.View.{code_of, refusal_of, field_told}
use Rattle.farm_universe.specs.declared.error.FieldFault.{FieldFault}

told-answer : {X : Type 0} (file : ℕ) (p : Paragraph) (code : Option ℕ) (x : X)
    → told file p (answer code x) ≡ answer (fault_told file p code) x
told-answer file p None x = refl
told-answer file p (Some code) x = refl

-- steps that keep the meaning of the paragraphs so far, their faults told at the paragraph
pub steps-told : {S : Type 0} (file : ℕ) (step : S → Paragraph → Result S ℕ)
    (judge : List Paragraph → Paragraph → Option ℕ) (meaning : List Paragraph → S)
    → ((before : List Paragraph) (p : Paragraph)
    → step (meaning before) p ≡ answer (judge before p) (meaning (before ++ p ∷ [])))
    → (ps : List Paragraph)
    → steps (λ s p. told file p (step s p)) (meaning []) ps
    ≡ paragraphs_judged file judge meaning ps
unfolding paragraphs_judged
steps-told file step judge meaning keeps ps =
    steps-judged (λ s p. told file p (step s p))
    (λ before p. fault_told file p (judge before p)) meaning
    (λ before p. ap (told file p) (keeps before p)
    ∙ told-answer file p (judge before p) (meaning (before ++ p ∷ []))) ps

module _ {P X S F : Type 0} (read : P → Result X F) (step : S → X → Result S F)
    (judge : List X → X → Option F) (meaning : List X → S) where
  -- a step that goes on by an item's value, where that one keeps the meaning of the values
  pub read_step-keeps : (before : List P) (p : P)
      → ((x : X) → read p ≡ Ok x
      → step (meaning (goods read before)) x
      ≡ answer (judge (goods read before) x) (meaning (goods read before ++ x ∷ [])))
      → read_step read step (meaning (goods read before)) p
      ≡ answer (item_fault read judge before p) (meaning (goods read (before ++ p ∷ [])))
  read_step-keeps before p keeps = by (read p) refl where
    by : (r : Result X F) → read p ≡ r
        → (r >>= step (meaning (goods read before)))
        ≡ answer (own_or r (judge (goods read before))) (meaning (goods read (before ++ p ∷ [])))
    by (Err e) is = refl
    by (Ok x) is = rw (goods-push read before p x is) (keeps x is)

placed-fails : {Y : Type 0} (file line code : ℕ) (read : Result Y ℕ) (memory : Bool)
    → (code == 900) ≡ memory
    → MatchOption (if memory then None else Some code) (Unit {0}) (λ c. read ≡ Err c)
    → MatchOption (fault_of (if memory then fault_at 0 0 900 else fault_at file line code))
    (Unit {0}) (λ fault. placed file line read ≡ Err fault)
placed-fails file line code read true is fails = tt
placed-fails file line code read false is fails = rw is (ap (placed file line) fails)

-- a function that gives what is read of a paragraph, its fault told at the paragraph's first line
pub gives_told : {X Y : Type 0} (view : X → Y) (file : ℕ) (p : Paragraph)
    (result : Result X FieldFault) (read : Result Y ℕ) → Gives refusal_of view result read
    → Gives fault_of view (field_told file p result) (told file p read)
gives_told view file p (Ok x) read gives = ap (told file p) gives
gives_told view file p (Err fault) read gives =
    placed-fails file p.line (code_of fault) read (code_of fault == 900) refl gives
