-- What is said of the texts of what is left of a run.
use Rattle.std.proofs.Common.{◌≡◌, ℕ, List, subst}
use Rattle.leg_laws.specs.Named.{Item}
use Rattle.plan_reader.specs.Input.{Texts}
use Rattle.rest_farm.specs.declared.judgement.RestTexts.{RestTexts}
use Rattle.rest_texts.specs.Afters.{IsRestAfter, OfAfter, OfRest}
use Rattle.rest_texts.specs.declared.after.After.{After}
use Rattle.rest_texts.specs.declared.after.After.TheVariants.{Rest as OfRun, Ended, Misfit}
use Rattle.rest_texts.specs.declared.rest.Rest.{Rest}
use Rattle.rest_texts.specs.declared.rest.Rest.TheVariants.{Texts as Made, Refused, Wrong}

module _ (P Q : RestTexts → Type 0) (so : (made : RestTexts) → P made → Q made) where
  of-rest : (rest : Rest) → OfRest P rest → OfRest Q rest
  of-rest (Made made sketch lines) is = so made is
  of-rest (Refused lines) is = tt
  of-rest Wrong is = tt

  pub of-after : (after : After) → OfAfter P after → OfAfter Q after
  of-after (OfRun rest) is = of-rest rest is
  of-after (Ended run) is = tt
  of-after (Misfit line) is = tt

-- the same run, asked by the same words
pub of-same-run : (texts texts' : Texts) (journal journal' : List ℕ)
    (came came' withdrawn withdrawn' : List Item) (made : RestTexts) → texts ≡ texts'
    → journal ≡ journal' → came ≡ came' → withdrawn ≡ withdrawn'
    → IsRestAfter texts journal came withdrawn made → IsRestAfter texts' journal' came' withdrawn' made
of-same-run texts texts' journal journal' came came' withdrawn withdrawn' made t j c w is =
    subst (λ x. IsRestAfter x journal' came' withdrawn' made) t
    (subst (λ x. IsRestAfter texts x came' withdrawn' made) j
    (subst (λ x. IsRestAfter texts journal x withdrawn' made) c
    (subst (λ x. IsRestAfter texts journal came x made) w is)))
