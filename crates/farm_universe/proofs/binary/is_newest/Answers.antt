use Rattle.std.proofs.Common.{◌≡◌, ◌-◌, true, inl, inr, length, sym, ◌∙◌, subst, arith}
use Rattle.std.proofs.lemmas.Bool.{cases_eq, eq-eqb, false≢true}
use Rattle.farm_universe.specs.PackagesText.{is_below}
use Rattle.farm_universe.proofs.FitLaws.{under-all}
use Rattle.farm_universe.proofs.binary.is_newest.Goals as goal

pub returns-else-is_empty : goal.returns-else-is_empty
returns-else-is_empty c newer =
    let gs = c.args.given.now in
    elim (cases_eq (length gs) 0) [
      | inl none ↦ absurd (false≢true
          (sym c.if-is_empty.false ∙ c.is_empty.ensures ∙ eq-eqb (length gs) 0 none))
      | inr some ↦
          under-all c.args.binary.now c.index-given-given.result gs c.requires (length gs - 1)
          (omega (arith, some))
          (subst (λ w. is_below w c.args.binary.now ≡ true) c.index-given-given.is
          (sym c.is_below.ensures ∙ newer))
    ]
