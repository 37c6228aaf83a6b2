use Rattle.std.proofs.Common.{◌≡◌, inl, inr, true, sym, ap, ◌∙◌}
use Rattle.std.specs.List.{list_any}
use Rattle.std.proofs.lemmas.Bool.{cases_Bool, both_ways}
use Rattle.farm_model.specs.Packages.{names}
use Rattle.farm_model.proofs.BelowLaws.{some_below-found}
use Rattle.may_rows.specs.Met.{misses_at, some_misses, may_serve, Doubt}
use Rattle.may_rows.specs.Words.{may_of}
use Rattle.may_rows.proofs.MetAfter.{at_missed}
use Rattle.may_rows.proofs.settled.some_doubted.Goals as goal

pub returns-then-doubts : goal.returns-then-doubts
returns-then-doubts c =
    let u = c.args.universe.now in
    let m = may_of c.args.state.now in
    let view = c.doubts.view_is in
    let known : c.args.doubts.now.known ≡ true =
    sym (ap (λ (d : Doubt). d.known) view) ∙ c.if-doubts.true in
    let over : c.args.doubts.now.over ≡ c.deref.result.now =
    sym (ap (λ (d : Doubt). d.over) view) ∙ sym c.deref.ensures.value in
    elim (cases_Bool c.some_misses_over.result) [
      | inl found ↦ found ∙ sym (c.some_misses_over.ensures.some found)
      | inr lacks ↦ lacks ∙ sym (elim (cases_Bool (some_misses u m)) [
        | inr none ↦ none
        | inl some ↦
            let n = some_below-found (names u) (misses_at u m) some in
            let at = at_missed u m n.0 n.2 in
            absurd (both_ways _ (c.some_misses_over.ensures.none lacks n.0 at.0 at.1 at.2)
            (ap (list_any (may_serve u at.1)) (sym over)
            ∙ c.requires.doubts.among known n.0 at.0 at.1 at.2))
      ])
    ]
