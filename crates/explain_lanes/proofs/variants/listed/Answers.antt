use Rattle.std.proofs.Common.{◌≡◌, ◌+◌, ◌++◌, sym, ap, ◌∙◌, add-one, arith}
use Rattle.farm_model.specs.Packages.{names, word_has}
use Rattle.explain_reasons.specs.Listed.{all_below, variants_in}
use Rattle.explain_lanes.specs.Waits.{in_row}
use Rattle.explain_lanes.proofs.Fields.{by_row, skipped}
use Rattle.explain_lanes.proofs.variants.listed.Goals as goal

pub loop-name-preserved : goal.loop-name-preserved
loop-name-preserved c =
    let variants = in_row c.args.universe.now c.args.row.now in
    let n = c.loop-name.name in
    record {
      within = c.skip-name.ensures.inside;
      found = c.in_ok-push_variants.ensures.held
          ∙ (λ i. c.loop-name.invariant.found i
          ++ variants_in c.args.universe.now n (word_has (c.word.ensures.word i)))
          ∙ ap (λ k. all_below k variants) (sym (add-one n))
          ∙ skipped c.args.universe.now c.args.row.now (n + 1) c.skip-name.result
          c.skip-name.ensures.behind c.skip-name.ensures.none;
    }

pub returns : goal.returns
returns c test is =
    let u = c.args.universe.now in
    let end : c.loop-name.name ≡ names u = omega (
      arith,
      c.loop-name-test.false,
      c.loop-name.invariant.within,
      c.requires,
      c.names-names.ensures.number,
    ) in
    c.loop-name.invariant.found
    ∙ ap (λ k. all_below k (in_row u c.args.row.now)) end ∙ by_row u c.args.row.now test is
