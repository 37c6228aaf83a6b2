use Rattle.std.proofs.Common.{◌∙◌, ℕ, ◌+◌, List, [], ◌∷◌, length-append, sym, ap, subst, arith}
use Rattle.std.proofs.lemmas.List.{get_or_default}
use Rattle.farm_model.specs.Packages.{variants}
use Rattle.sat_rows.specs.ByVariant.{AreValuesOfName}
use Rattle.sat_rows.specs.Entries.{AreNumbers, no_numbers}
use Rattle.sat_rows.specs.declared.found.NumberWord.{NumberWord}
use Rattle.sat_rows.specs.Links.{IsNumbered}
use Rattle.sat_rows.specs.Served.{wanted}
use Rattle.sat_rows.proofs.Gathered.{each_next}
use Rattle.sat_rows.proofs.wanted.all_wanted.Goals as goal

pub loop-name-preserved : goal.loop-name-preserved
loop-name-preserved c =
    let u = c.args.universe.now in
    let xs = c.loop-name.lists.items in
    let x = c.in_ok-wanted_name.field-0 in
    let so_far = c.loop-name.invariant in
    let long = length-append xs (x ∷ []) in
    record {
      long = rw c.in_ok-push.ensures.items (long ∙ ap (λ k. k + 1) so_far.long);
      each = λ entries are n lt.
          let P = λ (n : ℕ) (vs : List NumberWord). IsNumbered u wanted entries n (variants u n)
          vs in
          let here = c.in_ok-wanted_name.ensures entries
          (subst (AreValuesOfName u (AreNumbers u entries) no_numbers c.loop-name.name)
          (get_or_default c.args.numbers.now c.loop-name.name [] c.index-numbers-name.result
          (omega (arith, are.long, c.loop-name-test.true, c.names-name-end.ensures.number))
          ∙ sym c.index-numbers-name.is)
          (are.each c.loop-name.name
          (omega (arith, c.loop-name-test.true, c.names-name-end.ensures.number)))) in
          rw c.in_ok-push.ensures.items
          (each_next P xs x []
          (λ n lt. so_far.each entries are n (omega (arith, lt, so_far.long)))
          (subst (λ n. P n x) (sym so_far.long) here) n (omega (arith, lt, so_far.long)));
    }
