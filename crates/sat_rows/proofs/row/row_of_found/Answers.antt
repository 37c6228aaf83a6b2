use Rattle.std.proofs.Common.{◌<◌, length, get_or, subst, sym, ◌∙◌, arith}
use Rattle.std.proofs.lemmas.List.{get_or_default}
use Rattle.bit_rows.specs.Sets.{variants_of}
use Rattle.sat_rows.specs.Found.{IsFound}
use Rattle.sat_rows.proofs.FoundLaws.{no_word, found_next, found_row}
use Rattle.sat_rows.proofs.row.row_of_found.Goals as goal

pub loop-found-preserved : goal.loop-found-preserved
loop-found-preserved c =
    let so_far = c.loop-found.invariant in
    let ws = c.words-found-items.result.now in
    let i = c.loop-found.found-index in
    let old = c.loop-found.row in (
      c.in_ok-add_word.ensures.len ∙ so_far.0,
      λ n b lt.
          let there : n < length old = omega (arith, lt, c.in_ok-add_word.ensures.len) in
          found_next ws i (get_or ws i no_word) n b (variants_of old n b)
          (variants_of c.add_word.new.row n b) c.loop-found-test.true
          (get_or_default ws i no_word _ c.loop-found-test.true) (so_far.1 n b there)
          (c.in_ok-add_word.ensures.set n b there),
    )

pub returns-clause-set : goal.returns-clause-set
returns-clause-set c p found =
    let u = c.args.universe.now in
    found_row u c.words-found-items.result.now c.loop-found.found-index c.loop-found.row
    c.loop-found.invariant.0 (omega arith) c.loop-found.invariant.1 p
    (subst (IsFound u p) (sym c.words-found-items.ensures) found)
