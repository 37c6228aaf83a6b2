use Rattle.std.proofs.Common.{◌≡◌, ◌∙◌, ◌<◌, ℕ, Some, None, ap, sym, length, arith}
use Rattle.std.proofs.lemmas.Option.{slice_get-get_or, slice_get_within}
use Rattle.item_index.proofs.IndexLaws.{before_next}
use Rattle.rest_farm.specs.declared.words.SaidWord.{SaidWord}
use Rattle.rest_farm.specs.Words.{fault_of}
use Rattle.rest_farm.proofs.words.first_fault.Goals as goal

pub loop-place-preserved : goal.loop-place-preserved
loop-place-preserved c =
    let words = c.args.words.now in
    let k = c.loop-place.place in
    let said = c.index-words-place.result in
    let lt : k < length words = omega arith in
    let there = slice_get-get_or words k said lt ∙ ap Some (sym c.index-words-place.is) in
    before_next
    (λ (k : ℕ) (said : SaidWord). fault_of c.args.rules said ≡ None)
    (λ (k : ℕ) (said : SaidWord). fault_of c.args.rules said ≡ None) words k said there
    (λ k said is. is) c.loop-place.invariant (sym c.in-None.ensures)

pub returns-clause-fine : goal.returns-clause-fine
returns-clause-fine c k said at =
    let within = slice_get_within c.args.words.now k said at in
    c.loop-place.invariant k said (omega (arith, within, c.loop-place-test.false)) at
