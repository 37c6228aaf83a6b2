use Rattle.std.proofs.Common.{◌∙◌, ℕ, ◌<◌, List, Some, length, ap, sym, subst, arith}
use Rattle.std.proofs.lemmas.Option.{slice_get_within, slice_get-get_or}
use Rattle.item_index.specs.Items.{item, IsListed}
use Rattle.item_index.proofs.IndexLaws.{before_next}
use Rattle.rest_farm.proofs.names.index_of.Goals as goal

pub loop-number-preserved : goal.loop-number-preserved
loop-number-preserved c =
    let names = c.args.list.now in
    let k = c.loop-number.number in
    let name = c.index-list-number.result in
    let lt : k < length names = omega arith in
    let there = slice_get-get_or names k name lt ∙ ap Some (sym c.index-list-number.is) in
    let step = c.in_ok-add.ensures in
    before_next
    (λ (k : ℕ) (name : List ℕ). IsListed c.loop-number.index name (item k 0 0))
    (λ (k : ℕ) (name : List ℕ). IsListed c.add.new.self name (item k 0 0)) names k name there
    (λ k name is. step.kept name (item k 0 0) is) c.loop-number.invariant
    (subst (λ text. IsListed c.add.new.self text (item k 0 0)) c.bytes.ensures step.there)

pub returns : goal.returns
returns c k name is =
    let within = slice_get_within c.args.list.now k name is in
    c.loop-number.invariant k name (omega (arith, within, c.loop-number-test.false)) is
