use Rattle.std.proofs.Common.{◌∙◌, ℕ, ◌<◌, Some, length, ap, sym, subst, arith}
use Rattle.std.proofs.lemmas.Option.{slice_get_within, slice_get-get_or}
use Rattle.item_index.specs.Items.{item, IsListed}
use Rattle.item_index.proofs.IndexLaws.{before_next}
use Rattle.leg_laws.specs.Named.{Item}
use Rattle.rest_farm.proofs.items.index_of.Goals as goal

pub loop-number-preserved : goal.loop-number-preserved
loop-number-preserved c =
    let items = c.args.list.now in
    let k = c.loop-number.number in
    let i = c.index-list-number.result in
    let lt : k < length items = omega arith in
    let there = slice_get-get_or items k i lt ∙ ap Some (sym c.index-list-number.is) in
    let step = c.in_ok-add.ensures in
    before_next
    (λ (k : ℕ) (i : Item). IsListed c.loop-number.index i.name (item k 0 0))
    (λ (k : ℕ) (i : Item). IsListed c.add.new.self i.name (item k 0 0)) items k i there
    (λ k i is. step.kept i.name (item k 0 0) is) c.loop-number.invariant
    (subst (λ name. IsListed c.add.new.self name (item k 0 0)) c.name.ensures step.there)

pub returns : goal.returns
returns c k i is =
    let within = slice_get_within c.args.list.now k i is in
    c.loop-number.invariant k i (omega (arith, within, c.loop-number-test.false)) is
