use Rattle.std.proofs.Common.{◌≡◌, ℕ, ap, subst, ◌∙◌, arith}
use Rattle.farm_model.specs.Common.{Universe, names, some_below, variant, word_has}
use Rattle.leg_laws.specs.Named.{is_listed}
use Rattle.plan_model.specs.Common.{archive}
use Rattle.rest_farm.proofs.HeldLaws.{name_more, some_named}
use Rattle.rest_farm.proofs.left.list_left.Goals as goal

pub loop-name-preserved : goal.loop-name-preserved
loop-name-preserved c item =
    let u = c.args.universe.now in
    let published = c.args.run.now.state.published in
    name_more u (archive u published) item c.loop-name.name c.word.result
    (is_listed c.loop-name.list.items item) (is_listed c.push_name.new.list.items item)
    (subst (λ (k : Universe). (b : ℕ)
    → word_has c.word.result b ≡ archive k published (variant c.loop-name.name b)) c.requires
    c.word.ensures)
    (c.loop-name.invariant item) (c.in_ok-push_name.ensures item)

pub returns : goal.returns
returns c item =
    let u = c.args.universe.now in
    let last : c.loop-name.name ≡ names u =
    omega (arith, c.names-name-end.ensures.number, c.loop-name-test.false) in
    c.loop-name.invariant item
    ∙ ap (λ n. some_below n (some_named u (archive u c.args.run.now.state.published) item)) last
