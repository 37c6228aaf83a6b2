use Rattle.std.proofs.Common.{◌≡◌, ℕ, ap, ◌∙◌, arith}
use Rattle.farm_model.specs.Common.{Universe, has_bit, initial, names, some_below, variant, word_has}
use Rattle.leg_laws.specs.Named.{is_listed}
use Rattle.std.specs.Prelude.{slice_index}
use Rattle.rest_farm.proofs.HeldLaws.{name_more, some_named}
use Rattle.rest_farm.proofs.left.list_initial.Goals as goal

-- the word of a name has the initial variants of it
initial-word : (u : Universe) (n word : ℕ) → word ≡ slice_index u.initial n → (b : ℕ)
    → word_has word b ≡ initial u (variant n b)
unfolding initial has_bit
initial-word u n word is b = ap (λ (w : ℕ). word_has w b) is

pub loop-name-preserved : goal.loop-name-preserved
loop-name-preserved c item =
    let u = c.args.farm.now in
    name_more u (initial u) item c.loop-name.name c.initial.result
    (is_listed c.loop-name.list.items item) (is_listed c.push_name.new.list.items item)
    (initial-word u c.loop-name.name c.initial.result c.initial.ensures)
    (c.loop-name.invariant item) (c.in_ok-push_name.ensures item)

pub returns : goal.returns
returns c item =
    let u = c.args.farm.now in
    let last : c.loop-name.name ≡ names u =
    omega (arith, c.names-name-end.ensures.number, c.loop-name-test.false) in
    c.loop-name.invariant item ∙ ap (λ n. some_below n (some_named u (initial u) item)) last
