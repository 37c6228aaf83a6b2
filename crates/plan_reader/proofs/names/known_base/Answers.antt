use Rattle.std.proofs.Common.{◌≡◌, ◌<◌, false, get_or, [], length, sym, ap, ◌∙◌, arith}
use borrow.Author.Count.{below_more}
use Rattle.std.specs.Str.{bytes_eq}
use Rattle.std.proofs.lemmas.List.{length-map}
use Rattle.farm_model.specs.Universe.{Base}
use Rattle.plan_reader.specs.Drafts.{base_names, or_unknown, known_base}
use Rattle.plan_reader.proofs.Places.{base-name, place-first, place-none}
use Rattle.plan_reader.proofs.names.known_base.Goals as goal

pub returns-then-eq : goal.returns-then-eq
unfolding known_base
returns-then-eq c =
    let u = c.args.universe.now in
    let name = base-name u c.loop-base.base in
    let lt : c.loop-base.base < length (base_names u) =
    omega (arith, length-map u.bases (λ (b : Base). b.name)) in
    ap or_unknown (place-first (base_names u) c.args.word.now c.loop-base.base lt
    c.loop-base.invariant
    (rw (name, ← c.base.ensures, ← c.name.ensures) (sym c.eq.ensures ∙ c.if-eq.true)))

pub loop-base-preserved : goal.loop-base-preserved
loop-base-preserved c =
    let u = c.args.universe.now in
    let name = base-name u c.loop-base.base in
    below_more (λ j. bytes_eq c.args.word.now (get_or (base_names u) j []) ≡ false)
    c.loop-base.base c.loop-base.invariant
    (rw (name, ← c.base.ensures, ← c.name.ensures) (sym c.eq.ensures ∙ c.if-eq.false))

pub returns : goal.returns
unfolding known_base
returns c =
    let u = c.args.universe.now in
    ap or_unknown (place-none (base_names u) c.args.word.now (λ j lt. c.loop-base.invariant j
    (omega (arith, lt, length-map u.bases (λ (b : Base). b.name)))))
