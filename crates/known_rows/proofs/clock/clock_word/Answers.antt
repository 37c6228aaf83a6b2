use Rattle.std.proofs.Common.{length, refl, ap, subst, arith}
use Rattle.std.specs.Prelude.{slice_index}
use Rattle.known_rows.specs.declared.by_name.OutputPlace.{OutputPlace}
use Rattle.known_rows.specs.Clock.{count_of}
use Rattle.known_rows.proofs.ClockWords.{IsWordSoFar, word_start, word_next, word_is}
use Rattle.known_rows.proofs.clock.clock_word.Goals as goal

none : OutputPlace
none = record { lane = 0; number = 0 }

pub loop-k-init : goal.loop-k-init
loop-k-init c =
    word_start c.args.known.lanes.now (count_of c.args.clock.now) c.places-places.result.now
    c.args.name
    (slice_index c.args.known.universe.now.initial c.args.name) c.initial-word.result
    c.initial-word.ensures

pub loop-k-preserved : goal.loop-k-preserved
unfolding none
loop-k-preserved c =
    word_next c.args.known.lanes.now (count_of c.args.clock.now) c.places-places.result.now
    c.args.name
    (slice_index c.args.known.universe.now.initial c.args.name) c.loop-k.k none c.loop-k.word
    c.with_counted-word.result c.loop-k.invariant c.with_counted-word.ensures.kept
    c.with_counted-word.ensures.counted c.with_counted-word.ensures.only

pub returns : goal.returns
returns c p are =
    let u = c.args.known.universe.now in
    let x = count_of c.args.clock.now in
    let list = c.places-places.result.now in
    let first = slice_index u.initial c.args.name in
    word_is u p c.args.known.lanes.now c.args.known.sound are x c.args.by_name.now c.requires.listed
    c.args.name first c.loop-k.k c.loop-k.word refl
    (omega (arith, c.loop-k-test.false, ap length c.places-places.ensures))
    (subst (λ xs. IsWordSoFar c.args.known.lanes.now x xs c.args.name first c.loop-k.k
    c.loop-k.word)
    c.places-places.ensures c.loop-k.invariant)
