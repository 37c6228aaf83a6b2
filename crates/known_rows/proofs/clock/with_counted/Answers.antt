use Rattle.std.proofs.Common.{inl, inr, refl, sym, subst, ◌∙◌}
use Rattle.std.proofs.lemmas.Bool.{or_cases, or_left, or_right, eq-eqb, eqb-true}
use Rattle.bit_rows.proofs.OneName.{joined_bit}
use Rattle.clause_kernel.specs.Rows.{word_has}
use Rattle.known_rows.specs.Clock.{count_of, IsCounted}
use Rattle.known_rows.proofs.ClockWords.{counted_one, counted_small}
use Rattle.known_rows.proofs.clock.with_counted.Goals as goal

pub overflow_shl-result : goal.overflow_shl-result
overflow_shl-result c =
    counted_small c.args.known.universe.now c.args.known.lanes.now (count_of c.args.clock.now)
    c.args.place
    c.args.name c.in-Some.bit c.args.known.sound c.args.known.known c.in-Some.ensures.some

pub returns-in-Some-clause-kept : goal.returns-in-Some-clause-kept
returns-in-Some-clause-kept c b h =
    let small =
    counted_small c.args.known.universe.now c.args.known.lanes.now (count_of c.args.clock.now)
    c.args.place
    c.args.name c.in-Some.bit c.args.known.sound c.args.known.known c.in-Some.ensures.some in
    joined_bit c.args.word c.in-Some.bit b small ∙ or_left (word_has c.args.word b) _ h

pub returns-in-Some-clause-counted : goal.returns-in-Some-clause-counted
returns-in-Some-clause-counted c b is =
    let x = count_of c.args.clock.now in
    let some = c.in-Some.ensures.some in
    let small =
    counted_small c.args.known.universe.now c.args.known.lanes.now x c.args.place c.args.name
    c.in-Some.bit
    c.args.known.sound c.args.known.known some in
    let same = counted_one c.args.known.lanes.now x c.args.place c.args.name b c.in-Some.bit is some
    in
    joined_bit c.args.word c.in-Some.bit b small
    ∙ or_right (word_has c.args.word b) _ (eq-eqb b c.in-Some.bit same)

pub returns-in-Some-clause-only : goal.returns-in-Some-clause-only
returns-in-Some-clause-only c b h =
    let x = count_of c.args.clock.now in
    let some = c.in-Some.ensures.some in
    let small =
    counted_small c.args.known.universe.now c.args.known.lanes.now x c.args.place c.args.name
    c.in-Some.bit
    c.args.known.sound c.args.known.known some in
    elim (or_cases (word_has c.args.word b) _
    (sym (joined_bit c.args.word c.in-Some.bit b small) ∙ h)) [
      | inl old ↦ inl old
      | inr new ↦
          inr (subst (IsCounted c.args.known.lanes.now x c.args.place c.args.name)
          (sym (eqb-true b c.in-Some.bit new)) some)
    ]

pub returns-in-None-clause-counted : goal.returns-in-None-clause-counted
returns-in-None-clause-counted c b is = absurd (c.in-None.ensures.none refl b is)
