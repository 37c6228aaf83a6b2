use Rattle.std.proofs.Common.{length, sym, ◌∙◌, arith}
use Rattle.deb_stanza.specs.Keys.{is_name_byte}
use Rattle.deb_stanza.proofs.FrontLaws.{cut-front}
use Rattle.deb_stanza.proofs.fields.split_name.Goals as goal

pub returns-then-not-is_name_byte-clause-name : goal.returns-then-not-is_name_byte-clause-name
returns-then-not-is_name_byte-clause-name c =
    c.split_at.ensures.front
    ∙ (cut-front is_name_byte c.args.text.now c.loop-place.place (omega arith)
    c.loop-place.invariant
    (λ _. sym c.is_name_byte.ensures ∙ c.if-not-is_name_byte.true)).0

pub returns-then-not-is_name_byte-clause-rest : goal.returns-then-not-is_name_byte-clause-rest
returns-then-not-is_name_byte-clause-rest c =
    c.split_at.ensures.back
    ∙ (cut-front is_name_byte c.args.text.now c.loop-place.place (omega arith)
    c.loop-place.invariant
    (λ _. sym c.is_name_byte.ensures ∙ c.if-not-is_name_byte.true)).1

pub returns-clause-name : goal.returns-clause-name
returns-clause-name c =
    c.split_at-2.ensures.front
    ∙ (cut-front is_name_byte c.args.text.now (length c.args.text.now) (omega arith)
    (λ i lt. c.loop-place.invariant i (omega (arith, lt, c.loop-place-test.false)))
    (λ lt. absurd (omega (arith, lt)))).0

pub returns-clause-rest : goal.returns-clause-rest
returns-clause-rest c =
    c.split_at-2.ensures.back
    ∙ (cut-front is_name_byte c.args.text.now (length c.args.text.now) (omega arith)
    (λ i lt. c.loop-place.invariant i (omega (arith, lt, c.loop-place-test.false)))
    (λ lt. absurd (omega (arith, lt)))).1
