use Rattle.std.proofs.Common.{◌||◌, sym, ap, ◌∙◌}
use Rattle.may_rows.specs.Met.{some_misses}
use Rattle.may_rows.specs.Words.{may_of}
use Rattle.may_rows.proofs.MetWords.{unsettled-is}
use Rattle.may_rows.proofs.settled.may_be_unsettled.Goals as goal

pub returns-then-some_unpacked : goal.returns-then-some_unpacked
returns-then-some_unpacked c =
    let u = c.args.universe.now in
    let m = may_of c.args.state.now in
    c.if-some_unpacked.true
    ∙ sym (unsettled-is u m
    ∙ ap (λ t. t || some_misses u m)
    (sym (c.some_unpacked.ensures u c.requires.state c.requires.doubts) ∙ c.if-some_unpacked.true))

pub returns-else-some_unpacked : goal.returns-else-some_unpacked
returns-else-some_unpacked c =
    let u = c.args.universe.now in
    let m = may_of c.args.state.now in
    c.some_doubted.ensures
    ∙ sym (unsettled-is u m
    ∙ ap (λ t. t || some_misses u m)
    (sym (c.some_unpacked.ensures u c.requires.state c.requires.doubts) ∙ c.if-some_unpacked.false))
