use Rattle.std.proofs.Common.{sym, ap, ◌∙◌}
use Rattle.clause_kernel.specs.Rows.{word_has}
use Rattle.farm_model.specs.Packages.{variant}
use Rattle.plan_model.specs.May.{Bits, some_of}
use Rattle.may_rows.proofs.Bridges.{hold-is}
use Rattle.may_rows.proofs.members.may_hold.Goals as goal

pub returns : goal.returns
returns g c =
    let u = c.args.universe.now in
    let n = c.args.name in
    let bits : Bits = λ b. g.T.VariantTest.test u c.args.test.now (variant n b) in
    c.some_of.ensures
    ∙ ap (λ word. some_of u n (word_has word) bits) c.here_word.ensures
    ∙ sym (hold-is u n bits _ _ _ _ (c.requires.words.each n))
