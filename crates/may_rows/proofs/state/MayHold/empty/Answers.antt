use Rattle.std.proofs.Common.{false, replicate, sym, ap, subst, ◌∙◌}
use Rattle.may_rows.specs.Words.{AreWords}
use Rattle.may_rows.proofs.BaseMaps.{nothing-words}
use Rattle.may_rows.proofs.state.MayHold.empty.Goals as goal

pub returns-clause-words : goal.returns-clause-words
returns-clause-words c =
    let many = ap (λ k. replicate k 0) c.names-names.ensures.number in
    subst (AreWords c.args.universe.now)
    (λ i. record {
      here = sym (c.in_ok-here.ensures ∙ many) i;
      ready = sym (c.in_ok-ready.ensures ∙ many) i;
      last = sym (c.in_ok-last.ensures ∙ many) i;
      both = sym (c.in_ok-both.ensures ∙ many) i;
      used = 0;
      cost = 0;
      built = sym (c.in_ok-built.ensures ∙ ap (λ k. replicate k false) c.recipes.ensures) i;
    })
    (nothing-words c.args.universe.now)
