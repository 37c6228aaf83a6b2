use Rattle.std.proofs.Common.{sym, ◌∙◌}
use Rattle.deb_text.specs.Classes.{in_class}
use Rattle.deb_text.proofs.CutLaws.{without_end-shorter, without_end-whole}
use Rattle.deb_text.proofs.cuts.skip_end.Goals as goal

pub returns-then-not-has : goal.returns-then-not-has
returns-then-not-has c =
    let stays = sym c.has.ensures ∙ c.if-not-has.true in
    sym (without_end-whole (in_class c.args.class)
    c.loop-rest.rest.now 0 c.in-len1-up.len_at_least stays)
    ∙ c.loop-rest.invariant

pub loop-rest-preserved : goal.loop-rest-preserved
loop-rest-preserved c =
    let goes = sym c.has.ensures ∙ c.if-not-has.false in
    without_end-shorter (in_class c.args.class)
    c.loop-rest.rest.now 0 c.in-len1-up.len_at_least goes
    ∙ c.loop-rest.invariant
