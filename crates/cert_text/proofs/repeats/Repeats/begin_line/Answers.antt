use Rattle.std.proofs.Common.{sym, subst}
use Rattle.cert_text.specs.Items.{EachIsSaid}
use Rattle.cert_text.proofs.Repeated.{later-said}
use Rattle.cert_text.proofs.repeats.Repeats.begin_line.Goals as goal

pub returns : goal.returns
returns c u each =
    rw (c.swap.ensures.x_after, c.clear.ensures.items)
    (later-said u c.self.inside.earlier.items c.self.inside.later.items
    (subst (EachIsSaid u) (sym c.self.view_is) each))
