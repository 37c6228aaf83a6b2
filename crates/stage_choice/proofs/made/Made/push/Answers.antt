use Rattle.std.proofs.Common.{◌++◌, ap, sym, subst, ◌∙◌}
use Rattle.stage_choice.specs.Orders.{given, AreReached}
use Rattle.stage_choice.specs.Marks.{AreMarked}
use Rattle.stage_choice.proofs.OrderLaws.{AreReached-more, given-more}
use Rattle.stage_choice.proofs.made.Made.push.Goals as goal

pub returns-clause-made : goal.returns-clause-made
returns-clause-made c =
    let builds = c.args.builds.now in
    let old = c.args.self.now.order.items in
    let before = c.requires.made in
    let longer = c.in_ok-push.ensures.items in
    record {
      reached = subst (AreReached builds) (sym longer)
          (AreReached-more builds old c.args.place before.reached c.requires.next);
      made_marks = subst (AreMarked c.mark.new.marks.items) (sym longer)
          (c.in_ok-mark.ensures old before.made_marks);
      given_marks = subst (AreMarked c.mark_all.new.marks.items)
          (sym (ap (given builds) longer ∙ given-more builds old c.args.place
          ∙ ap (λ rest. given builds old ++ rest) (sym c.gifts_of.ensures)))
          (c.in_ok-mark_all.ensures (given builds old) before.given_marks);
    }
