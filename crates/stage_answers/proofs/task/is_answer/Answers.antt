use Rattle.std.proofs.Common.{length, subst, sym, ◌∙◌}
use Rattle.std.proofs.lemmas.Bool.{and_parts}
use Rattle.stage_choice.specs.Orders.{LeadsTo}
use Rattle.stage_answers.proofs.task.is_answer.Goals as goal

pub returns : goal.returns
returns c said =
    let both = and_parts c.in_ok-in_order.in_order c.are_met-met.result (sym c.both.ensures ∙ said) in
    record {
      in_order = record {
        builds = c.in_ok-builds.builds.items;
        numbers = c.in_ok-builds.ensures;
        reached = subst (λ builds. LeadsTo builds c.args.order.now (length c.args.ways.now))
            c.deref.ensures.value (c.in_ok-in_order.ensures.0 both.0);
      };
      met = sym c.are_met-met.ensures ∙ both.1;
    }
