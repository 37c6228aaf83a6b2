use Rattle.std.proofs.Common.{inr, ap, Some, rules}
use Rattle.plan_reader.specs.declared.blocks.Part.TheVariants.{Use}
use Rattle.plan_reader.proofs.blocks.close.Goals as goal

pub returns-in_ok-push-in_default : goal.returns-in_ok-push-in_default
returns-in_ok-push-in_default c =
    inr (
      _,
      c.in_ok-push-in_default.ensures.items,
      c.reverse.ensures.items,
      ap (λ n. Some (Use n))
          (search (rules, c.len-place.ensures)),
    )
