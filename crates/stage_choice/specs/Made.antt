-- What a list of builds and its marks say.
use Rattle.std.specs.Prelude.{List}
use Rattle.stage_choice.specs.declared.build.StagedBuild.{StagedBuild}
use Rattle.stage_choice.specs.declared.made.Made.{Made}
use Rattle.stage_choice.specs.Orders.{given, AreReached}
use Rattle.stage_choice.specs.Marks.{AreMarked}

-- the order can be made, and the marks are those of its builds and of what they give
pub record IsMade (builds : List StagedBuild) (made : Made) : Type 0 where
  pub reached : AreReached builds made.order.items
  pub made_marks : AreMarked made.is_made.items made.order.items
  pub given_marks : AreMarked made.is_given.items (given builds made.order.items)
