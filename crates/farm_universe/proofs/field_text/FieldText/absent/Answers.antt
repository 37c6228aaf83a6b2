use Rattle.std.proofs.Common.{ap, ◌∙◌}
use Rattle.farm_universe.specs.FieldView.{entries_said}
use Rattle.farm_universe.proofs.FieldTextLaws.{nothing-kept, nothing-said}
use Rattle.farm_universe.proofs.field_text.FieldText.absent.Goals as goal

pub invariant_of-result : goal.invariant_of-result
invariant_of-result c = rw c.new.ensures.items (nothing-kept c.args.kind)

pub returns : goal.returns
returns c = ap (entries_said c.args.kind) c.new.ensures.items ∙ nothing-said c.args.kind
