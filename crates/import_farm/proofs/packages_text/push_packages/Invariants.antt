use Rattle.import_farm.specs.Made.{IsMadeOf, IsOneOf, IsWholeOrAnew}
use Rattle.import_farm.proofs.packages_text.push_packages.Given as goal

abbrev pub invariant-loop-variants : goal.invariant-loop-variants
invariant-loop-variants l =
    IsMadeOf (IsWholeOrAnew (IsOneOf l.blocks)) l.fn.text.items l.text.items

abbrev pub invariant-loop-variant : goal.invariant-loop-variant
invariant-loop-variant l =
    IsMadeOf (IsWholeOrAnew (IsOneOf l.blocks)) l.fn.text.items l.text.items
