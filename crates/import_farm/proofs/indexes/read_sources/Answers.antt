use Rattle.std.proofs.Common.{ℕ, List, Bor, subst}
use Rattle.import_farm.specs.Made.{GetsBlocks, IsBlockIn}
use Rattle.import_farm.proofs.MadeLaws.{all-gotten}
use Rattle.import_farm.proofs.indexes.read_sources.Goals as goal

pub returns : goal.returns
returns g c =
    let Is = IsBlockIn c.args.texts.now in
    all-gotten Is c.add_all.new.blocks.items
    (subst (λ (old : List (Bor (List ℕ))). GetsBlocks Is old c.add_all.new.blocks.items)
    c.new-blocks.ensures.items c.in_ok-add_all.ensures)
