use Rattle.std.proofs.Common.{ℕ, List, Bor, subst}
use Rattle.import_farm.specs.Made.{GetsBlocks, IsBlockIn}
use Rattle.import_farm.proofs.MadeLaws.{blocks-both}
use Rattle.import_farm.proofs.indexes.read_packages.Goals as goal

pub returns : goal.returns
returns g c =
    blocks-both c.args.target.now c.args.archive.now c.add_all.new.blocks.items
    c.add_all-2.new.blocks.items
    (subst (λ (old : List (Bor (List ℕ))). GetsBlocks (IsBlockIn c.args.target.now) old
    c.add_all.new.blocks.items) c.new-blocks.ensures.items c.in_ok-add_all.ensures)
    c.in_ok-add_all-2.ensures
