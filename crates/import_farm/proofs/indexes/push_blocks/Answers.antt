use Rattle.std.proofs.Common.{subst, sym}
use Rattle.debian_index.specs.Index.{AreBlocks}
use Rattle.import_farm.proofs.MadeLaws.{blocks-of}
use Rattle.import_farm.proofs.indexes.push_blocks.Goals as goal

pub push_cut-requires : goal.push_cut-requires
push_cut-requires c =
    subst (AreBlocks c.args.text.now) (sym c.deref.ensures.value) c.in_ok-cut.ensures.within

pub returns : goal.returns
returns c =
    blocks-of c.args.text.now c.in_ok-cut.cut.items c.deref.result.now c.deref.ensures.value
    c.in_ok-cut.ensures.read c.in_ok-cut.ensures.within c.in_ok-cut.ensures.single
    c.args.blocks.now.items c.push_cut.new.blocks.items c.in_ok-push_cut.ensures
