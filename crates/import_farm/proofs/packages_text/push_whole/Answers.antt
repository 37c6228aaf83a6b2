use Rattle.std.proofs.Common.{refl, sym}
use Rattle.import_farm.specs.Rewriting.{closed}
use Rattle.import_farm.specs.Made.{IsOneOf, IsWhole}
use Rattle.import_farm.proofs.MadeLaws.{made-one}
use Rattle.import_farm.proofs.packages_text.push_whole.Goals as goal

pub returns : goal.returns
returns c =
    made-one (IsWhole (IsOneOf c.args.blocks.now)) c.args.text.now.items
    (closed c.in-Some.block.now.now) c.push_block.new.text.items
    c.extend_from_slice.new.self.items c.in_ok-push_block.ensures
    c.in_ok-extend_from_slice.ensures.items (
      c.in-Some.block.now.now,
      (
        c.in-Some.block.now,
        (c.args.number, c.in-Some.ensures.lookup.3.0, sym c.in-Some.ensures.lookup.1),
        refl,
      ),
      refl,
    )
