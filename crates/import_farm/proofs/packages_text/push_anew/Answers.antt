use Rattle.std.proofs.Common.{inr, refl, sym}
use Rattle.import_farm.specs.Made.{IsOneOf, IsWholeOrAnew}
use Rattle.import_farm.proofs.MadeLaws.{made-one}
use Rattle.import_farm.proofs.packages_text.push_anew.Goals as goal

pub returns : goal.returns
returns c =
    made-one (IsWholeOrAnew (IsOneOf c.args.blocks.now)) c.args.text.now.items
    c.in_ok-push_rewritten.ensures.0 c.push_rewritten.new.text.items
    c.extend_from_slice.new.self.items c.in_ok-push_rewritten.ensures.1
    c.in_ok-extend_from_slice.ensures.items
    (inr (
      c.in-Some.block.now.now,
      (
        c.in-Some.block.now,
        (c.args.number, c.in-Some.ensures.lookup.3.0, sym c.in-Some.ensures.lookup.1),
        refl,
      ),
      c.in_ok-push_rewritten.ensures.2,
    ))
