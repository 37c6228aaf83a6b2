use Rattle.std.proofs.Common.{inl}
use Rattle.import_farm.specs.Made.{IsOneOf, IsWhole, IsWholeOrAnew}
use Rattle.import_farm.proofs.MadeLaws.{made-weaker}
use Rattle.import_farm.proofs.packages_text.push_plain.Goals as goal

pub returns : goal.returns
returns c =
    made-weaker (IsWhole (IsOneOf c.args.blocks.now)) (IsWholeOrAnew (IsOneOf c.args.blocks.now))
    (λ p whole. inl whole) c.args.text.now.items c.push_whole.new.text.items
    c.in_ok-push_whole.ensures
