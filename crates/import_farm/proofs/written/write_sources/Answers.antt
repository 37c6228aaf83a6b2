use Rattle.std.proofs.Common.{ℕ, List, subst}
use Rattle.import_farm.specs.Made.{IsMadeOf, IsOneOf, IsWhole}
use Rattle.import_farm.proofs.written.write_sources.Goals as goal

pub returns : goal.returns
returns c =
    subst (λ (old : List ℕ). IsMadeOf (IsWhole (IsOneOf c.args.told.read.sources.now)) old
    c.push_sources.new.text.items) c.in_ok-text.ensures c.in_ok-push_sources.ensures
