use Rattle.std.proofs.Common.{ℕ, List, Bor, subst}
use Rattle.import_farm.specs.Made.{IsMadeOf, IsOneOf, IsWholeOrAnew}
use Rattle.import_farm.specs.declared.imported.TheConstants.{HEAD}
use Rattle.import_farm.proofs.written.write_packages.Goals as goal

pub returns : goal.returns
returns c =
    let end = c.push_packages.new.text.items in
    subst (λ (blocks : List (Bor (List ℕ))). IsMadeOf (IsWholeOrAnew (IsOneOf blocks)) HEAD.now end)
    c.deref.ensures.value
    (subst (λ (old : List ℕ). IsMadeOf (IsWholeOrAnew (IsOneOf c.deref.result.now)) old end)
    c.in_ok-text.ensures c.in_ok-push_packages.ensures)
