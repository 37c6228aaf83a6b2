use Rattle.std.proofs.Common.{ℕ, List, Bor, subst}
use Rattle.std.specs.Prelude.{IfOk}
use Rattle.import_wish.specs.Wish.{wish_view}
use Rattle.import_farm.specs.Imported.{AreTextsOf}
use Rattle.import_farm.specs.Made.{IsOneOf}
use Rattle.import_farm.proofs.imported.import_cut.Goals as goal

pub returns-clause-texts : goal.returns-clause-texts
returns-clause-texts g c =
    subst (λ (sources : List (Bor (List ℕ))). IfOk c.import_read.result
    (λ judged. AreTextsOf (IsOneOf c.args.packages.blocks.items) (IsOneOf sources)
    (wish_view c.args.wish.wish.now) judged.texts judged.unmet.items))
    c.deref-2.ensures.value c.import_read.ensures.texts
