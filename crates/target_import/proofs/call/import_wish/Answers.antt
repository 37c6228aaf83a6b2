use Rattle.std.proofs.lemmas.Result.{IfOk-weaker}
use Rattle.import_wish.specs.Wish.{wish_view}
use Rattle.target_import.proofs.call.import_wish.Goals as goal

pub returns-clause-texts : goal.returns-clause-texts
returns-clause-texts g c =
    IfOk-weaker c.import_shelved.result _ _
    (λ judged are. (wish_view c.in_ok-wish.wish, c.in_ok-wish.ensures, are))
    c.import_shelved.ensures.texts
