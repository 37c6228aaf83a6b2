use Rattle.std.proofs.Common.{take, refl, arith, ◌∙◌, sym}
use Rattle.std.proofs.lemmas.List.{length-take-le}
use Rattle.cert_text.proofs.ByteLanes.{same-lanes}
use Rattle.cert_text.proofs.same.has_same_front.Goals as goal

pub returns : goal.returns
returns c =
    let text = length-take-le 16 c.args.text.now c.requires.text in
    let other = length-take-le 16 c.args.other.now c.requires.other in
    same-lanes _ (λ x y. refl) (take 16 c.args.text.now) (take 16 c.args.other.now)
    (omega (arith, text)) (text ∙ sym other)
