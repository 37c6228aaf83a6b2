use Rattle.std.proofs.Common.{◌-◌, take, length, ap, arith}
use Rattle.cert_text.proofs.Ends.{cut_behind, same-by_ends}
use Rattle.cert_text.proofs.same.is_same.Goals as goal

pub returns-then-has_same_front : goal.returns-then-has_same_front
returns-then-has_same_front c =
    let text = c.args.text.now in
    let other = c.args.other.now in
    let m = length text - 16 in (
      λ is. same-by_ends 16 m text other (omega (arith, c.if-text-lt-PIECE.false))
          (omega (arith, c.if-text-lt-PIECE.false, c.if-text-other.false))
          (omega (arith, c.if-text.false))
          (c.has_same_front.ensures.0 c.if-has_same_front.true)
          (c.has_same_front-then-has_same_front.ensures.0 is),
      λ same. c.has_same_front-then-has_same_front.ensures.1
          (ap (λ xs. take 16 (cut_behind m xs)) same),
    )
