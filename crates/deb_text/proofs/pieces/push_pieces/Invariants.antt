use Rattle.std.proofs.Common.{◌≡◌, ◌++◌, drop, map}
use Rattle.std.specs.List.{concat}
use Rattle.deb_text.proofs.pieces.push_pieces.Given as goal

abbrev pub invariant-loop-piece : goal.invariant-loop-piece
invariant-loop-piece l =
    l.text.items ++ concat (map (λ piece. piece.now) (drop l.piece-index l.pieces))
    ≡ l.fn.text.items ++ concat (map (λ piece. piece.now) l.pieces)
