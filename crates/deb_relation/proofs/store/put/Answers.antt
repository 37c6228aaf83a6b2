use Rattle.std.proofs.Common.{◌≡◌, ℕ, ◌+◌, ◌<◌, ◌++◌, [], ◌∷◌, List, length, length-set, take, sym, ap, ◌∙◌, arith, append_assoc, slice_index_or, slice_set}
use Rattle.std.proofs.lemmas.List.{take_more, take_more_set}
use Rattle.deb_relation.proofs.store.put.Goals as goal

pub loop-place-preserved : goal.loop-place-preserved
loop-place-preserved g c =
    let at = c.args.at in
    let bytes = c.args.bytes.now in
    let place = c.loop-place.place in
    let written = c.loop-place.written in
    let byte = slice_index_or bytes place 0 in
    let long : at + place < length written = omega (arith, c.loop-place.invariant.1) in
    let more : at + (place + 1) ≡ at + place + 1 = omega arith in
    let front =
    ap (λ (n : ℕ). take n (slice_set written (at + place) byte)) more
    ∙ take_more_set written (at + place) byte long
    ∙ ap (λ (xs : List ℕ). xs ++ byte ∷ []) c.loop-place.invariant.0
    ∙ append_assoc (take at c.args.text) (take place bytes) (byte ∷ [])
    ∙ ap (λ (xs : List ℕ). take at c.args.text ++ xs)
    (sym (take_more bytes place 0 c.loop-place-test.true)) in
    (front, length-set written (at + place) byte ∙ c.loop-place.invariant.1)
