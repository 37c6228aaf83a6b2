use Rattle.std.proofs.Common.{◌≡◌, ◌+◌, ℕ, List, ◌∷◌, [], length-append, drop, length, get_or, ap, ◌∙◌, arith}
use Rattle.std.proofs.lemmas.List.{at_drop_more, drop-drop}
use Rattle.cert_text.proofs.LineRows.{front-goes}
use Rattle.cert_text.proofs.reader.read_rows.Goals as goal

pub loop-i-preserved : goal.loop-i-preserved
loop-i-preserved c =
    let i = c.loop-i.i in
    let numbers = c.args.numbers.now in
    let lines = c.args.source.lines.now in
    let at = c.args.start + i in
    let cut : drop i numbers ≡ get_or numbers i 0 ∷ drop (i + 1) numbers =
    at_drop_more (λ (ns : List ℕ). ns) numbers i 0 c.loop-i-test.true in
    let next : drop 1 (drop at lines) ≡ drop (c.args.start + (i + 1)) lines =
    drop-drop 1 at lines ∙ ap (λ n. drop n lines) (omega arith) in
    record {
      so_far = rw (c.in_ok-push.ensures.items, ← next)
          (front-goes c.loop-i.rows.items _ _ _ (rw cut at c.loop-i.invariant.so_far) _
          c.in_ok-row.ensures.row);
      count = omega (
        arith,
        ap length c.in_ok-push.ensures.items,
        length-append c.loop-i.rows.items (c.in_ok-row.row ∷ []),
        c.loop-i.invariant.count,
      );
      kept = c.in_ok-row.ensures.kept;
      there = omega (arith, c.in_ok-row.ensures.there);
    }
