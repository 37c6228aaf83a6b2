use Rattle.std.proofs.Common.{◌+◌, ◌≤◌, ◌++◌, map, subst, sym, ap, ◌∙◌, length, arith}
use Rattle.deb_text.specs.Lines.{plain_lines}
use Rattle.deb_stanza.specs.View.{AreWithin, line_in}
use Rattle.deb_stanza.proofs.PlainLaws.{within_next, line_there, rest_next, kept_next}
use Rattle.deb_stanza.proofs.plain.kept_places.Goals as goal

pub loop-line-preserved-in-Continue-1 : goal.loop-line-preserved-in-Continue-1
loop-line-preserved-in-Continue-1 c =
    let text = c.args.text.now in
    let rest = c.loop-line.rest.now in
    let line = c.in-Some.line.now in
    let behind = c.in-Some.behind.now in
    let old = c.loop-line.invariant in
    let here : length rest ≤ length text = omega (arith, old.in_range) in
    let there = line_there text rest line old.rest c.in-Some.ensures.front in
    record {
      so_far =
          ap (λ items. map (line_in text) items ++ plain_lines (c.loop-line.number + 1 + 1) behind)
          c.in_ok-push.ensures.items
          ∙ kept_next text c.loop-line.places.items _ rest line behind c.in-Some.ensures.line
          (sym c.is_skipped.ensures ∙ c.if-not-is_skipped.true) there ∙ old.so_far;
      within = subst (AreWithin text) (sym c.in_ok-push.ensures.items)
          (within_next text c.loop-line.places.items _ old.within (omega arith)
          (omega (arith, c.in-Some.ensures.within, here)));
      rest = rest_next text rest behind old.rest c.in-Some.ensures.behind
          (omega (arith, c.in-Some.ensures.shorter)) here;
      in_range = omega (arith, old.in_range, c.in-Some.ensures.shorter);
    }
