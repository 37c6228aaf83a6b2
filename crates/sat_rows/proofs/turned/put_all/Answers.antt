use Rattle.std.proofs.Common.{◌∙◌, get_or}
use Rattle.std.proofs.lemmas.List.{get_or_default}
use Rattle.sat_rows.proofs.FoundLaws.{no_word}
use Rattle.sat_rows.proofs.TurnLaws.{puts_next}
use Rattle.sat_rows.proofs.turned.put_all.Goals as goal

pub loop-at-preserved : goal.loop-at-preserved
loop-at-preserved c =
    let so_far = c.loop-at.invariant in
    let ws = c.words-at-items.result.now in
    let i = c.loop-at.at-index in (
      c.in_ok-put.ensures.long ∙ so_far.0,
      puts_next c.args.lists.now.items c.loop-at.lists.items c.put.new.lists.items c.args.number
          ws i (get_or ws i no_word) c.loop-at-test.true
          (get_or_default ws i no_word _ c.loop-at-test.true) so_far.0 so_far.1
          c.in_ok-put.ensures.put,
    )
