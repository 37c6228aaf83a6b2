use Rattle.std.proofs.Common.{◌∙◌, ◌||◌, sym, ap, get_or, arith}
use Rattle.std.proofs.Math.Bool.{or-false}
use Rattle.std.proofs.lemmas.List.{get_or_default, take_all}
use Rattle.sat_rows.specs.Found.{among}
use Rattle.sat_rows.proofs.FoundLaws.{no_word}
use Rattle.sat_rows.proofs.JoinLaws.{added_next}
use Rattle.sat_rows.proofs.found.Found.add_all.Goals as goal

pub loop-at-init : goal.loop-at-init
loop-at-init c n b = sym (or-false (among c.args.self.now n b))

pub loop-at-preserved : goal.loop-at-preserved
loop-at-preserved c =
    let ws = c.args.words.now in
    let i = c.loop-at.at-index in
    added_next c.args.self.now c.loop-at.self c.add.new.self ws i (get_or ws i no_word)
    c.loop-at-test.true (get_or_default ws i no_word _ c.loop-at-test.true) c.loop-at.invariant
    c.in_ok-add.ensures

pub returns : goal.returns
returns c n b =
    let ws = c.args.words.now in
    c.loop-at.invariant n b
    ∙ ap (λ xs. among c.args.self.now n b || among xs n b)
    (take_all c.loop-at.at-index ws (omega arith))
