use Rattle.std.proofs.Common.{◌-◌, ◌≤◌, length, sym, ap, subst, ◌∙◌}
use Rattle.std.specs.Prelude.{take}
use Rattle.drive_journal.proofs.WholeLines.{whole-none, whole-is-taken, rest-is-shorter, torn_text_is_first_part}
use Rattle.drive_journal.proofs.whole.whole_part.Goals as goal

pub slice_bounds-result-count : goal.slice_bounds-result-count
slice_bounds-result-count c =
    let text = c.args.text.now in
    subst (λ torn. length torn ≤ length text) (sym c.in-Some.ensures.after)
    (rest-is-shorter text c.in-Some.ensures.found)

pub returns-in-Some-clause-whole : goal.returns-in-Some-clause-whole
returns-in-Some-clause-whole c =
    let text = c.args.text.now in
    ap (λ torn. take (length text - length torn) text) c.in-Some.ensures.after
    ∙ whole-is-taken text c.in-Some.ensures.found

pub returns-in-Some-clause-torn : goal.returns-in-Some-clause-torn
returns-in-Some-clause-torn c = torn_text_is_first_part c.args.text.now

pub returns-in-None-clause-whole : goal.returns-in-None-clause-whole
returns-in-None-clause-whole c = sym (whole-none c.args.text.now c.in-None.ensures.none)

pub returns-in-None-clause-torn : goal.returns-in-None-clause-torn
returns-in-None-clause-torn c = torn_text_is_first_part c.args.text.now
