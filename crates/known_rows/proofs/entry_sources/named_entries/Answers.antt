use Rattle.std.proofs.Common.{get_or, None}
use Rattle.std.proofs.lemmas.Option.{slice_get-get_or}
use Rattle.known_rows.specs.declared.marks.Mark.{Mark}
use Rattle.known_rows.proofs.EntryLaws.{numbers_next}
use Rattle.known_rows.proofs.entry_sources.named_entries.Goals as goal

none : Mark
none = record { lane = 0; place = 0; own = 0; before = None }

pub number_of-requires-clause-lane : goal.number_of-requires-clause-lane
unfolding none
number_of-requires-clause-lane c =
    (c.requires c.loop-w.w (get_or c.args.marks.now c.loop-w.w none)
    (slice_get-get_or c.args.marks.now c.loop-w.w none c.loop-w-test.true)).in_plan

pub number_of-requires-clause-place : goal.number_of-requires-clause-place
unfolding none
number_of-requires-clause-place c =
    (c.requires c.loop-w.w (get_or c.args.marks.now c.loop-w.w none)
    (slice_get-get_or c.args.marks.now c.loop-w.w none c.loop-w-test.true)).in_lane

pub loop-w-preserved : goal.loop-w-preserved
unfolding none
loop-w-preserved c =
    let marks = c.args.marks.now in
    let w = c.loop-w.w in
    let longer = c.number_of.ensures.longer in
    numbers_next c.args.plan.now.lanes c.loop-w.entries c.number_of.new.entries marks
    c.loop-w.numbers.items c.push.new.self.items w c.in_ok-number_of.field-0 (get_or marks w none)
    c.loop-w.invariant longer (slice_get-get_or marks w none c.loop-w-test.true)
    c.in_ok-number_of.ensures.number c.in_ok-push.ensures.items
