use Rattle.import_farm.proofs.RewritingLaws.{cut-parts, renamed-step, renamed-end}
use Rattle.import_farm.proofs.renamed.push_renamed.Goals as goal

pub loop-before-preserved : goal.loop-before-preserved
loop-before-preserved c =
    renamed-step c.args.row.now c.loop-before.rest.now c.in-Some.before.now c.in-Some.behind.now
    c.in-Some-cut_at_first.inside.now c.in-Some-cut_at_first.after.now
    c.in_ok-push_inside.ensures.0 c.args.text.now.items c.loop-before.text.items
    c.extend_from_slice.new.self.items c.extend_from_slice-in-Some.new.self.items
    c.push_inside.new.text.items c.extend_from_slice-in-Some-2.new.self.items
    c.loop-before.invariant
    (cut-parts 40 c.loop-before.rest.now c.in-Some.before.now c.in-Some.behind.now
    c.in-Some.ensures.found c.in-Some.ensures.before c.in-Some.ensures.after)
    (cut-parts 41 c.in-Some.behind.now c.in-Some-cut_at_first.inside.now
    c.in-Some-cut_at_first.after.now c.in-Some-cut_at_first.ensures.found
    c.in-Some-cut_at_first.ensures.before c.in-Some-cut_at_first.ensures.after)
    c.in_ok-push_inside.ensures.2 c.in_ok-extend_from_slice.ensures.items c.in_ok-extend_from_slice-2.ensures.items
    c.in_ok-push_inside.ensures.1 c.in_ok-extend_from_slice-3.ensures.items

pub returns : goal.returns
returns c =
    renamed-end c.args.row.now c.loop-before.rest.now c.args.text.now.items
    c.loop-before.text.items c.extend_from_slice-2.new.self.items c.loop-before.invariant
    c.in_ok-extend_from_slice-4.ensures.items
