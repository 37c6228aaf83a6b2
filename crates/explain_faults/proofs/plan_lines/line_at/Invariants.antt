use Rattle.std.proofs.Common.{◌≡◌, ◌-◌, slice_get}
use Rattle.deb_text.specs.Lines.{lines_of}
use Rattle.explain_faults.proofs.plan_lines.line_at.Given as goal

abbrev pub invariant-loop : goal.invariant-loop
invariant-loop l =
    slice_get (lines_of l.text) (l.number - 1) ≡ slice_get (lines_of l.rest) (l.number - l.counter)
