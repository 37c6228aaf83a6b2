use Rattle.std.proofs.Common.{◌≡◌, ◌++◌, drop}
use Rattle.cert_text.specs.Printed.{more_text}
use Rattle.cert_text.proofs.printer.push_more.Given as goal

abbrev pub invariant-loop-i : goal.invariant-loop-i
invariant-loop-i l =
    l.text.items ++ more_text l.universe (drop l.i l.variants)
    ≡ l.fn.text.items ++ more_text l.universe l.variants
