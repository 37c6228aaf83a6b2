use Rattle.std.proofs.Common.{◌≡◌, ◌++◌}
use Rattle.cert_text.proofs.RowLists.{named_below}
use Rattle.cert_text.specs.Printed.{more_text}
use Rattle.cert_writer.specs.Lines.{in_word}
use Rattle.cert_writer.proofs.spelling.push_more.Given as goal

-- the variants below the bit
abbrev pub invariant-loop-bit : goal.invariant-loop-bit
invariant-loop-bit l =
    l.text.items
    ≡ l.fn.text.items ++ more_text l.universe (in_word l.word (named_below l.name l.bit))
