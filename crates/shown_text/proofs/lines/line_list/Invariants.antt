use Rattle.std.proofs.Common.{◌≡◌, ◌++◌, length, map}
use Rattle.shown_text.specs.Texts.{text_data}
use Rattle.deb_text.specs.Lines.{lines_of}
use Rattle.serde_json.specs.View.{view}
use Rattle.shown_text.proofs.lines.line_list.Given as goal

abbrev pub invariant-loop-line : goal.invariant-loop-line
invariant-loop-line l =
    map view l.lines.items ++ map text_data (lines_of l.rest) ≡ map text_data (lines_of l.fn.text)

abbrev pub decreases-loop-line : goal.decreases-loop-line
decreases-loop-line l = length l.rest
