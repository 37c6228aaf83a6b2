use Rattle.std.proofs.Common.{◌≡◌, ◌+◌, ◌≤◌, length}
use Rattle.deb_text.specs.Common.{control_lines, judged, steps}
use Rattle.deb_stanza.specs.Draft.{draft_state, IsFitDraft, state_of, draft_step}
use Rattle.deb_stanza.specs.Stanza.{fault_of}
use Rattle.deb_stanza.proofs.draft.read_lines.Given as goal

abbrev pub invariant-loop-bytes : goal.invariant-loop-bytes
invariant-loop-bytes l = record {
  so_far : steps draft_step (draft_state l.draft) (control_lines (l.number + 1) l.rest)
      ≡ judged fault_of state_of (control_lines 1 l.text);
  fit : IsFitDraft l.draft;
  in_range : l.number + length l.rest ≤ length l.text;
  room : length l.draft.table.bytes.items + length l.rest ≤ length l.text + l.number;
}

abbrev pub decreases-loop-bytes : goal.decreases-loop-bytes
decreases-loop-bytes l = length l.rest
