use Rattle.std.proofs.Common.{◌≡◌, ◌+◌, ◌≤◌, length, filter_map, fold, bytes_eq}
use Rattle.deb_text.specs.Groups.{with_key}
use Rattle.deb_stanza.specs.Stanza.{value_of}
use Rattle.explain_faults.specs.Found.{names_in}
use Rattle.explain_faults.proofs.farm_faults.count_names.Given as goal

abbrev pub invariant-loop-paragraph : goal.invariant-loop-paragraph
invariant-loop-paragraph l = record {
  names : names_in l.field l.fn.paragraphs
      ≡ fold (with_key bytes_eq) l.names (filter_map (λ p. value_of p l.field) l.paragraphs);
  count : l.count ≡ length l.names;
  in_range : l.count + length l.paragraphs ≤ length l.fn.paragraphs;
}

abbrev pub decreases-loop-paragraph : goal.decreases-loop-paragraph
decreases-loop-paragraph l = length l.paragraphs
