use Rattle.std.proofs.Common.{◌≡◌, ◌++◌}
use Rattle.std.specs.List.{flat_map, range_with_len}
use Rattle.cert_text.specs.Printed.{list_text}
use Rattle.cert_text.specs.Rows.{named_in_row}
use Rattle.plan_verifier.specs.Accepted.{known_rows}
use Rattle.cert_writer.specs.Carried.{AreSpelled}
use Rattle.cert_writer.specs.Lines.{is_none}
use Rattle.cert_writer.specs.NewRows.{new_row}
use Rattle.cert_writer.proofs.spelling.push_list.Given as goal

-- the variants of the names so far
abbrev pub invariant-loop-name : goal.invariant-loop-name
invariant-loop-name l =
    let u = l.accepted.universe in
    let row = new_row u (known_rows l.accepted) l.number l.place in
    record {
      text : l.text.items
          ≡ l.fn.text.items ++ list_text u
          (flat_map (named_in_row u row) (range_with_len 0 l.name));
      first : l.is_first ≡ is_none (flat_map (named_in_row u row) (range_with_len 0 l.name));
      spelled : AreSpelled u l.spelled;
    }
