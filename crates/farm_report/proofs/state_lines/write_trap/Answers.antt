use Rattle.farm_report.proofs.state_lines.write_trap.Goals as goal

pub returns-clause-written : goal.returns-clause-written
returns-clause-written g c =
    rw (
      c.as_bytes.ensures.value,
      c.format-step.ensures.text,
      c.as_bytes-2.ensures.value,
      c.format-instruction.ensures.text,
    ) at c.write_pieces.ensures.written
