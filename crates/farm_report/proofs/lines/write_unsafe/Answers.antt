use Rattle.farm_report.proofs.lines.write_unsafe.Goals as goal

pub returns-clause-written : goal.returns-clause-written
returns-clause-written g c =
    rw (
      c.as_bytes.ensures.value,
      c.format-refused.ensures.text,
      c.as_bytes-2.ensures.value,
      c.format-instruction.ensures.text,
    ) at c.write_pieces.ensures.written
