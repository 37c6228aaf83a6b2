use Rattle.std.proofs.Common.{◌≤◌, length, arith, subst, sym}
use Rattle.deb_text.specs.Answers.{Fails, refusal_of}
use Rattle.debian_index.specs.Index.{block_at}
use Rattle.deb_stanza.specs.declared.error.TheConstants.{MOST_BYTES}
use Rattle.debian_index.proofs.BlockLaws.{block-ok, block-lines, block-fails, fault-line}
use Rattle.debian_index.proofs.blocks.read_block.Goals as goal

pub told_from-requires-clause-room : goal.told_from-requires-clause-room
told_from-requires-clause-room c =
    let short : length c.args.block.now ≤ MOST_BYTES = omega arith in
    omega (arith, fault-line c.args.block.now c.in-Err.fault short c.in-Err.ensures)

pub returns-in-Ok-clause-read : goal.returns-in-Ok-clause-read
returns-in-Ok-clause-read c =
    let short : length c.args.block.now ≤ MOST_BYTES = omega arith in
    block-ok c.args.number c.args.block.now c.in-Ok.paragraphs c.requires.some short c.in-Ok.ensures

pub returns-in-Ok-clause-lines : goal.returns-in-Ok-clause-lines
returns-in-Ok-clause-lines c =
    let short : length c.args.block.now ≤ MOST_BYTES = omega arith in
    block-lines c.args.number c.args.block.now c.in-Ok.paragraphs c.requires.some short
    c.in-Ok.ensures

pub returns-in-Err-clause-read : goal.returns-in-Err-clause-read
returns-in-Err-clause-read c =
    let short : length c.args.block.now ≤ MOST_BYTES = omega arith in
    subst (λ fault. Fails refusal_of fault (block_at c.args.number c.args.block.now))
    (sym c.told_from.ensures)
    (block-fails c.args.number c.args.block.now c.in-Err.fault c.requires.some short
    c.in-Err.ensures)
