use Rattle.deb_text.specs.Lines.{lines_of}
use Rattle.import_farm.proofs.RewritingLaws.{line-one, rows-all, rows-step}
use Rattle.import_farm.proofs.rewriting.push_rewritten.Goals as goal

pub push_row-requires : goal.push_row-requires
push_row-requires c =
    line-one c.loop-row.rest.now c.in-Some.row.now (lines_of c.in-Some.behind.now)
    c.in-Some.ensures.line

pub loop-row-preserved : goal.loop-row-preserved
loop-row-preserved c =
    rows-step (lines_of c.args.block.now) c.loop-row.field (lines_of c.loop-row.rest.now)
    c.in-Some.row.now (lines_of c.in-Some.behind.now) c.args.text.now.items
    c.loop-row.text.items c.push_row.new.text.items c.extend_from_slice.new.self.items
    c.field_at-field.result c.loop-row.invariant c.in-Some.ensures.line c.field_at-field.ensures
    c.in_ok-push_row.ensures c.in_ok-extend_from_slice.ensures.items

pub returns : goal.returns
returns c =
    rows-all (lines_of c.args.block.now) c.loop-row.field (lines_of c.loop-row.rest.now)
    c.args.text.now.items c.loop-row.text.items c.loop-row.invariant c.in_default.ensures.none
