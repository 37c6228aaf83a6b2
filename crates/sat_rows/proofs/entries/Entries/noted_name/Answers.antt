use Rattle.std.proofs.Common.{subst, sym}
use Rattle.sat_rows.specs.Fields.{AddsField}
use Rattle.sat_rows.specs.Links.{IsNumbered}
use Rattle.sat_rows.proofs.NumberLaws.{grown_trans}
use Rattle.sat_rows.proofs.NoteLaws.{numbered_none, numbered_next}
use Rattle.sat_rows.proofs.entries.Entries.noted_name.Goals as goal

pub loop-bit-init : goal.loop-bit-init
loop-bit-init g c =
    let u = c.args.universe.now in
    let field = g.F.Field.field in (
      λ n e is. is,
      subst (IsNumbered u field c.args.self.now c.args.name 0) (sym c.new-found.ensures)
          (numbered_none u field c.args.self.now c.args.name),
    )

pub loop-bit-preserved : goal.loop-bit-preserved
loop-bit-preserved g c =
    let so_far = c.loop-bit.invariant in
    let old = c.loop-bit.self in
    let new = c.note_field.new.self in
    let grown = c.in_ok-note_field.ensures.grown in (
      grown_trans c.args.self.now old new so_far.0 grown,
      numbered_next c.args.universe.now g.F.Field.field old new grown c.args.name c.loop-bit.bit
          c.loop-bit.found c.note_field.new.found so_far.1
          (subst (λ field. AddsField new field c.loop-bit.bit c.loop-bit.found
          c.note_field.new.found)
          c.of.ensures c.in_ok-note_field.ensures.noted),
    )
