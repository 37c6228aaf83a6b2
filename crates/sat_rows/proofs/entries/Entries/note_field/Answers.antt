use Rattle.std.proofs.Common.{◌≡◌, ◌∙◌, Some, ap, sym, subst, arith}
use Rattle.std.specs.List.{slice_get}
use Rattle.std.proofs.lemmas.Option.{slice_get_within, slice_get-get_or}
use Rattle.sat_rows.specs.Fields.{AddsField}
use Rattle.sat_rows.proofs.NumberLaws.{grown_trans}
use Rattle.sat_rows.proofs.NoteLaws.{one_bit, adds_none, adds_next, adds_all}
use Rattle.sat_rows.proofs.entries.Entries.note_field.Goals as goal

pub loop-entry-init : goal.loop-entry-init
loop-entry-init c = (
  λ n e is. is,
  adds_none c.args.self.now c.entries-entry-items.result.now c.args.bit c.args.found.now,
)

pub loop-entry-preserved : goal.loop-entry-preserved
loop-entry-preserved c =
    let so_far = c.loop-entry.invariant in
    let old = c.loop-entry.self in
    let new = c.number.new.self in
    let grown = c.in_ok-number.ensures.grown in
    let items = c.entries-entry-items.result.now in
    let i = c.loop-entry.entry-index in
    let e = c.entry-item.result in (
      grown_trans c.args.self.now old new so_far.0 grown,
      adds_next old new grown items c.args.bit i e
          (slice_get-get_or items i e c.loop-entry-test.true ∙ ap Some (sym c.entry-item.is))
          c.args.found.now c.loop-entry.found c.add.new.self so_far.1
          c.in_ok-number.number c.with_bit.result
          (subst (λ e. slice_get new c.in_ok-number.number ≡ Some e) c.alternatives.ensures
          c.in_ok-number.ensures.number)
          c.in_ok-add.ensures
          (λ k. one_bit c.with_bit.result c.args.bit k (c.with_bit.ensures k)),
    )

pub returns-clause-noted : goal.returns-clause-noted
returns-clause-noted c =
    let items = c.entries-entry-items.result.now in
    subst (λ field. AddsField c.loop-entry.self field c.args.bit c.args.found.now
    c.loop-entry.found)
    c.entries-entry-items.ensures
    (adds_all c.loop-entry.self items c.args.bit c.loop-entry.entry-index c.args.found.now
    c.loop-entry.found
    (λ i e at. let within = slice_get_within items i e at in omega arith) c.loop-entry.invariant.1)
