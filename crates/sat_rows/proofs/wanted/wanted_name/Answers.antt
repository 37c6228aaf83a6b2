use Rattle.std.proofs.Common.{◌≡◌, ◌<◌, sym, subst, arith}
use Rattle.farm_model.specs.Packages.{variant, variants}
use Rattle.sat_rows.specs.Entries.{AreNumbers}
use Rattle.sat_rows.specs.Fields.{AddsField}
use Rattle.sat_rows.specs.Links.{IsNumbered}
use Rattle.sat_rows.specs.Served.{wanted}
use Rattle.sat_rows.proofs.NoteLaws.{numbered_none, numbered_next}
use Rattle.sat_rows.proofs.WantedLaws.{wanted_is}
use Rattle.sat_rows.proofs.wanted.wanted_name.Goals as goal

pub loop-bit-init : goal.loop-bit-init
loop-bit-init c entries are =
    subst (IsNumbered c.args.universe.now wanted entries c.args.name 0) (sym c.in_ok-found.ensures)
    (numbered_none c.args.universe.now wanted entries c.args.name)

pub loop-bit-preserved : goal.loop-bit-preserved
loop-bit-preserved c entries are =
    let u = c.args.universe.now in
    let bit = c.loop-bit.bit in
    let v = variant c.args.name bit in
    let old = c.loop-bit.found in
    let new = c.note.new.found in
    let lt : bit < variants u c.args.name =
    omega (arith, c.loop-bit-test.true, c.variant_count-bit-end.ensures.number) in
    numbered_next u wanted entries entries (λ n e is. is) c.args.name bit old new
    (c.loop-bit.invariant entries are)
    (subst (λ es. AddsField entries es bit old new) (wanted_is u v)
    (c.in_ok-note.ensures u entries v
    (subst (AreNumbers u entries v) (sym c.variant.ensures) (are.each bit lt))))

pub returns : goal.returns
returns c entries are =
    let u = c.args.universe.now in
    let whole : c.loop-bit.bit ≡ variants u c.args.name =
    omega (arith, c.variant_count-bit-end.ensures.number) in
    subst (λ count. IsNumbered u wanted entries c.args.name count c.loop-bit.found) whole
    (c.loop-bit.invariant entries are)
