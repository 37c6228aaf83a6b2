use Rattle.std.proofs.Common.{◌≡◌, ◌+◌, ◌<◌, ℕ, List, length, get_or, slice_index, slice_set, refl, sym, subst, ◌∙◌, arith}
use Rattle.std.proofs.lemmas.List.{get_or_default}
use Rattle.std.proofs.lemmas.Option.{slice_get_read}
use Rattle.known_rows.specs.declared.column.Point.{Point}
use Rattle.known_rows.specs.declared.visit.Visit.{Visit}
use Rattle.known_rows.specs.Visit.{IsVisit, AreSettled}
use Rattle.known_rows.proofs.Falls.{tighten-above}
use Rattle.known_rows.proofs.Visits.{settled-look}
use Rattle.known_rows.proofs.column.look.Goals as goal

-- the point at a place of a visit is there, and has this place
placed : (ps : List Point) (visit : Visit) (k w d : ℕ) → IsVisit ps visit
    → k < length visit.order.items → w ≡ get_or visit.order.items k d
    → (w < length ps) × (slice_index visit.places.items w ≡ k)
placed ps visit k w d is inside at =
    let same : slice_index visit.order.items k ≡ w =
    sym (at ∙ get_or_default visit.order.items k d 0 inside) in
    let there : w < length visit.places.items =
    subst (λ i. i < length visit.places.items) same (is.placed k inside).there in (
      omega (arith, there, is.long),
      subst (λ i. slice_index visit.places.items i ≡ k) same (is.placed k inside).place,
    )

pub bounds-points-w : goal.bounds-points-w
bounds-points-w c = (placed c.args.points.now c.args.visit.now c.args.k c.index-w.result.now
    c.index-w.result.now c.requires.visit c.requires.there c.index-w.ensures).0

pub returns-clause-above : goal.returns-clause-above
returns-clause-above c =
    let is = placed c.args.points.now c.args.visit.now c.args.k c.index-w.result.now
    c.index-w.result.now c.requires.visit c.requires.there c.index-w.ensures in
    tighten-above c.args.lane c.args.total c.args.points.now c.args.x.now c.index-w.result.now
    c.bound.result c.index-points-w.result c.requires.placed c.requires.long is.0
    c.index-points-w.is c.bound.ensures

pub returns-clause-settled : goal.returns-clause-settled
returns-clause-settled c =
    let ps = c.args.points.now in
    let visit = c.args.visit.now in
    let order = visit.order.items in
    let k = c.args.k in
    let w = c.index-w.result.now in
    let p = c.index-points-w.result in
    let is = placed ps visit k w w c.requires.visit c.requires.there c.index-w.ensures in
    λ so_far.
    subst (λ n. AreSettled c.args.lane c.args.total ps visit (slice_set c.args.x.now w n) (k + 1))
    (sym c.bound.ensures)
    (settled-look c.args.lane c.args.total ps visit c.args.x.now k w p c.requires.long
    (slice_get_read order (length order) k w refl c.requires.there c.index-w.ensures)
    (slice_get_read ps (length ps) w p refl is.0 c.index-points-w.is) is.1 so_far)
