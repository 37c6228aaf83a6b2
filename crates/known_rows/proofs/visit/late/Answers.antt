use Rattle.std.proofs.Common.{◌⊎◌, ℕ, inl, inr, length, slice_get, refl, sym, ap, subst, ◌∙◌, arith}
use Rattle.std.specs.List.{Contains}
use Rattle.std.proofs.lemmas.Bool.{cases_eq}
use Rattle.std.proofs.lemmas.Option.{slice_get_read, slice_get_within, same_Some}
use Rattle.known_rows.specs.declared.column.Point.{Point}
use Rattle.known_rows.specs.Visit.{IsInTurn}
use Rattle.known_rows.proofs.visit.late.Goals as goal

pub loop-w-preserved : goal.loop-w-preserved
loop-w-preserved c =
    let ps = c.args.points.now in
    let order = c.args.order.now in
    let places = c.args.places.now in
    let w = c.loop-w.w in
    let next = c.add_late.new.late.items in
    let added = c.in_ok-add_late.ensures in
    λ v p lt at. elim (cases_eq v w) [
      | inl same ↦
          subst (λ (u : ℕ). Contains next u ⊎ IsInTurn order places u p) (sym same)
          (subst (λ (q : Point). Contains next w ⊎ IsInTurn order places w q)
          (same_Some c.index-points-w.result p
          (sym (slice_get_read ps (length ps) w c.index-points-w.result refl
          c.loop-w-test.true c.index-points-w.is)
          ∙ ap (slice_get ps) (sym same) ∙ at))
          added.placed)
      | inr other ↦
          elim (c.loop-w.invariant v p (omega (arith, lt, other)) at) [
            | inl h ↦ inl (added.kept v h)
            | inr t ↦ inr t
          ]
    ]

pub returns : goal.returns
returns c =
    λ w p at. c.loop-w.invariant w p
    (let lt = slice_get_within c.args.points.now w p at in omega (arith, lt)) at
