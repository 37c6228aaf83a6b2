use Rattle.std.proofs.Common.{◌≡◌, ◌<◌, Some, length, inl, inr, sym, ap, subst, ◌∙◌, arith}
use Rattle.std.proofs.lemmas.Bool.{cases_eq}
use Rattle.std.proofs.lemmas.Option.{same_Some, slice_get-get_or, slice_get_within}
use Rattle.std.specs.Prelude.{slice_get}
use Rattle.lane_runner.specs.OnWay.{IsEnded}
use Rattle.lane_runner.specs.declared.turns.LaneTurns.{LaneTurns}
use Rattle.farm_executor.proofs.turned.first_left.Goals as goal

pub has_ended-requires : goal.has_ended-requires
has_ended-requires g c = record {
  running = c.requires.running c.loop-number.number c.index-lanes-number.result
      (slice_get-get_or c.args.lanes.now c.loop-number.number c.index-lanes-number.result
      (omega (arith, c.loop-number-test.true))
      ∙ ap (λ x. Some x) (sym c.index-lanes-number.is));
}

pub loop-number-preserved : goal.loop-number-preserved
loop-number-preserved g c = λ k t lt at.
    let i = c.loop-number.number in
    elim (cases_eq k i) [
      | inl here ↦
          let there : slice_get c.args.lanes.now i ≡ Some c.index-lanes-number.result =
          slice_get-get_or c.args.lanes.now i c.index-lanes-number.result
          (omega (arith, c.loop-number-test.true))
          ∙ ap (λ x. Some x) (sym c.index-lanes-number.is) in
          let same : c.index-lanes-number.result ≡ t =
          same_Some c.index-lanes-number.result t
          (sym there ∙ ap (slice_get c.args.lanes.now) (sym here) ∙ at) in
          subst (λ (s : LaneTurns g.row.E.Denot). IsEnded s.accepted.now.universe
          s.accepted.now.plan s.runner.lane s.runner.spent s.chroot
          (g.E.LaneArchive.log s.end)) same (c.has_ended.ensures c.if-not-has_ended.false)
      | inr other ↦ c.loop-number.invariant k t (omega (arith, lt, other)) at
    ]

pub returns-clause-none : goal.returns-clause-none
returns-clause-none g c = λ none k t at.
    let within = slice_get_within c.args.lanes.now k t at in
    c.loop-number.invariant k t (omega (arith, within, c.loop-number-test.false)) at
