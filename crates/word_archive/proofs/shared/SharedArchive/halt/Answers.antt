use Rattle.word_archive.proofs.shared.SharedArchive.halt.Goals as goal
use Rattle.std.proofs.Common.{[], ap, arith, subst, sym, vec_capacity, ◌∙◌}
use Rattle.farm_model.specs.Packages.{names}
use Rattle.archive_laws.specs.Records.{after_halt}
use Rattle.plan_verifier.specs.Accepted.{IsAccepted}
use Rattle.word_archive.specs.Views.{lane_view, record_in}
use Rattle.word_archive.proofs.Halts.{halts_as}
use Rattle.word_archive.proofs.SeatKept.{made_here, seat_after}

pub fetch_or-requires : goal.fetch_or-requires
fetch_or-requires c =
    let me = c.seat.inside.seat.me in
    let l = c.seat.inside.lane in
    let r = record_in me.0 in
    let key = c.args.self.now.of_plan in
    let about = ap (λ v. v.about) c.seat.view_is ∙ (c.requires.about ∙ sym key) in
    let names_are = ap (λ p. names p.universe) key in
    let wide = c.args.self.now.wide in (
      ap (λ v. v.table) c.seat.view_is ∙ c.requires.table,
      omega arith,
      halts_as c.args.self.now.table.shared.key _ _ l _ r me
          (subst IsAccepted (sym key) c.keeps.ensures) (omega arith) (c.seat.invariant.0
          ∙ ap (λ p. (lane_view p l r, [])) about),
    )

pub invariant_of-seat : goal.invariant_of-seat
invariant_of-seat c =
    let s = c.seat.inside in
    let h = c.seat.invariant in
    seat_after s.seat.me s.lane s.outputs.items s.serials.items (vec_capacity s.serials) s.made h
    c.fetch_or.new.seat.me (after_halt (record_in s.seat.me.0)) c.fetch_or.ensures.2
    s.serials.items (vec_capacity s.serials) s.made h.3 h.4
    (made_here s.seat.me s.lane s.outputs.items s.serials.items (vec_capacity s.serials) s.made h)
