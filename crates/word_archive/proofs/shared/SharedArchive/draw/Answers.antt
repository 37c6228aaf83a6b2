use Rattle.word_archive.proofs.shared.SharedArchive.draw.Goals as goal
use Rattle.std.proofs.Common.{Some, [], ap, arith, length, length-append, subst, sym, vec_capacity, ◌++◌, ◌∙◌, ◌∷◌, ◌≡◌}
use Rattle.farm_model.specs.Packages.{names}
use Rattle.plan_model.specs.Plan.{lane, lane_outputs}
use Rattle.archive_laws.specs.Records.{after_draw, next_output}
use Rattle.plan_verifier.specs.Accepted.{IsAccepted}
use Rattle.word_archive.specs.Seats.{LaneSeatOf}
use Rattle.word_archive.specs.Serials.{SerialsFit, made_by}
use Rattle.word_archive.specs.Views.{lane_in, lane_view, record_in}
use Rattle.word_archive.proofs.DrawStep.{draws_as}
use Rattle.word_archive.proofs.SeatKept.{made_here, seat_after}

pub fetch_add-serial-requires : goal.fetch_add-serial-requires
fetch_add-serial-requires c =
    let me = c.seat.inside.seat.me in
    let l = c.seat.inside.lane in
    let r = record_in me.0 in
    let key = c.args.self.now.of_plan in
    let about = ap (λ v. v.about) c.seat.view_is ∙ (c.requires.about ∙ sym key) in
    let names_are = ap (λ p. names p.universe) key in
    let wide = c.args.self.now.wide in
    let here = ap names c.universe.ensures in
    let word = c.names-word.ensures.number in
    let v = c.requires.output.0 in
    let out : next_output me.0.about.universe me.0.about.plan l r.at ≡ Some v =
    subst (λ (s : LaneSeatOf). next_output s.about.universe s.about.plan s.lane s.log.at
    ≡ Some v) (sym c.seat.view_is) c.requires.output.1 in
    let room : length r.serials ≡ made_by me.0.about l r.at =
    subst (λ (s : LaneSeatOf). length s.log.serials ≡ made_by s.about s.lane s.log.at)
    (sym c.seat.view_is) c.requires.unused in (
      ap (λ v. v.table) c.seat.view_is ∙ c.requires.table,
      omega arith,
      draws_as c.args.self.now.table.shared.key _ _ l _ r v me
          (subst IsAccepted (sym key) c.keeps.ensures)
          (subst SerialsFit (sym key) c.args.self.now.small)
          (subst (λ p. next_output p.universe p.plan l r.at ≡ Some v) about out)
          (subst (λ p. length r.serials ≡ made_by p l r.at) about room) (omega arith)
          (c.seat.invariant.0 ∙ ap (λ p. (lane_view p l r, [])) about),
    )

pub push_reserved-requires : goal.push_reserved-requires
push_reserved-requires c =
    let h = c.seat.invariant in
    let r = record_in c.seat.inside.seat.me.0 in
    let few = c.fetch_add-serial.ensures.2.0.1.few in
    let l = ap (λ m. lane_in m.0) h.0 in
    let v = c.seat.inside.seat.me.0 in
    let outs = ap (λ k. length (lane_outputs v.about.universe (lane v.about.plan k))) l in
    let long = length-append r.serials (c.fetch_add-serial.result ∷ []) in
    omega (arith, few, outs, long, ap length h.2, ap length h.3, h.4)

pub invariant_of-seat : goal.invariant_of-seat
invariant_of-seat c =
    let s = c.seat.inside in
    let h = c.seat.invariant in
    let r' = after_draw c.fetch_add-serial.result (record_in s.seat.me.0) in
    let more = c.push_reserved.ensures in
    seat_after s.seat.me s.lane s.outputs.items s.serials.items (vec_capacity s.serials) s.made h
    c.fetch_add-serial.new.seat.me r' c.fetch_add-serial.ensures.2.0
    c.push_reserved.new.self.items
    (vec_capacity c.push_reserved.new.self) s.made
    (more.items ∙ ap (λ xs. xs ++ c.fetch_add-serial.result ∷ []) h.3)
    (omega (arith, more.capacity, h.4))
    (made_here s.seat.me s.lane s.outputs.items s.serials.items (vec_capacity s.serials) s.made h)
