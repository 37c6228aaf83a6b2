use Rattle.word_archive.proofs.shared.SharedArchive.publish_next.Goals as goal
use Rattle.std.proofs.Common.{Some, [], ap, arith, length, subst, suc, sym, vec_capacity, ◌+◌, ◌<◌, ◌^◌, ◌∙◌, ◌≡◌}
use Rattle.farm_model.specs.Packages.{names}
use Rattle.farm_model.specs.declared.types.Variant.{Variant}
use Rattle.archive_laws.specs.Records.{next_output}
use Rattle.plan_verifier.specs.Accepted.{IsAccepted}
use Rattle.word_archive.specs.Serials.{made_by}
use Rattle.word_archive.specs.Steps.{published_record}
use Rattle.word_archive.specs.Views.{lane_view, record_in}
use Rattle.word_archive.proofs.OutputListed.{in_range, is_due, listed}
use Rattle.word_archive.proofs.Publishes.{publishes_as}
use Rattle.word_archive.proofs.SeatKept.{made_here, seat_after}

pub index-output-requires : goal.index-output-requires
index-output-requires c =
    let s = c.seat.inside in
    let h = c.seat.invariant in
    let v = c.requires.output.0 in
    let due = is_due s.seat.me s.lane s.outputs.items s.serials.items (vec_capacity s.serials)
    s.made
    h _ c.args.seat.now c.seat.view_is v c.requires.output.1 c.requires.drawn in
    let lt = in_range s.seat.me s.lane s.outputs.items s.serials.items (vec_capacity s.serials)
    s.made h v due in
    omega arith

pub single-requires : goal.single-requires
single-requires c =
    let s = c.seat.inside in
    let h = c.seat.invariant in
    let v = c.requires.output.0 in
    let mine = ap (λ q. q.about) c.seat.view_is ∙ c.requires.about in
    let due = is_due s.seat.me s.lane s.outputs.items s.serials.items (vec_capacity s.serials)
    s.made
    h _ c.args.seat.now c.seat.view_is v c.requires.output.1 c.requires.drawn in
    let at = listed s.seat.me s.lane s.outputs.items s.serials.items (vec_capacity s.serials)
    s.made h
    (subst IsAccepted (sym mine) c.keeps.ensures) v c.index-output.result.now due
    c.len.result (omega arith) c.index-output.ensures in
    subst (λ (o : Variant). o.bit < 64) at.0 at.1.bit

pub fetch_or-requires : goal.fetch_or-requires
fetch_or-requires c =
    let s = c.seat.inside in
    let me = s.seat.me in
    let h = c.seat.invariant in
    let r = record_in me.0 in
    let v = c.requires.output.0 in
    let key = c.args.self.now.of_plan in
    let mine = ap (λ q. q.about) c.seat.view_is ∙ c.requires.about in
    let accepted = subst IsAccepted (sym mine) c.keeps.ensures in
    let due = is_due me s.lane s.outputs.items s.serials.items (vec_capacity s.serials) s.made
    h _ c.args.seat.now c.seat.view_is v c.requires.output.1 c.requires.drawn in
    let at = listed me s.lane s.outputs.items s.serials.items (vec_capacity s.serials) s.made h
    accepted v c.index-output.result.now due c.len.result (omega arith)
    c.index-output.ensures in
    let about = mine ∙ sym key in
    let names_are = ap (λ p. names p.universe) mine in
    let wide = c.args.self.now.wide in
    let named = at.1.named in
    let o_named = ap (λ (o : Variant). o.name) at.0 in (
      ap (λ q. q.table) c.seat.view_is ∙ c.requires.table,
      omega arith,
      publishes_as c.args.self.now.table.shared.key _ _ s.lane _ _ r v me
          (subst IsAccepted about accepted)
          (subst (λ p. next_output p.universe p.plan s.lane r.at ≡ Some v) about due.output)
          (subst (λ p. length r.serials ≡ suc (made_by p s.lane r.at)) about due.drawn)
          (c.single.ensures ∙ ap (λ (o : Variant). 2 ^ o.bit) (sym at.0)) (sym o_named)
          (h.0 ∙ ap (λ p. (lane_view p s.lane r, [])) about),
    )

pub invariant_of-seat : goal.invariant_of-seat
invariant_of-seat c =
    let s = c.seat.inside in
    let h = c.seat.invariant in
    let told = c.fetch_or.ensures.2 in
    let made = made_here s.seat.me s.lane s.outputs.items s.serials.items (vec_capacity s.serials)
    s.made h in
    let up = told.1 in
    seat_after s.seat.me s.lane s.outputs.items s.serials.items (vec_capacity s.serials) s.made h
    c.fetch_or.new.seat.me (published_record s.seat.me.0) told.0 s.serials.items
    (vec_capacity s.serials) (s.made + 1) h.3 h.4 (omega arith)
