use Rattle.word_archive.proofs.shared.SharedArchive.split.Goals as goal
use Rattle.std.proofs.Common.{[], ap, arith, false, length, refl, sym, vec_capacity, ◌∙◌}
use Rattle.plan_model.specs.Plan.{lane}
use Rattle.archive_laws.proofs.Bounded.{blank_holds}
use Rattle.archive_laws.specs.Records.{blank}
use Rattle.word_archive.specs.Views.{base_view, split_right}
use Rattle.word_archive.proofs.SeatKept.{seat_holds}
use Rattle.word_archive.proofs.Splits.{splits_as}

pub split_seat-requires : goal.split_seat-requires
split_seat-requires c =
    let me = c.args.base.now.me in
    let key = c.args.self.now.of_plan in
    let wide = c.args.self.now.wide in
    let lanes = ap (λ p. length p.plan) key in
    let lane = c.requires.lane in (
      c.requires.table,
      omega arith,
      splits_as c.args.self.now.table.shared.key _ c.args.lane false [] me.0 (omega arith)
          (ap (λ m. m.0) c.requires.base ∙ ap (λ p. base_view p c.args.lane false []) (sym key)),
    )

pub invariant_of-result : goal.invariant_of-result
invariant_of-result c =
    let a = c.args.self.now.accepted.now in
    let l = c.args.lane in
    seat_holds c.split_seat.result.me a l (blank a.universe (lane a.plan l)) c.args.outputs.items
    c.args.serials.items (vec_capacity c.args.serials) 0
    (c.split_seat.ensures.4 ∙ ap (λ m. (split_right m.0, [])) c.requires.base)
    (blank_holds a.universe a.plan c.keeps.ensures.sound l c.requires.lane) c.requires.outputs
    c.requires.serials.0 c.requires.serials.1 refl
