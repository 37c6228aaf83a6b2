use Rattle.word_archive.proofs.seats.LaneSeats.stop.Goals as goal
use Rattle.std.proofs.Common.{[], ap, arith, length, sym, ◌∙◌}
use Rattle.farm_model.specs.Packages.{names}
use Rattle.word_archive.specs.Views.{base_view}
use Rattle.word_archive.proofs.Stops.{stops_as}

pub fetch_or-requires : goal.fetch_or-requires
fetch_or-requires c =
    let me = c.self.inside.base.me in
    let v = me.0 in
    let key = c.args.archive.now.of_plan in
    let about = ap (λ s. s.about) c.self.view_is ∙ (c.requires.about ∙ sym key) in
    let names_are = ap (λ p. names p.universe) key in
    let wide = c.args.archive.now.wide in (
      ap (λ s. s.table) c.self.view_is ∙ c.requires.table,
      omega arith,
      stops_as c.args.archive.now.table.shared.key _ _ (length c.self.inside.seats.items) _
          v.stopped [] me (omega arith)
          (c.self.invariant.0 ∙ ap (λ p. (
            base_view p (length c.self.inside.seats.items)
                v.stopped [],
            [],
          )) about),
    )
