use Rattle.word_archive.proofs.shared.SharedArchive.join_one.Goals as goal
use Rattle.std.proofs.Common.{[], ap, arith, sym, ◌++◌, ◌∙◌, ◌∷◌, ◌≡◌}
use Rattle.word_archive.specs.Views.{base_view, joined_view, lane_view, record_in}
use Rattle.word_archive.proofs.Joins.{joins_as}

pub join_seat-requires : goal.join_seat-requires
join_seat-requires c =
    let key = c.args.self.now.of_plan in
    let wide = c.args.self.now.wide in
    let v = c.args.base.now.me.0 in (
      c.requires.table,
      ap (λ s. s.table) c.seat.view_is ∙ (c.requires.seat ∙ c.requires.table),
      ap (λ m. m.1) c.seat.invariant.0,
      omega arith,
      joins_as c.args.self.now.table.shared.key c.args.base.now.id v.next v.stopped v.mine
          c.seat.inside.seat.id v c.seat.inside.seat.me.0 (ap (λ m. m.0) c.requires.base
          ∙ ap (λ p. base_view p v.next v.stopped v.mine) (sym key)),
    )

pub returns : goal.returns
returns c =
    let e = c.join_seat.ensures in
    let v = c.args.base.now.me.0 in
    let p = c.args.self.now.accepted.now in
    let w = c.seat.inside.seat.me.0 in
    let mixed : (joined_view v w, c.args.base.now.me.1)
    ≡ (
      joined_view (base_view p v.next v.stopped v.mine)
          (lane_view w.about c.seat.inside.lane (record_in w)),
      [],
    ) =
    λ i. (joined_view (c.requires.base i).0 (c.seat.invariant.0 i).0, (c.requires.base i).1) in (
      e.0,
      e.2 ∙ (mixed ∙ ap (λ s. (
        base_view p v.next v.stopped (v.mine ++ (s.lane, s.log) ∷ []),
        [],
      )) c.seat.view_is),
    )
