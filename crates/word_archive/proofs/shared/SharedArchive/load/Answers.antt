use Rattle.word_archive.proofs.shared.SharedArchive.load.Goals as goal
use Rattle.std.proofs.Common.{[], ap, arith, subst, sym, vec_capacity, ◌∙◌, ◌≡◌}
use Rattle.std.specs.Prelude.{slice_index}
use Rattle.farm_model.specs.Packages.{names}
use Rattle.archive_laws.proofs.Bounded.{loads_are_in_bounds}
use Rattle.archive_laws.specs.Bounds.{IsLoaded, IsWithinBits}
use Rattle.plan_verifier.specs.Accepted.{IsAccepted, known_rows}
use Rattle.word_archive.specs.Calls.{IsBoundedFor}
use Rattle.word_archive.specs.Seats.{LaneSeatOf}
use Rattle.word_archive.specs.Steps.{loaded_record}
use Rattle.word_archive.specs.Views.{lane_in, lane_view, record_in}
use Rattle.word_archive.proofs.Loads.{loads_as}
use Rattle.plan_verifier.proofs.Promises.{annotation}
use Rattle.word_archive.proofs.SeatKept.{made_here, seat_after}

pub load-requires : goal.load-requires
load-requires c =
    let me = c.seat.inside.seat.me in
    let l = c.seat.inside.lane in
    let r = record_in me.0 in
    let key = c.args.self.now.of_plan in
    let about = ap (λ s. s.about) c.seat.view_is ∙ (c.requires.about ∙ sym key) in
    let wide = c.args.self.now.wide in
    let names_are = ap (λ a. names a.universe) key in
    let name = c.requires.name in (
      ap (λ s. s.table) c.seat.view_is ∙ c.requires.table,
      omega arith,
      loads_as c.args.self.now.table.shared.key _ _ l c.args.name r me
          (subst IsAccepted (sym key) c.keeps.ensures) (omega arith)
          (c.seat.invariant.0 ∙ ap (λ a. (lane_view a l r, [])) about),
    )

pub invariant_of-seat : goal.invariant_of-seat
invariant_of-seat c =
    let s = c.seat.inside in
    let h = c.seat.invariant in
    let told = c.load.ensures.2 in
    seat_after s.seat.me s.lane s.outputs.items s.serials.items (vec_capacity s.serials) s.made h
    c.load.new.seat.me (loaded_record s.seat.me.0 c.args.name c.load.result) told.0
    s.serials.items
    (vec_capacity s.serials) s.made h.3 h.4
    (made_here s.seat.me s.lane s.outputs.items s.serials.items (vec_capacity s.serials) s.made h
    ∙ sym told.3)

pub returns-clause-grown : goal.returns-clause-grown
returns-clause-grown c =
    subst (λ s. IsWithinBits (slice_index s.log.loaded c.args.name) c.load.result) c.seat.view_is
    c.load.ensures.2.2

pub returns-clause-bounds : goal.returns-clause-bounds
returns-clause-bounds c =
    let h = c.seat.invariant in
    let v = c.seat.inside.seat.me.0 in
    let l = c.seat.inside.lane in
    let is_lane : lane_in v ≡ l = ap (λ m. lane_in m.0) h.0 in
    let mine = ap (λ s. s.about) c.seat.view_is ∙ c.requires.about in
    let accepted : IsAccepted v.about = subst IsAccepted (sym mine) c.keeps.ensures in
    let loaded =
    subst (λ k. IsLoaded v.about.universe v.about.plan k (record_in v).at c.args.name
    c.load.result)
    is_lane c.load.ensures.2.1 in
    let bounds = loads_are_in_bounds v.about.universe v.about.plan (known_rows v.about)
    accepted.sound (annotation v.about accepted) l h.1.in_plan (record_in v).at c.args.name
    c.load.result loaded in
    subst (λ (s : LaneSeatOf). IsBoundedFor s c.args.name c.load.result) c.seat.view_is bounds
