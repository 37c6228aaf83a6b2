-- The output at the last serial that a seat has drawn is the one that its lane makes next.
use Rattle.std.proofs.Common.{List, Some, ap, arith, get_or, length, slice_get, subst, suc, sym, ℕ, ◌-◌, ◌<◌, ◌∙◌, ◌≡◌}
use Rattle.atomic_table.specs.Seated.{TableId}
use Rattle.atomic_table.specs.Table.{Me}
use Rattle.farm_model.specs.declared.types.Variant.{Variant}
use Rattle.archive_laws.proofs.NextOutput.{next_at}
use Rattle.archive_laws.specs.Laws.{IsNext}
use Rattle.archive_laws.specs.Records.{Record, next_output}
use Rattle.plan_verifier.specs.Accepted.{AcceptedPlan, IsAccepted}
use Rattle.word_archive.specs.Calls.{seat_made, seat_output}
use Rattle.word_archive.specs.Seats.{IsSeat, LaneSeatOf, seat_of}
use Rattle.word_archive.specs.Serials.{made_by}
use Rattle.word_archive.specs.Views.{SeatView, record_in}
use Rattle.word_archive.proofs.Lists.{get_some}

module _ {S : Type 0} (me : Me S SeatView) (l : ℕ) (outs : List Variant) (serials : List ℕ)
    (room made : ℕ) (seat : IsSeat me l outs serials room made) where
  -- the plan that the seat is about
  abbrev a : AcceptedPlan
  a = me.0.about

  -- its lane's record
  abbrev r : Record
  r = record_in me.0

  -- what is asked of the seat as callers see it, told of what it keeps
  pub record IsDue (v : Variant) : Type 0 where
    pub output : next_output a.universe a.plan l r.at ≡ Some v
    pub drawn : length r.serials ≡ suc (made_by a l r.at)

  pub is_due : (t : TableId) (q : LaneSeatOf) → seat_of t a l r ≡ q → (v : Variant)
      → seat_output q ≡ Some v → length q.log.serials ≡ suc (seat_made q) → IsDue v
  is_due t q is v out drawn = record {
    output = subst (λ (s : LaneSeatOf). seat_output s ≡ Some v) (sym is) out;
    drawn = subst (λ (s : LaneSeatOf). length s.log.serials ≡ suc (seat_made s)) (sym is) drawn;
  }

  -- the last serial is that of an output
  pub in_range : (v : Variant) → IsDue v → length serials - 1 < length outs
  in_range v due =
      let few = seat.1.few in
      let drawn = due.drawn in
      let own = ap length seat.3 in
      let all = ap length seat.2 in
      omega arith

  -- and of the one that comes next
  pub listed : IsAccepted a → (v o : Variant) → IsDue v → (n : ℕ) → n ≡ length serials
      → o ≡ get_or outs (n - 1) o → (v ≡ o) × IsNext a.universe a.plan l r v
  listed accepted v o due n long is =
      let k = n - 1 in
      let drawn = due.drawn in
      let own = ap length seat.3 in
      let lt = in_range v due in
      let here : slice_get outs k ≡ Some o =
      get_some outs k o (omega arith) ∙ ap (λ x. Some x) (sym is) in
      next_at a.universe a.plan accepted.sound l r seat.1 v o outs serials k due.output seat.2
      seat.3 drawn (omega arith) here
