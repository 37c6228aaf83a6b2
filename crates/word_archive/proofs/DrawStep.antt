-- The draw of a serial, as a step of a lane's seat.
use Rattle.std.proofs.Common.{Some, [], length, refl, set, subst, sym, ℕ, ◌%◌, ◌+◌, ◌^◌, ◌≡◌}
use mathlib.Core.Option.{none}
use Rattle.atomic_table.specs.Table.{Allows, Me, keeps, step}
use Rattle.farm_model.specs.Packages.{names}
use Rattle.farm_model.specs.declared.types.Variant.{Variant}
use Rattle.archive_laws.specs.Records.{Record, after_draw, next_output}
use Rattle.plan_verifier.specs.Accepted.{AcceptedPlan, IsAccepted}
use Rattle.word_archive.specs.Rule.{Keeps, KeepsRule, serial_word}
use Rattle.word_archive.specs.Serials.{SerialsFit, made_by}
use Rattle.word_archive.specs.Steps.{Drawn}
use Rattle.word_archive.specs.Views.{SeatView, lane_view}
use Rattle.word_archive.proofs.Draws.{draw_stands, drawn_words, no_wrap}
use Rattle.word_archive.proofs.KnownPublished.{all_below}
use Rattle.word_archive.proofs.Lists.{get_set}
use Rattle.word_archive.proofs.Moves.{lane_moves}
use Rattle.word_archive.proofs.Records.{record_holds}

-- the step of a lane's seat
pub draws_one : {S : Type 0} (a : AcceptedPlan) (slots id l : ℕ) (r : Record) (v : Variant)
    → IsAccepted a → SerialsFit a → next_output a.universe a.plan l r.at ≡ Some v
    → length r.serials ≡ made_by a l r.at
    → Allows {S = S} {V = SeatView} (KeepsRule a) slots id (lane_view a l r, []) (names a.universe)
    (λ n. (n + 1) % 2 ^ 64) (Drawn (step slots (names a.universe) 1 0 none) (lane_view a l r, []))
draws_one a slots id l r v accepted few next room s h homes at small =
    let found = serial_word a s.words in
    let r' = after_draw found r in
    let here = (h.fits id (lane_view a l r) at).entries.0.1 in
    let st = h.stands in
    let stands = draw_stands a accepted s.words h.records h.stopped st l r here v next few room in
    let kept = lane_moves a s.words _ s.views id l r r' h at stands in (
      lane_view a l r',
      keeps,
      tt,
      subst (λ x. Keeps a (set s.words (names a.universe) x) (set s.views id (lane_view a l r')))
          (sym (no_wrap a accepted s.words h.records h.stopped st l r here v next few room)) kept,
      (
        (
          refl,
          record_holds a accepted (drawn_words a accepted s.words h.records h.stopped st l r
              here v next few room) (set h.records l r') h.stopped stands l r'
              (get_set h.records l r r' here),
        ),
        all_below a accepted s.words h.records h.stopped st l
            r here,
      ),
    )

-- the same, where the seat and the word are known by equations
pub draws_as : {S : Type 0} (a : AcceptedPlan) (slots id l n : ℕ) (r : Record) (v : Variant)
    (me : Me S SeatView) → IsAccepted a → SerialsFit a
    → next_output a.universe a.plan l r.at ≡ Some v
    → length r.serials ≡ made_by a l r.at → n ≡ names a.universe → me ≡ (lane_view a l r, [])
    → Allows {S = S} {V = SeatView} (KeepsRule a) slots id me n (λ n. (n + 1) % 2 ^ 64)
    (Drawn (step slots n 1 0 none) me)
draws_as {S} a slots id l n r v me accepted few next room at is =
    subst (λ (m : Me S SeatView × ℕ). Allows {S = S} {V = SeatView} (KeepsRule a) slots id m.0 m.1
    (λ n. (n + 1) % 2 ^ 64) (Drawn (step slots m.1 1 0 none) m.0)) (λ i. (sym is i, sym at i))
    (draws_one a slots id l r v accepted few next room)
