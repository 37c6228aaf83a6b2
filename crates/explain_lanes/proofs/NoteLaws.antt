-- The note on a lane, by its first hazard; and that the notes on all lanes begin with the one on the
-- first unsafe instruction.
use Rattle.std.proofs.Common.{◌≡◌, ℕ, ◌+◌, ◌-◌, List, [], ◌∷◌, ◌++◌, length, Option, Some, None, refl, sym, ap, subst, ◌∙◌, arith}
use Rattle.farm_model.specs.Universe.{Universe}
use Rattle.plan_reader.specs.PlanLines.{LaneLines}
use Rattle.plan_model.specs.Common.{Rows, Plan, hazard_at}
use Rattle.plan_verifier.specs.Walk.{place_told}
use Rattle.verdict_laws.proofs.Alike.{agreeing_rows_are_alike}
use Rattle.verdict_laws.proofs.Unions.{greatest_is_one}
use Rattle.explain_reasons.proofs.FirstLaws.{first_is, safe-lane}
use Rattle.explain_reasons.specs.Removals.{lane_hazard, told, trap_of}
use Rattle.explain_reasons.specs.declared.along.LaneHazard.{LaneHazard}
use Rattle.explain_lanes.proofs.Below.{all_below-first}
use Rattle.explain_lanes.proofs.Hazards.{is_first}
use Rattle.explain_lanes.specs.LaneNotes.{BeginsAt, EachHazardIsTold, NotesBeginWithTheVerdict, hazard_notes, lane_notes, told_further, unsafe_notes}
use Rattle.explain_lanes.specs.Notes.{note_at, note_of}
use Rattle.explain_lanes.specs.declared.note.Told.{Told}

module _ (u : Universe) (p : Plan) (rows : Rows) (ls : List LaneLines) (l : ℕ) where
  pub notes_are : (found : Option LaneHazard) → found ≡ lane_hazard u p rows l
      → hazard_notes u p rows ls l found ≡ lane_notes u p rows ls l
  unfolding lane_notes
  notes_are found is = ap (hazard_notes u p rows ls l) is

  notes_none : ((i : ℕ) → hazard_at u p rows l i ≡ None) → lane_notes u p rows ls l ≡ []
  notes_none safe = sym (notes_are None (sym (safe-lane u p rows l safe)))

  -- of a hazard there is one note
  one_note : (it : LaneHazard) → lane_hazard u p rows l ≡ Some it
      → (t : Told) × (lane_notes u p rows ls l
      ≡ note_at p ls l (it.instruction - 1) it.trap t (told_further u p rows l it.place t) ∷ [])
  one_note it is =
      let t = (is_first u p rows l it (sym is)).tells in (
        t.0,
        sym (notes_are (Some it) (sym is))
            ∙ ap (note_of p ls l (it.instruction - 1) it.trap (told_further u p rows l it.place)) t.1,
      )

pub each_hazard_is_told : EachHazardIsTold
each_hazard_is_told u p rows ls l it first = ap length (one_note u p rows ls l it first).1

-- the first unsafe instruction is the same by each greatest rows
pub notes_begin_with_the_verdict : NotesBeginWithTheVerdict
unfolding unsafe_notes
notes_begin_with_the_verdict u p rows ls name number hazard great is =
    let alike = agreeing_rows_are_alike u p is.rows rows
    (greatest_is_one u p is.rows rows is.greatest great) in
    let first = first_is u p rows is.l is.i hazard
    (sym (alike.hazards is.l is.i is.first.in_plan) ∙ is.first.here)
    (λ k lt. sym (alike.hazards is.l k is.first.in_plan) ∙ is.first.before k lt) in
    let note = one_note u p rows ls is.l (told p is.l is.i hazard) first in
    let all = all_below-first (length p) is.l (lane_notes u p rows ls) is.first.in_plan
    (λ j lt. notes_none u p rows ls j
    (λ k. sym (alike.hazards j k (omega (arith, lt, is.first.in_plan)))
    ∙ is.first.lanes_before j k lt)) in
    let number_is : place_told p is.l is.i hazard + 1 - 1 + 1 ≡ number =
    omega (arith, is.numbered) in
    subst (BeginsAt name number (trap_of hazard)) (sym (all.1 ∙ ap (λ xs. xs ++ all.0) note.1))
    (_, refl, sym is.named, number_is, refl)
