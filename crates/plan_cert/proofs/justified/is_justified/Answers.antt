use Rattle.std.specs.Prelude.{◌↔◌, IsTrue}
use Rattle.std.proofs.Common.{◌≡◌, ◌+◌, suc, Some, length, sym, ap, subst, ◌∙◌, List, ℕ, arith}
use Rattle.bit_rows.specs.Sets.{variants_of, IsDifference}
use Rattle.cert_text.specs.Certificates.{IsNewRow}
use Rattle.farm_model.specs.Universe.{Universe}
use Rattle.plan_model.specs.Common.{row_before, lane, instruction_at}
use Rattle.plan_reader.proofs.Counts.{lane-few}
use Rattle.known_rows.proofs.ReadAt.{read_at}
use Rattle.verdict_laws.proofs.RowBefore.{row_before-le}
use Rattle.plan_cert.specs.PlaceRows.{place_rows_of}
use Rattle.plan_cert.specs.Opens.{place_before, IsAskedRow}
use Rattle.plan_cert.specs.Stated.{in_row}
use Rattle.plan_cert.proofs.HeldLaws.{before-is}
use Rattle.plan_cert.proofs.PlaceLaws.{rows-hold}
use Rattle.plan_cert.proofs.StatedLaws.{left-new, new-row}
use Rattle.plan_cert.proofs.JustifiedLaws.{IsWithin, more-unjustified, within-justified, publish-justified, asked-justified, adds-nothing}
use Rattle.plan_cert.proofs.justified.is_justified.Goals as goal

pub overflow_add-place : goal.overflow_add-place
overflow_add-place c =
    let short =
    lane-few c.args.at.claim.plan.now.lanes c.args.at.number c.args.at.in_plan
    c.lanes-lanes.ensures.limits in
    omega (arith, short, c.args.at.in_lane)

pub returns-in-Some : goal.returns-in-Some
returns-in-Some c =
    let u = c.args.at.claim.universe.now in
    let p = c.args.at.claim.plan.now.lanes in
    let known = c.args.at.claim.known.now in
    let rows = place_rows_of known in
    let l = c.args.at.number in
    let i = c.args.at.place in
    let x = c.index-instructions-place.result in
    let before = c.listed-before.result.now in
    let after = c.listed-after.result.now in
    let xs = c.instructions.ensures ∙ ap (λ of. of.instructions) c.lane.ensures in
    let at : instruction_at p l i ≡ Some x =
    read_at p l c.instructions.result.now i x xs (omega (arith, ap length xs, c.args.at.in_lane))
    c.index-instructions-place.is in
    let place : c.place_before-from.result ≡ row_before p l i x =
    c.place_before-from.ensures ∙ ap (λ o. place_before i o x) c.args.at.when_is
    ∙ before-is p l i x in
    let next : i + 1 ≡ suc i = omega arith in
    let of = c.args.at.claim.of_universe in
    let first : IsNewRow u before =
    subst (λ (w : Universe). IsNewRow w before) of c.listed-before.ensures.new in
    publish-justified u p rows l i x at before after
    (λ v. ap (λ k. rows l k v) (sym place)
    ∙ rows-hold u known l c.place_before-from.result before of c.listed-before.ensures.row v)
    (λ v. ap (λ k. rows l k v) (sym next)
    ∙ rows-hold u known l (i + 1) after of c.listed-after.ensures.row v)
    (subst (λ (w : Universe). IsNewRow w after) of c.listed-after.ensures.new)
    c.in-Some.recipe (length c.outputs-count.result.now) c.in-Some.ensures.some c.requires.universe
    first (ap length c.outputs-count.ensures.outputs) c.in_ok-row.row
    (c.in_ok-row.ensures.added (in_row before) (new-row u before first)) c.within.result
    c.within.ensures.set

pub returns-in-Some-2 : goal.returns-in-Some-2
returns-in-Some-2 c =
    let u = c.args.at.claim.universe.now in
    let p = c.args.at.claim.plan.now.lanes in
    let known = c.args.at.claim.known.now in
    let rows = place_rows_of known in
    let l = c.args.at.number in
    let i = c.args.at.place in
    let x = c.index-instructions-place.result in
    let before = c.listed-before.result.now in
    let after = c.listed-after.result.now in
    let xs = c.instructions.ensures ∙ ap (λ of. of.instructions) c.lane.ensures in
    let at : instruction_at p l i ≡ Some x =
    read_at p l c.instructions.result.now i x xs (omega (arith, ap length xs, c.args.at.in_lane))
    c.index-instructions-place.is in
    let place : c.place_before-from.result ≡ row_before p l i x =
    c.place_before-from.ensures ∙ ap (λ o. place_before i o x) c.args.at.when_is
    ∙ before-is p l i x in
    let next : i + 1 ≡ suc i = omega arith in
    let of = c.args.at.claim.of_universe in
    let asks = subst (IsAskedRow u x) c.in-Some-2.is c.in_ok-asked.ensures in
    asked-justified u p rows l i x at before after
    (λ v. ap (λ k. rows l k v) (sym place)
    ∙ rows-hold u known l c.place_before-from.result before of c.listed-before.ensures.row v)
    (λ v. ap (λ k. rows l k v) (sym next)
    ∙ rows-hold u known l (i + 1) after of c.listed-after.ensures.row v)
    (subst (λ (w : Universe). IsNewRow w after) of c.listed-after.ensures.new)
    asks.0 asks.1 c.take_out.new.self
    (subst (λ (row : List ℕ). IsDifference (variants_of row) (variants_of before)
    (variants_of c.take_out.new.self)) c.in_ok-new.ensures.cases c.take_out.ensures.set)
    c.in_ok-yes.yes (c.in_ok-yes.ensures asks.0 asks.2)

pub may_follow-requires-clause-new : goal.may_follow-requires-clause-new
may_follow-requires-clause-new c =
    let u = c.args.at.claim.universe.now in
    let after = c.listed-after.result.now in
    left-new u after c.listed-before.result.now c.take_out.new.self
    (subst (λ (w : Universe). IsNewRow w after) c.args.at.claim.of_universe
    c.listed-after.ensures.new)
    (c.take_out.ensures.len ∙ ap length c.in_ok-new.ensures.cases)
    (subst (λ (row : List ℕ). IsDifference (variants_of row) (variants_of c.listed-before.result.now)
    (variants_of c.take_out.new.self)) c.in_ok-new.ensures.cases c.take_out.ensures.set)

pub returns : goal.returns
returns c =
    let u = c.args.at.claim.universe.now in
    let p = c.args.at.claim.plan.now.lanes in
    let rows = place_rows_of c.args.at.claim.known.now in
    let l = c.args.at.number in
    let i = c.args.at.place in
    let x = c.index-instructions-place.result in
    let xs = c.instructions.ensures ∙ ap (λ of. of.instructions) c.lane.ensures in
    let at : instruction_at p l i ≡ Some x =
    read_at p l c.instructions.result.now i x xs (omega (arith, ap length xs, c.args.at.in_lane))
    c.index-instructions-place.is in
    let place : c.place_before-from.result ≡ row_before p l i x =
    c.place_before-from.ensures ∙ ap (λ o. place_before i o x) c.args.at.when_is
    ∙ before-is p l i x in
    let next : i + 1 ≡ suc i = omega arith in
    more-unjustified u p rows l i x at c.knows_within.result
    (subst (λ (k : ℕ). IsTrue c.knows_within.result ↔ IsWithin rows l (suc i) k) place
    (subst (λ (k : ℕ). IsTrue c.knows_within.result ↔ IsWithin rows l k c.place_before-from.result)
    next c.knows_within.ensures))
    c.if-knows_within.false
    (λ v. adds-nothing u p rows l i v x c.in_default.ensures.none
    (subst (IsAskedRow u x) c.in_default-2.is c.in_ok-asked.ensures))

pub returns-then-knows_within : goal.returns-then-knows_within
returns-then-knows_within c =
    let u = c.args.at.claim.universe.now in
    let p = c.args.at.claim.plan.now.lanes in
    let rows = place_rows_of c.args.at.claim.known.now in
    let l = c.args.at.number in
    let i = c.args.at.place in
    let x = c.index-instructions-place.result in
    let xs = c.instructions.ensures ∙ ap (λ of. of.instructions) c.lane.ensures in
    let at : instruction_at p l i ≡ Some x =
    read_at p l c.instructions.result.now i x xs (omega (arith, ap length xs, c.args.at.in_lane))
    c.index-instructions-place.is in
    let place : c.place_before-from.result ≡ row_before p l i x =
    c.place_before-from.ensures ∙ ap (λ o. place_before i o x) c.args.at.when_is
    ∙ before-is p l i x in
    let next : i + 1 ≡ suc i = omega arith in
    within-justified u p rows l i x at
    (subst (λ (k : ℕ). IsWithin rows l (suc i) k) place
    (subst (λ (k : ℕ). IsWithin rows l k c.place_before-from.result) next
    (c.knows_within.ensures.0 c.if-knows_within.true)))

pub knows_within-requires-clause-other : goal.knows_within-requires-clause-other
knows_within-requires-clause-other c =
    let p = c.args.at.claim.plan.now.lanes in
    let l = c.args.at.number in
    let i = c.args.at.place in
    let x = c.index-instructions-place.result in
    let place : c.place_before-from.result ≡ row_before p l i x =
    c.place_before-from.ensures ∙ ap (λ o. place_before i o x) c.args.at.when_is
    ∙ before-is p l i x in
    let le = row_before-le p l i x in
    let same = ap (λ q. length (lane q l).instructions) c.args.at.claim.of_plan in
    omega (arith, place, le, c.args.at.in_lane, same)

pub listed-before-requires-clause-place : goal.listed-before-requires-clause-place
listed-before-requires-clause-place c =
    let p = c.args.at.claim.plan.now.lanes in
    let l = c.args.at.number in
    let i = c.args.at.place in
    let x = c.index-instructions-place.result in
    let place : c.place_before-from.result ≡ row_before p l i x =
    c.place_before-from.ensures ∙ ap (λ o. place_before i o x) c.args.at.when_is
    ∙ before-is p l i x in
    let le = row_before-le p l i x in
    let same = ap (λ q. length (lane q l).instructions) c.args.at.claim.of_plan in
    omega (arith, place, le, c.args.at.in_lane, same)

pub asked_row-requires-clause-instruction : goal.asked_row-requires-clause-instruction
asked_row-requires-clause-instruction c =
    let p = c.args.at.claim.plan.now.lanes in
    let l = c.args.at.number in
    let i = c.args.at.place in
    let x = c.index-instructions-place.result in
    let xs = c.instructions.ensures ∙ ap (λ of. of.instructions) c.lane.ensures in
    c.requires.plan.instructions l i x c.args.at.in_plan
    (read_at p l c.instructions.result.now i x xs (omega (arith, ap length xs, c.args.at.in_lane))
    c.index-instructions-place.is)
