-- A refusal is right, and two verdicts on the same texts are one answer.
use Rattle.std.proofs.Common.{◌≡◌, ℕ, ◌+◌, ◌<◌, List, length, map, Result, Ok, Err, refl, sym, ap, subst, ◌∙◌, arith}
use Rattle.std.proofs.lemmas.Grind.{same_number_lists}
use Rattle.std.proofs.lemmas.Option.{none-some}
use Rattle.deb_text.specs.Lists.{lists}
use Rattle.deb_text.specs.declared.fault.Fault.{Fault}
use Rattle.farm_model.specs.Universe.{Universe}
use Rattle.farm_model.specs.declared.types.Trap.{Trap}
use Rattle.plan_model.specs.Common.{Rows, IsGreatest, IsOrder, Plan, lane, Hazard, Meets, Parts, IsAnnotation, IsFirstUnsafe}
use Rattle.verdict_laws.proofs.Alike.{agreeing_rows_are_alike}
use Rattle.verdict_laws.proofs.FirstOne.{first_unsafe_is_one}
use Rattle.verdict_laws.proofs.MoreSafe.{greatest_is_annotation}
use Rattle.verdict_laws.proofs.StuckOne.{stuck_are_one, orders_leave_none_stuck}
use Rattle.verdict_laws.proofs.Unions.{greatest_is_one}
use Rattle.plan_verifier.specs.Accepted.{AcceptedPlan, known_rows, AreCosts, IsAccepted}
use Rattle.plan_verifier.specs.OneVerdict.{RefusalsAreRight, IsSameRefusal, IsForMemory, IsSameAnswer, VerdictsAreOne}
use Rattle.plan_verifier.specs.Verdict.{IsRefused, AreStuckLanes, IsVerdictOn, IsVerdict}
use Rattle.plan_verifier.specs.Walk.{place_told}
use Rattle.plan_verifier.specs.declared.refusal.Refusal.{Refusal}
use Rattle.plan_verifier.specs.declared.refusal.Refusal.TheVariants.{Text, Unsafe, Uneven, Stuck, Memory}

not-annotated : (u : Universe) (p : Plan) (name : List ℕ) (number : ℕ) (hazard : Hazard)
    → IsRefused u p name number hazard → (rows : Rows) → IsAnnotation u p rows → ⊥
not-annotated u p name number hazard is rows annotation =
    let safe = (greatest_is_annotation u p rows is.rows annotation is.greatest).safe in
    none-some hazard (sym (safe is.l is.i is.first.in_plan) ∙ is.first.here)

-- with an annotation and an order a plan is refused for want of memory alone
refused : (u : Universe) (p : Plan) (refusal : Refusal) → IsVerdictOn u p (Err refusal)
    → (rows : Rows) (order : List ℕ) → IsAnnotation u p rows → IsOrder u p order
    → IsForMemory refusal
refused u p Memory is rows order annotation done = tt
refused u p (Text fault) is rows order annotation done = is
refused u p (Unsafe name number trap) is rows order annotation done =
    not-annotated u p name.items number (Meets trap) is rows annotation
refused u p (Uneven name number) is rows order annotation done =
    not-annotated u p name.items number Parts is rows annotation
refused u p (Stuck names) is rows order annotation done =
    is.some (orders_leave_none_stuck u p order is.lanes done is.stuck)

pub refusals_are_right : RefusalsAreRight
refusals_are_right u p Memory other is rows order annotation done = other refl
refusals_are_right u p (Text fault) other is rows order annotation done =
    refused u p (Text fault) is rows order annotation done
refusals_are_right u p (Unsafe name number trap) other is rows order annotation done =
    refused u p (Unsafe name number trap) is rows order annotation done
refusals_are_right u p (Uneven name number) other is rows order annotation done =
    refused u p (Uneven name number) is rows order annotation done
refusals_are_right u p (Stuck names) other is rows order annotation done =
    refused u p (Stuck names) is rows order annotation done

-- what is kept of an accepted plan, of the universe and the plan that it is about
record Held (u : Universe) (p : Plan) (rows : Rows) (costs : List ℕ) : Type 0 where
  greatest : IsGreatest u p rows
  annotation : IsAnnotation u p rows
  order : List ℕ
  done : IsOrder u p order
  costs_are : AreCosts u p rows (length p) costs

held : (u : Universe) (p : Plan) (a : AcceptedPlan) → a.universe ≡ u → a.plan ≡ p → IsAccepted a
    → Held u p (known_rows a) a.costs
held u p a of_universe of_plan is =
    subst (λ q. Held u q (known_rows a) a.costs) of_plan
    (subst (λ w. Held w a.plan (known_rows a) a.costs) of_universe
    (record {
      greatest = is.known;
      annotation = record { keeps = is.known.keeps; safe = is.safe };
      order = a.order;
      done = is.order;
      costs_are = is.costs;
    }))

-- under the greatest rows each lane has one cost
same-costs : (u : Universe) (p : Plan) (rows more : Rows) (costs others : List ℕ)
    → IsGreatest u p rows → IsGreatest u p more → AreCosts u p rows (length p) costs
    → AreCosts u p more (length p) others → costs ≡ others
same-costs u p rows more costs others great greater are other =
    let alike = agreeing_rows_are_alike u p rows more
    (greatest_is_one u p rows more great greater) in
    same_number_lists costs others (are.long ∙ sym other.long)
    (λ l lt. let within : l < length p = omega (arith, lt, are.long) in
    are.each l within ∙ alike.costs l within ∙ sym (other.each l within))

same-acceptance : (u : Universe) (p : Plan) (a b : AcceptedPlan) → IsVerdictOn u p (Ok a)
    → IsVerdictOn u p (Ok b) → IsSameAnswer (Ok a) (Ok b)
same-acceptance u p a b is other =
    let one = held u p a is.0 is.1 is.2 in
    let two = held u p b other.0 other.1 other.2 in (
      is.0 ∙ sym other.0,
      is.1 ∙ sym other.1,
      same-costs u p (known_rows a) (known_rows b) a.costs b.costs one.greatest two.greatest
          one.costs_are two.costs_are,
    )

-- what is accepted is not refused, but for memory
not-both : (u : Universe) (p : Plan) (a : AcceptedPlan) (refusal : Refusal)
    → IsVerdictOn u p (Ok a) → IsVerdictOn u p (Err refusal) → IsForMemory refusal
not-both u p a refusal is against =
    let one = held u p a is.0 is.1 is.2 in
    refused u p refusal against (known_rows a) one.order one.annotation one.done

-- of two first hazards under the greatest rows the second is that under the first rows too
same-unsafe : (u : Universe) (p : Plan) (name other : List ℕ) (number place : ℕ)
    (hazard cause : Hazard) → IsRefused u p name number hazard → IsRefused u p other place cause
    → (name ≡ other) × (number ≡ place) × (hazard ≡ cause)
same-unsafe u p name other number place hazard cause is against =
    let alike = agreeing_rows_are_alike u p against.rows is.rows
    (greatest_is_one u p against.rows is.rows against.greatest is.greatest) in
    let moved : IsFirstUnsafe u p is.rows against.l against.i cause = record {
      in_plan = against.first.in_plan;
      here = sym (alike.hazards against.l against.i against.first.in_plan) ∙ against.first.here;
      before = λ k lt. sym (alike.hazards against.l k against.first.in_plan)
          ∙ against.first.before k lt;
      lanes_before = λ j k lt. let within : j < length p = omega
          (arith, lt, against.first.in_plan) in
          sym (alike.hazards j k within) ∙ against.first.lanes_before j k lt;
    } in
    let one = first_unsafe_is_one u p is.rows is.l is.i against.l against.i hazard cause is.first
    moved in (
      is.named ∙ ap (λ l. (lane p l).name) one.0 ∙ sym against.named,
      is.numbered ∙ ap (λ l. place_told p l is.i hazard + 1) one.0
          ∙ ap (λ i. place_told p against.l i hazard + 1) one.1
          ∙ ap (λ h. place_told p against.l against.i h + 1) one.2 ∙ sym against.numbered,
      one.2,
    )

same_trap : {trap cause : Trap} → Meets trap ≡ Meets cause → trap ≡ cause
same_trap e = cc

trap-parts : {trap : Trap} → Meets trap ≡ Parts → ⊥
trap-parts e = cc

same-stuck : (u : Universe) (p : Plan) (names others : List (List ℕ)) → AreStuckLanes u p names
    → AreStuckLanes u p others → names ≡ others
same-stuck u p names others are other =
    are.named
    ∙ ap (map (λ l. (lane p l).name))
    (stuck_are_one u p are.lanes other.lanes are.stuck other.stuck)
    ∙ sym other.named

-- an unsafe instruction under the greatest rows, and stuck lanes of a plan that is safe under them
not-safe : (u : Universe) (p : Plan) (name : List ℕ) (number : ℕ) (hazard : Hazard)
    (names : List (List ℕ)) → IsRefused u p name number hazard → AreStuckLanes u p names → ⊥
not-safe u p name number hazard names is are =
    let alike = agreeing_rows_are_alike u p is.rows are.rows
    (greatest_is_one u p is.rows are.rows is.greatest are.greatest) in
    let safe = alike.hazards is.l is.i is.first.in_plan ∙ are.safe is.l is.i is.first.in_plan in
    none-some hazard (sym safe ∙ is.first.here)

same-refusal : (u : Universe) (p : Plan) (one other : Refusal) → IsVerdictOn u p (Err one)
    → IsVerdictOn u p (Err other) → IsSameRefusal one other
same-refusal u p Memory other is against = tt
same-refusal u p (Text fault) other is against = absurd is
same-refusal u p (Unsafe name number trap) Memory is against = tt
same-refusal u p (Unsafe name number trap) (Text told) is against = against
same-refusal u p (Unsafe name number trap) (Unsafe other place cause) is against =
    let same = same-unsafe u p name.items other.items number place (Meets trap) (Meets cause) is
    against in (same.0, same.1, same_trap same.2)
same-refusal u p (Unsafe name number trap) (Uneven other place) is against =
    trap-parts (same-unsafe u p name.items other.items number place (Meets trap) Parts is against).2
same-refusal u p (Unsafe name number trap) (Stuck names) is against =
    not-safe u p name.items number (Meets trap) (lists names.items) is against
same-refusal u p (Uneven name number) Memory is against = tt
same-refusal u p (Uneven name number) (Text told) is against = against
same-refusal u p (Uneven name number) (Unsafe other place cause) is against =
    trap-parts (same-unsafe u p other.items name.items place number (Meets cause) Parts against
    is).2
same-refusal u p (Uneven name number) (Uneven other place) is against =
    let same = same-unsafe u p name.items other.items number place Parts Parts is against in
    (same.0, same.1)
same-refusal u p (Uneven name number) (Stuck names) is against =
    not-safe u p name.items number Parts (lists names.items) is against
same-refusal u p (Stuck names) Memory is against = tt
same-refusal u p (Stuck names) (Text told) is against = against
same-refusal u p (Stuck names) (Unsafe name number trap) is against =
    not-safe u p name.items number (Meets trap) (lists names.items) against is
same-refusal u p (Stuck names) (Uneven name number) is against =
    not-safe u p name.items number Parts (lists names.items) against is
same-refusal u p (Stuck names) (Stuck others) is against =
    same-stuck u p (lists names.items) (lists others.items) is against

same-on : (u : Universe) (p : Plan) (one other : Result AcceptedPlan Refusal)
    → IsVerdictOn u p one → IsVerdictOn u p other → IsSameAnswer one other
same-on u p (Ok a) (Ok b) is against = same-acceptance u p a b is against
same-on u p (Ok a) (Err refusal) is against = not-both u p a refusal is against
same-on u p (Err refusal) (Ok b) is against = not-both u p b refusal against is
same-on u p (Err refusal) (Err other) is against = same-refusal u p refusal other is against

-- on texts that have a fault the first one is told
same-fault : (fault : Fault) (one other : Refusal) → IsVerdict (Err fault) (Err one)
    → IsVerdict (Err fault) (Err other) → IsSameRefusal one other
same-fault fault Memory other is against = tt
same-fault fault (Text told) Memory is against = tt
same-fault fault (Text told) (Text heard) is against = is ∙ sym against
same-fault fault (Text told) (Unsafe name number trap) is against = against
same-fault fault (Text told) (Uneven name number) is against = against
same-fault fault (Text told) (Stuck names) is against = against
same-fault fault (Unsafe name number trap) other is against = absurd is
same-fault fault (Uneven name number) other is against = absurd is
same-fault fault (Stuck names) other is against = absurd is

pub verdicts_are_one : VerdictsAreOne
verdicts_are_one (Ok of) one other is against = same-on of.universe of.plan one other is against
verdicts_are_one (Err fault) (Ok a) other is against = absurd is
verdicts_are_one (Err fault) (Err refusal) (Ok b) is against = absurd against
verdicts_are_one (Err fault) (Err refusal) (Err other) is against =
    same-fault fault refusal other is against
