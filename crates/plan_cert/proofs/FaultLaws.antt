-- The first faults of a certificate: one at most, and none where it certifies.
use Rattle.std.proofs.Common.{◌≡◌, ℕ, ◌+◌, sym, ap, ◌∙◌}
use Rattle.std.proofs.lemmas.Option.{none-some}
use Rattle.cert_text.specs.declared.fault.CertFault.TheVariants.{Text, Row, Unsafe, Uneven, Order, Memory}
use Rattle.farm_model.specs.Universe.{Universe}
use Rattle.plan_model.specs.Common.{Rows, KeepsRows, Plan, Hazard, Meets, Parts, IsSafeUnder}
use Rattle.plan_verifier.specs.Walk.{place_told}
use Rattle.verdict_laws.proofs.ByPlace.{keeping_is_by_place, first_unjustified_is_one}
use Rattle.verdict_laws.specs.Places.{IsFirstUnjustified}
use Rattle.verdict_laws.proofs.FirstOne.{first_unsafe_is_one}
use Rattle.plan_cert.proofs.OrderLaws.{order-unbroken, broken-once}
use Rattle.plan_cert.specs.Certified.{IsUnsafeAt, FaultsRefuse, FirstFaultIsOne}
use Rattle.plan_cert.specs.Stated.{stated_rows}

-- rows that keep to the inclusions have no row that is not justified
not-kept : (u : Universe) (p : Plan) (rows : Rows) (l i : ℕ) → IsFirstUnjustified u p rows l i
    → KeepsRows u p rows → ⊥
not-kept u p rows l i first keeps =
    first.here ((keeping_is_by_place u p rows).0 keeps l i first.in_plan)

not-safe : (u : Universe) (p : Plan) (rows : Rows) (l number : ℕ) (hazard : Hazard)
    → IsUnsafeAt u p rows l number hazard → IsSafeUnder u p rows → ⊥
not-safe u p rows l number hazard is safe =
    none-some hazard (sym (safe l is.place is.first.in_plan) ∙ is.first.here)

pub faults_refuse : FaultsRefuse
faults_refuse u p c (Row l number) first is =
    not-kept u p (stated_rows u p c) l number first is.keeps
faults_refuse u p c (Unsafe l number trap) first is =
    not-safe u p (stated_rows u p c) l number (Meets trap) first is.safe
faults_refuse u p c (Uneven l number) first is =
    not-safe u p (stated_rows u p c) l number Parts first is.safe
faults_refuse u p c (Order item) first is = order-unbroken u p c.order item is.order first.broken
faults_refuse u p c (Text line) first is = first
faults_refuse u p c Memory first is = first

-- one lane, number and hazard
same-unsafe : (u : Universe) (p : Plan) (rows : Rows) (l number k other : ℕ) (hazard after : Hazard)
    → IsUnsafeAt u p rows l number hazard → IsUnsafeAt u p rows k other after
    → (l ≡ k) × (number ≡ other) × (hazard ≡ after)
same-unsafe u p rows l number k other hazard after a b =
    let one = first_unsafe_is_one u p rows l a.place k b.place hazard after a.first b.first in
    let told : place_told p l a.place hazard ≡ place_told p k b.place after =
    ap (λ j. place_told p j a.place hazard) one.0 ∙ ap (λ i. place_told p k i hazard) one.1
    ∙ ap (place_told p k b.place) one.2 in
    (one.0, a.numbered ∙ ap (λ n. n + 1) told ∙ sym b.numbered, one.2)

pub first_fault_is_one : FirstFaultIsOne
first_fault_is_one u p c (Row l number) (Row k other) f g =
    let one = first_unjustified_is_one u p (stated_rows u p c) l number k other f g in
    let lanes : l ≡ k = one.0 in
    let numbers : number ≡ other = one.1 in
    cc
first_fault_is_one u p c (Row l number) (Unsafe k other trap) f g =
    absurd (not-kept u p (stated_rows u p c) l number f g.keeps)
first_fault_is_one u p c (Row l number) (Uneven k other) f g =
    absurd (not-kept u p (stated_rows u p c) l number f g.keeps)
first_fault_is_one u p c (Row l number) (Order item) f g =
    absurd (not-kept u p (stated_rows u p c) l number f g.keeps)
first_fault_is_one u p c (Unsafe l number trap) (Row k other) f g =
    absurd (not-kept u p (stated_rows u p c) k other g f.keeps)
first_fault_is_one u p c (Unsafe l number trap) (Unsafe k other after) f g =
    let one = same-unsafe u p (stated_rows u p c) l number k other (Meets trap) (Meets after) f g in
    let lanes : l ≡ k = one.0 in
    let numbers : number ≡ other = one.1 in
    let traps : Meets trap ≡ Meets after = one.2 in
    cc
first_fault_is_one u p c (Unsafe l number trap) (Uneven k other) f g =
    let one = same-unsafe u p (stated_rows u p c) l number k other (Meets trap) Parts f g in
    let unlike : Meets trap ≡ Parts = one.2 in
    cc
first_fault_is_one u p c (Unsafe l number trap) (Order item) f g =
    absurd (not-safe u p (stated_rows u p c) l number (Meets trap) f g.safe)
first_fault_is_one u p c (Uneven l number) (Row k other) f g =
    absurd (not-kept u p (stated_rows u p c) k other g f.keeps)
first_fault_is_one u p c (Uneven l number) (Unsafe k other after) f g =
    let one = same-unsafe u p (stated_rows u p c) l number k other Parts (Meets after) f g in
    let unlike : Parts ≡ Meets after = one.2 in
    cc
first_fault_is_one u p c (Uneven l number) (Uneven k other) f g =
    let one = same-unsafe u p (stated_rows u p c) l number k other Parts Parts f g in
    let lanes : l ≡ k = one.0 in
    let numbers : number ≡ other = one.1 in
    cc
first_fault_is_one u p c (Uneven l number) (Order item) f g =
    absurd (not-safe u p (stated_rows u p c) l number Parts f g.safe)
first_fault_is_one u p c (Order item) (Row k other) f g =
    absurd (not-kept u p (stated_rows u p c) k other g f.keeps)
first_fault_is_one u p c (Order item) (Unsafe k other trap) f g =
    absurd (not-safe u p (stated_rows u p c) k other (Meets trap) g f.safe)
first_fault_is_one u p c (Order item) (Uneven k other) f g =
    absurd (not-safe u p (stated_rows u p c) k other Parts g f.safe)
first_fault_is_one u p c (Order item) (Order other) f g =
    let same : item ≡ other = broken-once u p c.order item other f.broken g.broken in cc
first_fault_is_one u p c (Text line) g f h = absurd f
first_fault_is_one u p c Memory g f h = absurd f
first_fault_is_one u p c (Row l number) (Text line) f g = absurd g
first_fault_is_one u p c (Row l number) Memory f g = absurd g
first_fault_is_one u p c (Unsafe l number trap) (Text line) f g = absurd g
first_fault_is_one u p c (Unsafe l number trap) Memory f g = absurd g
first_fault_is_one u p c (Uneven l number) (Text line) f g = absurd g
first_fault_is_one u p c (Uneven l number) Memory f g = absurd g
first_fault_is_one u p c (Order item) (Text line) f g = absurd g
first_fault_is_one u p c (Order item) Memory f g = absurd g
