-- The verdict on a certificate, from what is known of the rows that it states.
use Rattle.std.proofs.Common.{◌≡◌, ℕ, ◌<◌, true, length, Err, sym, ◌∙◌, arith}
use Rattle.cert_text.specs.Certificates.{Certificate, IsCertificate}
use Rattle.cert_text.specs.declared.fault.CertFault.{CertFault}
use Rattle.cert_text.specs.declared.fault.CertFault.TheVariants.{Text, Row, Unsafe, Uneven, Order, Memory}
use Rattle.farm_laws.proofs.LawsOfPlans.{every_interleaving}
use Rattle.farm_model.specs.Common.{Universe, initial, IsUniverse}
use Rattle.farm_model.specs.declared.types.Variant.{Variant}
use Rattle.plan_model.specs.Common.{Rows, KeepsRows, IsOrder, Plan, IsSafe, Hazard, Meets, Parts, IsSafeUnder, IsFirstUnsafe, IsSound}
use Rattle.plan_verifier.specs.Costs.{IsFirstTold}
use Rattle.verdict_laws.specs.Agreeing.{Agree}
use Rattle.verdict_laws.specs.Places.{IsFirstUnjustified}
use Rattle.verdict_laws.proofs.Alike.{agreeing_rows_are_alike}
use Rattle.verdict_laws.proofs.ByPlace.{keeping_is_by_place}
use Rattle.plan_cert.specs.Broken.{IsOrderChecked}
use Rattle.plan_cert.specs.Certified.{Certifies, IsUnsafeAt, IsCertVerdict}
use Rattle.plan_cert.specs.Checked.{AreChecked, AreSafe}
use Rattle.plan_cert.specs.Places.{HaveKnown}
use Rattle.plan_cert.specs.Stated.{stated_rows}
use Rattle.plan_cert.proofs.StatedLaws.{stated-known, stated-start}

-- rows that agree keep alike, and are safe alike
pub keeps-alike : (u : Universe) (p : Plan) (rows other : Rows) → Agree p rows other
    → KeepsRows u p rows → KeepsRows u p other
keeps-alike u p rows other same keeps =
    let alike = agreeing_rows_are_alike u p rows other same in
    (keeping_is_by_place u p other).1
    (λ l i lt. (alike.justified l i lt).0 ((keeping_is_by_place u p rows).0 keeps l i lt))

pub safe-alike : (u : Universe) (p : Plan) (rows other : Rows) → Agree p rows other
    → IsSafeUnder u p rows → IsSafeUnder u p other
safe-alike u p rows other same safe l i lt =
    sym ((agreeing_rows_are_alike u p rows other same).hazards l i lt) ∙ safe l i lt

unjustified-alike : (u : Universe) (p : Plan) (rows other : Rows) (l i : ℕ) → Agree p rows other
    → IsFirstUnjustified u p rows l i → IsFirstUnjustified u p other l i
unjustified-alike u p rows other l i same first =
    let alike = agreeing_rows_are_alike u p rows other same in
    record {
      in_plan = first.in_plan;
      here = λ j. first.here ((alike.justified l i first.in_plan).1 j);
      before = λ k lt. (alike.justified l k first.in_plan).0 (first.before k lt);
      lanes_before = λ j k lt. (alike.justified j k (omega (arith, lt, first.in_plan))).0
          (first.lanes_before j k lt);
    }

unsafe-alike : (u : Universe) (p : Plan) (rows other : Rows) (l i : ℕ) (hazard : Hazard)
    → Agree p rows other → IsFirstUnsafe u p rows l i hazard → IsFirstUnsafe u p other l i hazard
unsafe-alike u p rows other l i hazard same first =
    let alike = agreeing_rows_are_alike u p rows other same in
    record {
      in_plan = first.in_plan;
      here = sym (alike.hazards l i first.in_plan) ∙ first.here;
      before = λ k lt. sym (alike.hazards l k first.in_plan) ∙ first.before k lt;
      lanes_before = λ j k lt. sym (alike.hazards j k (omega (arith, lt, first.in_plan)))
          ∙ first.lanes_before j k lt;
    }

module _ (u : Universe) (p : Plan) (c : Certificate) (is : IsCertificate u p c)
    (sound : IsUniverse u)
    (rows : Rows) (same : Agree p rows (stated_rows u p c)) where
  pub have-known : HaveKnown u p rows
  have-known l i v lt le e = stated-known u p c is sound l i v (sym (same l i v lt le) ∙ e)

  pub starts : (l : ℕ) (v : Variant) → l < length p → rows l 0 v ≡ true → initial u v ≡ true
  starts l v lt e = stated-start u p c is l v (sym (same l 0 v lt (omega arith)) ∙ e)

  pub rows-verdict : (f : CertFault) → AreChecked u p rows (Err f) → IsCertVerdict u p c (Err f)
  rows-verdict (Row l number) told = unjustified-alike u p rows (stated_rows u p c) l number same
      told
  rows-verdict Memory told = tt
  rows-verdict (Text line) told = absurd told
  rows-verdict (Unsafe l number trap) told = absurd told
  rows-verdict (Uneven l number) told = absurd told
  rows-verdict (Order item) told = absurd told

  told-unsafe : KeepsRows u p rows → (l number : ℕ) (hazard : Hazard)
      → IsFirstTold u p rows l hazard number
      → IsUnsafeAt u p (stated_rows u p c) l number hazard
  told-unsafe keeps l number hazard told = record {
    keeps = keeps-alike u p rows (stated_rows u p c) same keeps;
    place = told.i;
    numbered = told.numbered;
    first = unsafe-alike u p rows (stated_rows u p c) l told.i hazard same told.first;
  }

  pub safety-verdict : KeepsRows u p rows → (f : CertFault) → AreSafe u p rows (Err f)
      → IsCertVerdict u p c (Err f)
  safety-verdict keeps (Unsafe l number trap) told = told-unsafe keeps l number (Meets trap) told
  safety-verdict keeps (Uneven l number) told = told-unsafe keeps l number Parts told
  safety-verdict keeps Memory told = tt
  safety-verdict keeps (Text line) told = absurd told
  safety-verdict keeps (Row l number) told = absurd told
  safety-verdict keeps (Order item) told = absurd told

  pub order-verdict : KeepsRows u p rows → IsSafeUnder u p rows → (f : CertFault)
      → IsOrderChecked u p c.order (Err f) → IsCertVerdict u p c (Err f)
  order-verdict keeps safe (Order item) told = record {
    keeps = keeps-alike u p rows (stated_rows u p c) same keeps;
    safe = safe-alike u p rows (stated_rows u p c) same safe;
    broken = told;
  }
  order-verdict keeps safe Memory told = tt
  order-verdict keeps safe (Text line) told = absurd told
  order-verdict keeps safe (Row l number) told = absurd told
  order-verdict keeps safe (Unsafe l number trap) told = absurd told
  order-verdict keeps safe (Uneven l number) told = absurd told

  pub certified : KeepsRows u p rows → IsSafeUnder u p rows → IsOrder u p c.order → Certifies u p c
  certified keeps safe order = record {
    keeps = keeps-alike u p rows (stated_rows u p c) same keeps;
    safe = safe-alike u p rows (stated_rows u p c) same safe;
    order = order;
  }

-- a certified plan keeps the promise
pub promise : (u : Universe) (p : Plan) (c : Certificate) → IsSound u p → Certifies u p c
    → IsSafe u p
promise u p c sound is =
    every_interleaving u p (stated_rows u p c) c.order sound
    (record { keeps = is.keeps; safe = is.safe }) is.order
