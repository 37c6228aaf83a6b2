-- What a certificate certifies, and the first cause for which it does not. The project's own rules.
-- Parameters: u a universe, p a plan, c a certificate.
--
--   Certifies            its rows keep to the inclusions, each instruction is safe under them, and
--                        its list is an order
--   IsFirstFault         the first cause: a row, else an instruction, else an item of the list
--   IsCertVerdict        the verdict on a certificate
--   FaultsRefuse, FirstFaultIsOne
--                        where there is a first fault it does not certify; there is one at most
use Rattle.std.specs.Prelude.{◌≡◌, ℕ, ◌+◌, Result, Ok, Err}
use Rattle.cert_text.specs.Certificates.{Certificate}
use Rattle.cert_text.specs.declared.fault.CertFault.{CertFault}
use Rattle.cert_text.specs.declared.fault.CertFault.TheVariants.{Text, Row, Unsafe, Uneven, Order, Memory}
use Rattle.farm_model.specs.Universe.{Universe}
use Rattle.plan_model.specs.Common.{Rows, KeepsRows, IsOrder, Plan, Hazard, Meets, Parts, IsSafeUnder, IsFirstUnsafe}
use Rattle.plan_verifier.specs.Walk.{place_told}
use Rattle.verdict_laws.specs.Places.{IsFirstUnjustified}
use Rattle.plan_cert.specs.Broken.{IsBrokenAt}
use Rattle.plan_cert.specs.Stated.{stated_rows}

pub record Certifies (u : Universe) (p : Plan) (c : Certificate) : Type 0 where
  pub keeps : KeepsRows u p (stated_rows u p c)
  pub safe : IsSafeUnder u p (stated_rows u p c)
  pub order : IsOrder u p c.order

-- under rows that keep to the inclusions, this hazard is the first one of the first lane that has
-- one: a trap of the instruction of this number, from 1, or branches that part of the `when` of
-- this number
pub record IsUnsafeAt (u : Universe) (p : Plan) (rows : Rows) (l number : ℕ) (hazard : Hazard)
    : Type 0 where
  pub keeps : KeepsRows u p rows
  pub place : ℕ
  pub numbered : number ≡ place_told p l place hazard + 1
  pub first : IsFirstUnsafe u p rows l place hazard

-- each instruction is safe under rows that keep to the inclusions, but the list is no order
pub record IsNoOrder (u : Universe) (p : Plan) (c : Certificate) (item : ℕ) : Type 0 where
  pub keeps : KeepsRows u p (stated_rows u p c)
  pub safe : IsSafeUnder u p (stated_rows u p c)
  pub broken : IsBrokenAt u p c.order item

-- the row of a place is that behind the instruction of the same number, from 1
abbrev pub IsFirstFault : Universe → Plan → Certificate → CertFault → Type 0
IsFirstFault u p c (Row l number) = IsFirstUnjustified u p (stated_rows u p c) l number
IsFirstFault u p c (Unsafe l number trap) =
    IsUnsafeAt u p (stated_rows u p c) l number (Meets trap)
IsFirstFault u p c (Uneven l number) = IsUnsafeAt u p (stated_rows u p c) l number Parts
IsFirstFault u p c (Order item) = IsNoOrder u p c item
IsFirstFault u p c (Text line) = ⊥
IsFirstFault u p c Memory = ⊥

-- it certifies, or this is the first fault, unless memory ran out
abbrev pub IsCertVerdict : Universe → Plan → Certificate → Result Unit CertFault → Type 0
IsCertVerdict u p c (Ok done) = Certifies u p c
IsCertVerdict u p c (Err Memory) = Unit {0}
IsCertVerdict u p c (Err (Text line)) = ⊥
IsCertVerdict u p c (Err (Row l number)) = IsFirstFault u p c (Row l number)
IsCertVerdict u p c (Err (Unsafe l number trap)) = IsFirstFault u p c (Unsafe l number trap)
IsCertVerdict u p c (Err (Uneven l number)) = IsFirstFault u p c (Uneven l number)
IsCertVerdict u p c (Err (Order item)) = IsFirstFault u p c (Order item)

-- a certificate that has a first fault does not certify
abbrev pub FaultsRefuse : Type 0
FaultsRefuse =
    (u : Universe) (p : Plan) (c : Certificate) (f : CertFault) → IsFirstFault u p c f
    → ¬ Certifies u p c

-- and it has no other first fault
abbrev pub FirstFaultIsOne : Type 0
FirstFaultIsOne =
    (u : Universe) (p : Plan) (c : Certificate) (f g : CertFault) → IsFirstFault u p c f
    → IsFirstFault u p c g → f ≡ g
