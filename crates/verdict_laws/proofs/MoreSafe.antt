-- What is safe under fewer known variants is safe under more.
use Rattle.std.proofs.Common.{◌≡◌, inl, inr, ℕ, zero, suc, ◌<◌, ◌≤◌, Bool, true, false, ◌==◌, List, length, Option, Some, None, refl, sym, ap, ◌∙◌, subst, arith}
use Rattle.std.proofs.lemmas.Bool.{cases_eq, ne_eqb}
use Rattle.std.proofs.lemmas.Option.{none-some, slice_get_within}
use Rattle.deb_relation.specs.declared.operator.Op.{Op}
use Rattle.farm_model.specs.Common.{Universe, variant, variants, recipe, member}
use Rattle.farm_model.specs.declared.types.Trap.{Trap}
use Rattle.farm_model.specs.declared.types.Variant.{Variant}
use Rattle.plan_model.specs.Common.{Lane, Plan, lane, instruction_at, newest, with_built, Rows, possible, KeepsRows, MaySlot, MayAbsent, May, candidates, unpack_risk, risk, may_unpack, may_be_configured, may_be_deconfigured, may_change, may_after, may_base, Maps, maps_behind, maps_at, may_at, risk_of, risk_at, Hazard, Meets, Parts, parts_of, hazard_of, hazard_at, IsSafeUnder}
use Rattle.plan_model.specs.declared.instructions.Instruction.{Instruction}
use Rattle.plan_model.specs.declared.instructions.Instruction.TheVariants.{Unpack, Configure, Deconfigure, Remove, Build, Publish, When, Otherwise, EndWhen}
use Rattle.farm_laws.proofs.MayMaps.{no_trap}
use Rattle.verdict_laws.specs.Families.{IsWithin}
use Rattle.verdict_laws.specs.MoreKnown.{SafeUnderMore, GreatestIsAnnotation, GreatestRowsAnnotate}
use Rattle.verdict_laws.proofs.Narrower.{IsPart, Narrows, both_absent, both_unpacked, NarrowsAll, narrows_itself, greatest_size-mono, last-narrower, configured-narrower, deconfigured-narrower, cond-narrower}
use Rattle.verdict_laws.proofs.NarrowJoins.{NarrowsMaps, phases-narrower, joined-narrower}
use Rattle.verdict_laws.proofs.Candidates.{higher, candidates-part}
use Rattle.verdict_laws.proofs.NarrowMaps.{unpack_covers, configure_covers, deconfigure_covers, remove_covers, build_covers, publish_covers}
use Rattle.verdict_laws.proofs.Unions.{there, known_are_possible}
use Rattle.verdict_laws.proofs.Rounds.{greatest_rows_are_greatest}

-- one instruction, at a place where the first rows know less than the second
module _ (u : Universe) (of : Lane) (known more may : Variant → Bool) (m w : May)
    (narrow : NarrowsAll u m w) (less : (v : Variant) → known v ≡ true → more v ≡ true)
    (fits : (v : Variant) → more v ≡ true → may v ≡ true) where
  unpack_safe : (name : ℕ) (wanted : Option (Op × List ℕ)) (o : Option ℕ)
      → newest u known name wanted ≡ o
      → unpack_risk u may of w name wanted o ≡ None
      → unpack_risk u may of m name wanted (newest u more name wanted) ≡ None
  unpack_safe name wanted None e safe = absurd (none-some _ (sym safe))
  unpack_safe name wanted (Some b) e safe =
      let r = higher u known more name wanted b less e in
      rw r.is
      (no_trap (unpack_covers u m w narrow of name (candidates u may name wanted r.highest)
      (candidates u may name wanted b)
      (candidates-part u may more name wanted b r (fits (variant name r.highest)))) safe)

  instruction_safe : (x : Instruction) → risk u of known may w x ≡ None
      → risk u of more may m x ≡ None
  instruction_safe (Unpack name wanted) safe =
      unpack_safe name wanted (newest u known name wanted) refl safe
  instruction_safe (Configure members) safe =
      no_trap (configure_covers u m w narrow of members) safe
  instruction_safe (Deconfigure members) safe =
      no_trap (deconfigure_covers u m w narrow of members) safe
  instruction_safe (Remove members) safe = no_trap (remove_covers u m w narrow of members) safe
  instruction_safe (Build r) safe = no_trap (build_covers u m w narrow of (recipe u r)) safe
  instruction_safe (Publish r) safe = no_trap (publish_covers u m w narrow of r) safe
  instruction_safe _ safe = refl

  unpack_narrows : (name : ℕ) (wanted : Option (Op × List ℕ)) (o : Option ℕ)
      → newest u known name wanted ≡ o
      → unpack_risk u may of w name wanted o ≡ None
      → NarrowsAll u (may_unpack u may m name wanted (newest u more name wanted))
      (may_unpack u may w name wanted o)
  unpack_narrows name wanted None e safe = absurd (none-some _ (sym safe))
  unpack_narrows name wanted (Some b) e safe =
      let r = higher u known more name wanted b less e in
      let part = candidates-part u may more name wanted b r (fits (variant name r.highest)) in
      rw r.is (after r.highest part)
    where
      after : (h : ℕ) → IsPart (variants u name) (candidates u may name wanted h) (candidates u may
          name wanted b) → NarrowsAll u (may_unpack u may m name wanted
          (Some h)) (may_unpack u may w name wanted (Some b))
      after h part =
          record {
            each = λ n. elim (cases_eq n name) [
              | inl same ↦
                  cond-narrower (n == name) (both_unpacked
                  (subst (λ k. IsPart (variants u k) (candidates u may name wanted h)
                  (candidates u may name wanted b)) (sym same) part)
                  (last-narrower (narrow.each n))) (narrow.each n)
              | inr other ↦ rw (ne_eqb n name other) (narrow.each n)
            ];
            cost =
                omega (
                  arith,
                  narrow.cost,
                  greatest_size-mono u name
                      (candidates u may name wanted h) (candidates u may name wanted b) part,
                );
            built = narrow.built;
          }

  change_narrows : (f : MaySlot → MaySlot)
      → ((n : ℕ) → Narrows (variants u n) (f (m.slots n)) (f (w.slots n))) → (members : List ℕ)
      → NarrowsAll u (may_change f m members) (may_change f w members)
  change_narrows f h members =
      record {
        each = λ n. cond-narrower (member members n) (h n) (narrow.each n);
        cost = omega
            (arith, narrow.cost);
        built = narrow.built;
      }

  instruction_narrows : (x : Instruction) → risk u of known may w x ≡ None
      → NarrowsAll u (may_after u more may m x) (may_after u known may w x)
  instruction_narrows (Unpack name wanted) safe =
      unpack_narrows name wanted (newest u known name wanted) refl safe
  instruction_narrows (Configure members) safe =
      change_narrows may_be_configured (λ n. configured-narrower (narrow.each n)) members
  instruction_narrows (Deconfigure members) safe =
      change_narrows may_be_deconfigured (λ n. deconfigured-narrower (narrow.each n)) members
  instruction_narrows (Remove members) safe =
      change_narrows (λ s. MayAbsent) (λ n. both_absent) members
  instruction_narrows (Build r) safe =
      record {
        each = narrow.each;
        cost = omega (arith, narrow.cost);
        built = ap
            (λ built. with_built built r) narrow.built;
      }
  instruction_narrows (Publish r) safe =
      record { each = narrow.each; cost = omega (arith, narrow.cost); built = narrow.built }
  instruction_narrows _ safe = narrow

itself_narrows : (u : Universe) (m : May) → NarrowsAll u m m
itself_narrows u m =
    record {
      each = λ n. narrows_itself (variants u n) (m.slots n);
      cost = omega arith;
      built = refl;
    }

-- the maps behind the instruction
maps_narrow : (u : Universe) (of : Lane) (known more may : Variant → Bool) (m w : Maps)
    → NarrowsMaps u m w → ((v : Variant) → known v ≡ true → more v ≡ true)
    → ((v : Variant) → more v ≡ true → may v ≡ true) → (x : Instruction)
    → risk u of known may w.here x ≡ None
    → NarrowsMaps u (maps_behind u more may m x) (maps_behind u known may w x)
maps_narrow u of known more may m w narrow less fits (When name wanted) safe =
    record { here = narrow.here; ahead = narrow.here; first = narrow.first }
maps_narrow u of known more may m w narrow less fits Otherwise safe =
    record { here = narrow.ahead; ahead = narrow.ahead; first = narrow.here }
maps_narrow u of known more may m w narrow less fits EndWhen safe =
    record {
      here = joined-narrower u m.first w.first m.here w.here narrow.first narrow.here;
      ahead = narrow.ahead;
      first = narrow.first;
    }
maps_narrow u of known more may m w narrow less fits x safe =
    record {
      here = instruction_narrows u of known more may m.here w.here narrow.here less fits x safe;
      ahead = narrow.ahead;
      first = narrow.first;
    }

-- branches part just where they do under the other maps
parts-narrower : (u : Universe) (m w : Maps) → NarrowsMaps u m w → (x : Instruction)
    → parts_of u m (Some x) ≡ parts_of u w (Some x)
parts-narrower u m w narrow EndWhen =
    phases-narrower u m.first w.first m.here w.here narrow.first narrow.here
parts-narrower u m w narrow _ = refl

no_hazard : (risk : Option Trap) (part : Bool) → hazard_of risk part ≡ None
    → (risk ≡ None) × (part ≡ false)
no_hazard (Some trap) part e = absurd (none-some (Meets trap) (sym e))
no_hazard None true e = absurd (none-some Parts (sym e))
no_hazard None false e = (refl, refl)

without_hazard : (risk : Option Trap) (part : Bool) → risk ≡ None → part ≡ false
    → hazard_of risk part ≡ None
without_hazard risk part e h = rw (e, h) refl

module _ (u : Universe) (p : Plan) (rows more : Rows) (keeps : KeepsRows u p more)
    (within : IsWithin p rows more) (safe : IsSafeUnder u p rows) where
  -- what is unsafe at an instruction, or at none
  abbrev hazard_some : Rows → ℕ → ℕ → Option Instruction → Option Hazard
  hazard_some r l i o = hazard_of (risk_of u p r l i o) (parts_of u (maps_at u p r l i) o)

  -- where the rows call an instruction safe
  safe_at : (l i : ℕ) (x : Instruction) → l < length p → instruction_at p l i ≡ Some x
      → (risk u (lane p l) (rows l i) (possible u p l i) (may_at u p rows l i) x ≡ None)
      × (parts_of u (maps_at u p rows l i) (Some x) ≡ false)
  unfolding hazard_at risk_at
  safe_at l i x lt at = no_hazard _ _ (ap (hazard_some rows l i) (sym at) ∙ safe l i lt)

  -- the maps under more known variants are narrower
  narrower_at : (l i : ℕ) → l < length p → i ≤ length (lane p l).instructions
      → NarrowsMaps u (maps_at u p more l i) (maps_at u p rows l i)
  narrower_at l zero lt le =
      let base = itself_narrows u (may_base u (lane p l)) in
      record { here = base; ahead = base; first = base }
  narrower_at l (suc i) lt le =
      let x = there p l i (omega (arith, le)) in
      let next =
      maps_narrow u (lane p l) (rows l i) (more l i) (possible u p l i)
      (maps_at u p more l i) (maps_at u p rows l i) (narrower_at l i lt (omega (arith, le)))
      (λ v e. within l i v lt (omega (arith, le)) e)
      (λ v e. known_are_possible u p more keeps l i v lt (omega (arith, le)) e) x.0
      (safe_at l i x.0 lt x.1).0 in
      rw x.1 next

  safe_under_more_at : (l i : ℕ) → l < length p → hazard_at u p more l i ≡ None
  unfolding hazard_at risk_at
  safe_under_more_at l i lt = by (instruction_at p l i) refl
    where
      by : (o : Option Instruction) → instruction_at p l i ≡ o → hazard_some more l i o ≡ None
      by None at = refl
      by (Some x) at =
          let below = slice_get_within (lane p l).instructions i x at in
          let narrow = narrower_at l i lt (omega (arith, below)) in
          let fine = safe_at l i x lt at in
          without_hazard _ _
          (instruction_safe u (lane p l) (rows l i) (more l i) (possible u p l i)
          (may_at u p more l i) (may_at u p rows l i) narrow.here
          (λ v e. within l i v lt (omega (arith, below)) e)
          (λ v e. known_are_possible u p more keeps l i v lt (omega (arith, below)) e) x
          fine.0)
          (parts-narrower u (maps_at u p more l i) (maps_at u p rows l i) narrow x ∙ fine.1)

pub safe_under_more : SafeUnderMore
safe_under_more u p rows more keeps within safe l i lt =
    safe_under_more_at u p rows more keeps within safe l i lt

pub greatest_is_annotation : GreatestIsAnnotation
greatest_is_annotation u p rows greatest annotation is =
    record {
      keeps = is.keeps;
      safe = safe_under_more u p rows greatest is.keeps
          (is.greatest rows annotation.keeps) annotation.safe;
    }

pub greatest_rows_annotate : GreatestRowsAnnotate
greatest_rows_annotate u p rows sound annotation =
    greatest_is_annotation u p rows _ annotation (greatest_rows_are_greatest u p sound)
