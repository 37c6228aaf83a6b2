-- Laws of variants and of lists of them.
use Rattle.std.proofs.Common.{◌≡◌, inl, inr, ◌<◌, true, List, [], ◌∷◌, length, get_or, All, refl, ap, ◌∙◌, subst, arith}
use Rattle.std.proofs.lemmas.Bool.{or_cases, and_parts, and_from, cases_lt, false≢true, eqb-true, eq-eqb}
use Rattle.std.proofs.lemmas.List.{get_or_past}
use Rattle.std.proofs.lemmas.List.Elements.{All-head, All-tail}
use Rattle.farm_model.specs.declared.types.Variant.{Variant}
use Rattle.farm_model.specs.Universe.{Universe}
use Rattle.farm_model.specs.Packages.{variant, names, variants, same, contains}
use Rattle.farm_model.specs.Sound.{IsKnown}

pub same-true : (v w : Variant) → same v w ≡ true → v ≡ w
unfolding same
same-true v w e =
    let parts = and_parts _ _ e in
    let n = eqb-true v.name w.name parts.0 in
    let b = eqb-true v.bit w.bit parts.1 in
    ap (λ k. variant k v.bit) n ∙ ap (λ k. variant w.name k) b

pub same-refl : (v : Variant) → same v v ≡ true
unfolding same
same-refl v = and_from _ _ (eq-eqb v.name v.name refl) (eq-eqb v.bit v.bit refl)

-- what holds of all of them holds of one that is among them
pub contained : (P : Variant → Type 0) (vs : List Variant) (v : Variant) → All P vs
    → contains vs v ≡ true → P v
contained P [] v all e = absurd (false≢true e)
contained P (w ∷ ws) v all e =
    elim (or_cases (same w v) _ e) [
      | inl here ↦ subst P (same-true w v here)
          (All-head P w ws all)
      | inr rest ↦ contained P ws v (All-tail P w ws all) rest
    ]

-- a name with a variant is a name of the universe
pub name_within : (u : Universe) (v : Variant) → IsKnown u v → v.name < names u
unfolding names variants
name_within u v known =
    elim (cases_lt v.name (length u.packages)) [
      | inl lt ↦ lt
      | inr past ↦ let none : length (get_or u.packages v.name []) ≡ 0 =
          ap length (get_or_past u.packages v.name [] past) in absurd (omega (arith, none, known))
    ]
