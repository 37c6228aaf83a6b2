-- One variant of a name, as a list is gone through from its end.
use Rattle.std.proofs.Common.{◌≡◌, ℕ, zero, suc, ◌<◌, Bool, true, false, not, ◌&&◌, ◌||◌, ◌==◌, List, [], ◌∷◌, map, length, drop, set, get_or, refl, sym, ap, ◌∙◌, inl, inr, arith}
use Rattle.std.specs.List.{list_any}
use Rattle.std.proofs.Math.Bool.{and-false}
use Rattle.std.proofs.Math.Seq.{drop-cons}
use Rattle.std.proofs.lemmas.Bool.{eqb-true, eq-eqb, cases_eq}
use Rattle.std.proofs.lemmas.List.{get_or-set_same, get_or-set_other}
use Rattle.farm_model.specs.declared.types.Variant.{Variant}
use Rattle.farm_universe.specs.BaseText.{Member, member_of, one_of_each}
use Rattle.farm_universe.specs.PackagesText.{PackageTable}

neq-eqb : (a b : ℕ) → (a ≡ b → ⊥) → (a == b) ≡ false
neq-eqb a b other = by (a == b) refl where
  by : (t : Bool) → (a == b) ≡ t → t ≡ false
  by true e = absurd (other (eqb-true a b e))
  by false e = refl

module _ (table : PackageTable) where
  abbrev m : Variant → Member
  m = member_of table

  -- a member of this name is among them
  abbrev pub is_seen : List Variant → ℕ → Bool
  is_seen vs n = list_any (λ other. other.number == n) (map m vs)

  -- one whose name one behind it has
  pub once-seen : (vs : List Variant) (i : ℕ) (d : Variant) → i < length vs
      → is_seen (drop (suc i) vs) (get_or vs i d).name ≡ true → one_of_each (map m vs) ≡ false
  once-seen [] i d lt seen = absurd (omega arith)
  once-seen (v ∷ vs) zero d lt seen = rw seen refl
  once-seen (v ∷ vs) (suc i) d lt seen =
      ap (λ b. not (is_seen vs v.name) && b) (once-seen vs i d (omega arith) seen)
      ∙ and-false (not (is_seen vs v.name))

  module _ (vs : List Variant) (i : ℕ) (v : Variant) (lt : i < length vs) (is : v ≡ get_or vs i v)
    where
      here : drop i vs ≡ v ∷ drop (suc i) vs
      here = drop-cons vs i v lt ∙ ap (λ w. w ∷ drop (suc i) vs) (sym is)

      -- one more, of a name that none behind it has
      pub once-next : one_of_each (map m (drop (suc i) vs)) ≡ true
          → is_seen (drop (suc i) vs) v.name ≡ false → one_of_each (map m (drop i vs)) ≡ true
      once-next once none = rw here (rw none once)

      pub seen-next : (seen : List Bool) → v.name < length seen
          → ((n : ℕ) → get_or seen n false ≡ is_seen (drop (suc i) vs) n)
          → (n : ℕ) → get_or (set seen v.name true) n false ≡ is_seen (drop i vs) n
      seen-next seen long before n =
          elim (cases_eq n v.name) [
            | inl same ↦
                ap (λ k. get_or (set seen v.name true) k false) same
                ∙ get_or-set_same seen v.name true false long
                ∙ sym (ap (λ ws. is_seen ws n) here
                ∙ ap (λ b. b || is_seen (drop (suc i) vs) n) (eq-eqb v.name n (sym same)))
            | inr other ↦
                get_or-set_other seen v.name n true false other ∙ before n
                ∙ sym (ap (λ ws. is_seen ws n) here
                ∙ ap (λ b. b || is_seen (drop (suc i) vs) n)
                (neq-eqb v.name n (λ is. other (sym is))))
          ]
