-- A list of variants, item by item as its text spells them.
use Rattle.std.proofs.Common.{◌≡◌, ℕ, suc, ◌<◌, Bool, true, false, eqb, if◌then◌else◌, List, [], ◌∷◌, length, Option, Some, Result, Ok, Err, refl, sym, ap, ◌∙◌, arith}
use Rattle.std.proofs.lemmas.Bool.{eqb-true}
use Rattle.deb_text.specs.Common.{Fails, ◌>>=◌, judged, steps, traverse, then_all}
use Rattle.deb_text.proofs.StepLaws.{fails-with}
use Rattle.deb_relation.specs.Common.{entry_at, entries_left, only_judged, relations_at, Entry, Relations}
use Rattle.deb_relation.specs.declared.kind.Kind.TheVariants.{Provide}
use Rattle.deb_relation.proofs.FieldLaws.{each-goes, judged-some}
use Rattle.farm_model.specs.declared.types.Variant.{Variant}
use Rattle.farm_universe.specs.declared.error.TheConstants.{NO_OUTPUT}
use Rattle.farm_universe.specs.FarmSteps.{add_item}
use Rattle.farm_universe.specs.ListText.{list_at, variants_in}
use Rattle.farm_universe.specs.PackagesText.{PackageTable}
use Rattle.farm_universe.specs.RecipeText.{outputs_at, recipe_outputs_in}
use Rattle.farm_universe.proofs.ListLaws.{steps-variants_in, outputs-there}

-- the variants behind these, of the items that a text has left
abbrev pub items_left : PackageTable → List Variant → List (List ℕ) → Result (List Variant) ℕ
items_left table vs left = traverse (entry_at Provide) left >>= steps (add_item table) vs

pub items_left-all : (table : PackageTable) (text : List ℕ)
    → items_left table [] (entries_left (Some text)) ≡ list_at table text
unfolding list_at relations_at
items_left-all table text = λ j. traverse (entry_at Provide) (entries_left (Some text))
    >>= λ entries. steps-variants_in table entries j

module _ (x : List ℕ) (xs all : List (List ℕ)) (y : Entry) (cut : all ≡ x ∷ xs)
    (is : entry_at Provide x ≡ Ok y) where
  pub judged-behind : only_judged (traverse (entry_at Provide) all) ≡ Ok tt
      → only_judged (traverse (entry_at Provide) xs) ≡ Ok tt
  unfolding traverse
  judged-behind fine = by (traverse (entry_at Provide) xs) (rw (cut, is) at fine) where
    by : (rest : Result (List Entry) ℕ) → only_judged (then_all (Ok y) rest) ≡ Ok tt
        → only_judged rest ≡ Ok tt
    by (Ok ys) e = refl
    by (Err code) e = absurd cc

module _ (table : PackageTable) (vs : List Variant) (x : List ℕ) (xs all : List (List ℕ))
    (total : Result (List Variant) ℕ) (y : Entry) (cut : all ≡ x ∷ xs)
    (is : entry_at Provide x ≡ Ok y) where
  pub items-go : (ws : List Variant) → add_item table vs y ≡ Ok ws
      → items_left table vs all ≡ total → items_left table ws xs ≡ total
  unfolding steps
  items-go ws added so_far =
      each-goes (entry_at Provide) (steps (add_item table) vs) x xs all total cut so_far
      (steps (add_item table) ws) y is (λ ys. rw added refl)

  pub items-stop : {E : Type 0} (refusal : E → Option ℕ) (e : E)
      → only_judged (traverse (entry_at Provide) all) ≡ Ok tt
      → Fails refusal e (add_item table vs y) → items_left table vs all ≡ total
      → Fails refusal e total
  unfolding steps traverse
  items-stop refusal e fine fails so_far =
      fails-with refusal e (add_item table vs y) total (λ code at. sym so_far ∙ stops code at) fails
    where
      stops : (code : ℕ) → add_item table vs y ≡ Err code → items_left table vs all ≡ Err code
      stops code at =
          let rest = judged-some (traverse (entry_at Provide) xs)
          (judged-behind x xs all y cut is fine) in
          rw (cut, is, rest.1, at) refl

-- ---- outputs

not-none : (n : ℕ) → eqb (suc n) 0 ≡ false
not-none n = by (eqb (suc n) 0) refl where
  by : (b : Bool) → eqb (suc n) 0 ≡ b → b ≡ false
  by true is = absurd (omega (arith, eqb-true (suc n) 0 is))
  by false is = refl

outputs-some : (vs : List Variant) → 0 < length vs
    → Ok vs ≡ (if eqb (length vs) 0 then Err NO_OUTPUT else Ok vs)
outputs-some vs there = by (eqb (length vs) 0) refl where
  by : (b : Bool) → eqb (length vs) 0 ≡ b → Ok vs ≡ (if b then Err NO_OUTPUT else Ok vs)
  by true is = absurd (omega (arith, eqb-true (length vs) 0 is, there))
  by false is = refl

none-listed : (table : PackageTable) → variants_in table [] ≡ Ok []
unfolding variants_in judged
none-listed table = refl

-- a list without a variant has no item
pub outputs-of : (table : PackageTable) (text : List ℕ) (vs : List Variant)
    → list_at table text ≡ Ok vs
    → outputs_at table (Some text) ≡ (if eqb (length vs) 0 then Err NO_OUTPUT else Ok vs)
unfolding outputs_at list_at
outputs-of table text vs = by (relations_at Provide text) where
  none : (read : Result (List Variant) ℕ) → read ≡ Ok [] → read ≡ Ok vs
      → Err NO_OUTPUT ≡ (if eqb (length vs) 0 then Err NO_OUTPUT else Ok vs)
  none read nothing is =
      let h : [] ≡ vs = cc in
      ap (λ (ws : List Variant). if eqb (length ws) 0 then Err NO_OUTPUT else Ok ws) h

  by : (read : Result Relations ℕ) → (read >>= variants_in table) ≡ Ok vs
      → (read >>= recipe_outputs_in table) ≡ (if eqb (length vs) 0 then Err NO_OUTPUT else Ok vs)
  by (Err code) is = absurd cc
  by (Ok []) is = none (variants_in table []) (none-listed table) is
  by (Ok (e ∷ es)) is = is ∙ outputs-some vs
      (outputs-there table (e ∷ es) vs (not-none (length es)) is)

pub outputs-fail : {E : Type 0} (refusal : E → Option ℕ) (e : E) (table : PackageTable)
    (text : List ℕ) → Fails refusal e (list_at table text)
    → Fails refusal e (outputs_at table (Some text))
unfolding outputs_at list_at
outputs-fail refusal e table text fails =
    fails-with refusal e (list_at table text) (outputs_at table (Some text))
    (λ code. by code (relations_at Provide text)) fails
  where
    by : (code : ℕ) (read : Result Relations ℕ) → (read >>= variants_in table) ≡ Err code
        → (read >>= recipe_outputs_in table) ≡ Err code
    by code (Err c) is = let h : c ≡ code = cc in ap Err h
    by code (Ok []) is = absurd (let h = sym (none-listed table) ∙ is in cc)
    by code (Ok (e ∷ es)) is = is
