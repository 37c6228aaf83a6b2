-- What is told of restrictions, one after the other, is what they say together.
use Rattle.std.proofs.Common.{◌≡◌, ℕ, Bool, true, false, ◌||◌, ◌&&◌, List, [], ◌∷◌, if◌then◌else◌, Option, Some, None, Result, Ok, Err, refl, sym, ap, ◌∙◌}
use Rattle.std.specs.List.{list_any, list_all}
use Rattle.deb_text.specs.Common.{Fails, is_blank, first_is, behind, ◌>>=◌, then_all}
use Rattle.deb_text.proofs.StepLaws.{fails-with}
use Rattle.deb_relation.specs.declared.kind.Kind.{Kind}
use Rattle.deb_relation.specs.declared.operator.Op.{Op}
use Rattle.deb_relation.specs.Field.{atom_at, limited_at, limits_at}
use Rattle.deb_relation.specs.Grammar.{name_at, qualifier_at, relation_at}
use Rattle.deb_relation.specs.Holding.{told, left_for, limits_hold, list_holds, profiles_hold}
use Rattle.deb_relation.specs.Relations.{Item, ArchList}
use Rattle.deb_relation.specs.Restrictions.{archs_at, profiles_at}
use Rattle.deb_relation.proofs.AtomLaws.{behind-whole}

-- ---- what is told of what is read

module _ {A B F : Type 0} (make : A → B) where
  pub told-some : (read : Result A F) (y : B) → told make read ≡ Ok y
      → (x : A) × ((read ≡ Ok x) × (make x ≡ y))
  told-some (Ok x) y is = let h : make x ≡ y = cc in (x, (refl, h))
  told-some (Err e) y is = absurd cc

  pub told-refused : {E : Type 0} (refusal : E → Option F) (e : E) (read : Result A F)
      → Fails refusal e (told make read) → Fails refusal e read
  told-refused refusal e read is = fails-with refusal e (told make read) read (by read) is where
    by : (r : Result A F) (d : F) → told make r ≡ Err d → r ≡ Err d
    by (Ok x) d at = absurd cc
    by (Err c) d at = let h : c ≡ d = cc in ap Err h

-- ---- a loop over lists of which something is told: it goes on by one, stops at a fault, or ends

module _ {B C F : Type 0} (make : List B → C) where
  module _ (list : Result B F) (all more : Result (List B) F) (total : Result C F)
      (cut : all ≡ then_all list more) (so_far : told make all ≡ total) where
    pub told-goes : (next : List B → C) (y : B) → list ≡ Ok y
        → ((ys : List B) → next ys ≡ make (y ∷ ys)) → told next more ≡ total
    told-goes next y is same = by more refl ∙ (rw (cut, is) at so_far) where
      by : (r : Result (List B) F) → more ≡ r → told next r ≡ told make (r >>= λ ys. Ok (y ∷ ys))
      by (Ok ys) at = ap Ok (same ys)
      by (Err e) at = refl

    pub told-stops : {E : Type 0} (refusal : E → Option F) (e : E)
        → Fails refusal e list → Fails refusal e total
    told-stops refusal e is =
        fails-with refusal e list total (λ d at. sym (rw (cut, at) at so_far)) is

  module _ (rest : Result (List B) F) (total : Result C F) (so_far : told make rest ≡ total) where
    pub told-fails : {E : Type 0} (refusal : E → Option F) (e : E)
        → Fails refusal e rest → Fails refusal e total
    told-fails refusal e is = fails-with refusal e rest total (λ d at. sym (rw at at so_far)) is

    pub told-ends : rest ≡ Ok [] → total ≡ Ok (make [])
    told-ends is = sym (rw is at so_far)

-- ---- names and items: a test of one more is made where those before it leave it open

module _ {X : Type 0} (p : X → Bool) (so_far : Bool) (x : X) (xs : List X) where
  pub any-known : so_far ≡ true → (so_far || list_any p xs) ≡ (so_far || list_any p (x ∷ xs))
  any-known is = rw is refl

  pub any-open : (test : Bool) → so_far ≡ false → test ≡ p x
      → (test || list_any p xs) ≡ (so_far || list_any p (x ∷ xs))
  any-open test is by = rw (is, by) refl

  pub all-known : so_far ≡ false → (so_far && list_all p xs) ≡ (so_far && list_all p (x ∷ xs))
  all-known is = rw is refl

  pub all-open : (test : Bool) → so_far ≡ true → test ≡ p x
      → (test && list_all p xs) ≡ (so_far && list_all p (x ∷ xs))
  all-open test is by = rw (is, by) refl

-- ---- profile lists

-- whether lists hold behind others: none of them, or those of which some holds
abbrev pub held : (List ℕ → Bool) → Bool → Bool → List (List Item) → Bool
held is_active none some lists =
    some || (if none then profiles_hold is_active lists else list_any (list_holds is_active) lists)

module _ (is_active : List ℕ → Bool) (none some : Bool) (y : List Item)
    (ys : List (List Item)) where
  held-first : held is_active none some (y ∷ ys)
      ≡ (some || list_any (list_holds is_active) (y ∷ ys))
  held-first = by none where
    by : (none : Bool) → held is_active none some (y ∷ ys)
        ≡ (some || list_any (list_holds is_active) (y ∷ ys))
    by true = refl
    by false = refl

  pub held-known : some ≡ true
      → held is_active false some ys ≡ held is_active none some (y ∷ ys)
  held-known is = any-known (list_holds is_active) some y ys is ∙ sym held-first

  pub held-open : (holds : Bool) → some ≡ false → list_holds is_active y ≡ holds
      → held is_active false holds ys ≡ held is_active none some (y ∷ ys)
  held-open holds is by =
      any-open (list_holds is_active) some y ys holds is (sym by) ∙ sym held-first

-- and where no other is left
module _ (is_active : List ℕ → Bool) (none some : Bool) where
  pub held-some : some ≡ true → held is_active none some [] ≡ some
  held-some is = rw is refl

  pub held-none : some ≡ false → held is_active none some [] ≡ none
  held-none is = rw is (by none) where
    by : (none : Bool)
        → (if none then profiles_hold is_active [] else list_any (list_holds is_active) []) ≡ none
    by true = refl
    by false = refl

-- ---- an alternative whose restrictions hold

module _ (is_arch is_active : List ℕ → Bool) (kind : Kind) (name : List ℕ)
    (qualifier : Option (List ℕ)) (relation : Option (Op × List ℕ)) where
  limited-left : (text : List ℕ)
      → told (limits_hold is_arch is_active) (limits_at kind text) ≡ Ok true
      → told (left_for is_arch is_active) (limited_at kind name qualifier relation text)
      ≡ Ok (Some (record {
        name = name;
        qualifier = qualifier;
        relation = relation;
        archs = None;
        profiles = [];
      }))
  limited-left text hold = by (archs_at kind text) hold where
    by : (archs : Result (Option ArchList × List ℕ) ℕ)
        → told (limits_hold is_arch is_active)
        (archs >>= λ archs. profiles_at kind archs.1 >>= λ profiles. Ok (archs.0, profiles))
        ≡ Ok true
        → told (left_for is_arch is_active)
        (archs >>= λ archs. profiles_at kind archs.1 >>= λ profiles. Ok (record {
          name = name;
          qualifier = qualifier;
          relation = relation;
          archs = archs.0;
          profiles = profiles;
        }))
        ≡ Ok (Some (record {
          name = name;
          qualifier = qualifier;
          relation = relation;
          archs = None;
          profiles = [];
        }))
    by (Err e) hold = absurd cc
    by (Ok archs) hold = with_lists (profiles_at kind archs.1) hold where
      with_lists : (lists : Result (List (List Item)) ℕ)
          → told (limits_hold is_arch is_active) (lists >>= λ lists. Ok (archs.0, lists)) ≡ Ok true
          → told (left_for is_arch is_active) (lists >>= λ lists. Ok (record {
            name = name;
            qualifier = qualifier;
            relation = relation;
            archs = archs.0;
            profiles = lists;
          }))
          ≡ Ok (Some (record {
            name = name;
            qualifier = qualifier;
            relation = relation;
            archs = None;
            profiles = [];
          }))
      with_lists (Err e) hold = absurd cc
      with_lists (Ok lists) hold =
          let h : limits_hold is_arch is_active (archs.0, lists) ≡ true = cc in
          rw h refl

  pub atom-left : (text behind_name front end last : List ℕ)
      → first_is is_blank text ≡ false
      → name_at text ≡ Ok (name, behind_name)
      → qualifier_at behind_name ≡ Ok (qualifier, end)
      → relation_at kind (behind is_blank end) ≡ Ok (relation, front)
      → last ≡ behind is_blank front
      → told (limits_hold is_arch is_active) (limits_at kind last) ≡ Ok true
      → told (left_for is_arch is_active) (atom_at kind text) ≡ Ok (Some (record {
        name = name;
        qualifier = qualifier;
        relation = relation;
        archs = None;
        profiles = [];
      }))
  unfolding atom_at
  atom-left text behind_name front end last starts at_name at_qualifier at_relation is hold =
      rw (behind-whole is_blank text starts, at_name, at_qualifier, at_relation)
      (limited-left (behind is_blank front) (rw is at hold))
