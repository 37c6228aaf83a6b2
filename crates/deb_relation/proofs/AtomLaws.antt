-- An alternative behind the blanks at its front, and one that has no restriction.
use Rattle.std.proofs.Common.{◌≡◌, ℕ, Bool, true, false, ◌==◌, List, [], ◌∷◌, length, Option, None, Result, Ok, Err, refl, sym, ap, ◌∙◌, arith, inl, inr}
use Rattle.std.proofs.lemmas.Bool.{cases_Bool, and_right, eqb-true, eqb-false}
use Rattle.std.specs.List.{list_any, list_all}
use Rattle.deb_text.specs.Common.{Fails, is_byte, is_blank, is_nil, first_is, behind, traverse}
use Rattle.deb_text.proofs.PartLaws.{split-none}
use Rattle.deb_text.proofs.StepLaws.{fails-with}
use Rattle.deb_relation.specs.declared.error.TheConstants.{NO_ALTERNATIVE}
use Rattle.deb_relation.specs.declared.kind.Kind.{Kind}
use Rattle.deb_relation.specs.declared.operator.Op.{Op}
use Rattle.deb_relation.specs.Field.{is_empty_text, atom_at, alternative_at, entry_at, limited_at, limits_at, only_judged}
use Rattle.deb_relation.specs.Grammar.{name_at, qualifier_at, relation_at}
use Rattle.deb_relation.specs.Marks.{bar}
use Rattle.deb_relation.specs.Restrictions.{archs_at, profiles_at, lists_at}

module _ {X : Type 0} (p : X → Bool) where
  -- what stands behind the longest front does not begin as that does
  pub behind-stops : (xs : List X) → first_is p (behind p xs) ≡ false
  behind-stops [] = refl
  behind-stops (x ∷ xs) =
      elim (cases_Bool (p x)) [
        | inl is ↦ rw is (behind-stops xs)
        | inr is ↦ rw (is, is) refl
      ]

  pub behind-whole : (xs : List X) → first_is p xs ≡ false → behind p xs ≡ xs
  behind-whole [] none = refl
  behind-whole (x ∷ xs) none = rw none refl

  -- nothing stands behind a list whose elements all pass, and behind no other
  pub behind-all : (xs : List X) → list_all p xs ≡ is_nil (behind p xs)
  behind-all [] = refl
  behind-all (x ∷ xs) =
      elim (cases_Bool (p x)) [
        | inl is ↦ rw is (behind-all xs)
        | inr is ↦ rw is refl
      ]

nil-true : {X : Type 0} (xs : List X) → (length xs == 0) ≡ true → xs ≡ []
nil-true [] is = refl
nil-true (x ∷ xs) is = absurd (omega (arith, eqb-true _ _ is))

nil-false : {X : Type 0} (xs : List X) → (length xs == 0) ≡ false → is_nil xs ≡ false
nil-false [] is = absurd (eqb-false 0 0 is refl)
nil-false (x ∷ xs) is = refl

-- ---- an alternative, by what stands behind its blanks

module _ (kind : Kind) (text rest : List ℕ) (is : rest ≡ behind is_blank text) where
  same-atom : atom_at kind rest ≡ atom_at kind text
  unfolding atom_at
  same-atom =
      rw (is, behind-whole is_blank (behind is_blank text) (behind-stops is_blank text)) refl

  pub alternative-none : (length rest == 0) ≡ true → alternative_at kind text ≡ Err NO_ALTERNATIVE
  unfolding alternative_at
  alternative-none empty =
      let none : is_empty_text text ≡ true =
      behind-all is_blank text ∙ ap is_nil (sym is ∙ nil-true rest empty) in
      rw none refl

  pub alternative-some : (length rest == 0) ≡ false → alternative_at kind text ≡ atom_at kind rest
  unfolding alternative_at
  alternative-some some =
      let there : is_empty_text text ≡ false =
      behind-all is_blank text ∙ ap is_nil (sym is) ∙ nil-false rest some in
      rw there (sym same-atom)

  pub starts : first_is is_blank rest ≡ false
  starts = rw is (behind-stops is_blank text)

-- with nothing behind the relation there is no restriction
pub limits-none : (kind : Kind) (text : List ℕ) → (length text == 0) ≡ true
    → limits_at kind text ≡ Ok (None, [])
unfolding archs_at profiles_at lists_at
limits-none kind text empty = rw (nil-true text empty, and_right _ false refl) refl

limited-none : (kind : Kind) (name : List ℕ) (qualifier : Option (List ℕ))
    (relation : Option (Op × List ℕ)) → limited_at kind name qualifier relation [] ≡ Ok (record {
      name = name;
      qualifier = qualifier;
      relation = relation;
      archs = None;
      profiles = [];
    })
unfolding archs_at profiles_at lists_at
limited-none kind name qualifier relation = rw (and_right _ false refl) refl

-- an alternative that ends behind its relation
pub atom-unrestricted : (kind : Kind) (text name behind_name front end last : List ℕ)
    (qualifier : Option (List ℕ)) (relation : Option (Op × List ℕ))
    → first_is is_blank text ≡ false
    → name_at text ≡ Ok (name, behind_name)
    → qualifier_at behind_name ≡ Ok (qualifier, end)
    → relation_at kind (behind is_blank end) ≡ Ok (relation, front)
    → last ≡ behind is_blank front → (length last == 0) ≡ true
    → atom_at kind text ≡ Ok (record {
      name = name;
      qualifier = qualifier;
      relation = relation;
      archs = None;
      profiles = [];
    })
unfolding atom_at
atom-unrestricted kind text name behind_name front end last qualifier relation starts at_name
    at_qualifier at_relation is empty =
    let ends : behind is_blank front ≡ [] = sym is ∙ nil-true last empty in
    rw (behind-whole is_blank text starts, at_name, at_qualifier, at_relation, ends)
    (limited-none kind name qualifier relation)

-- an alternative that is a name alone
pub atom-name : (kind : Kind) (text name behind_name : List ℕ)
    → first_is is_blank text ≡ false
    → name_at text ≡ Ok (name, behind_name) → (length behind_name == 0) ≡ true
    → atom_at kind text ≡ Ok (record {
      name = name;
      qualifier = None;
      relation = None;
      archs = None;
      profiles = [];
    })
unfolding qualifier_at relation_at
atom-name kind text name behind_name starts at_name empty =
    let named : name_at text ≡ Ok (name, []) =
    at_name ∙ ap (λ (end : List ℕ). Ok (name, end)) (nil-true behind_name empty) in
    atom-unrestricted kind text name [] [] [] [] None None starts named refl refl refl refl

-- ---- an entry of one alternative

pub entry-one : (kind : Kind) (text : List ℕ) → list_any (is_byte bar) text ≡ false
    → entry_at kind text ≡ traverse (alternative_at kind) (text ∷ [])
unfolding entry_at
entry-one kind text none =
    rw (none, split-none (is_byte bar) text none, and_right _ false refl) refl

module _ {A B F : Type 0} (f : A → Result B F) (x : A) where
  pub one-read : (y : B) → f x ≡ Ok y → traverse f (x ∷ []) ≡ Ok (y ∷ [])
  unfolding traverse
  one-read y is = rw is refl

  pub one-judged : (y : B) → f x ≡ Ok y → only_judged (traverse f (x ∷ [])) ≡ Ok tt
  one-judged y is = rw (one-read y is) refl

  module _ {E : Type 0} (refusal : E → Option F) (e : E) (is : Fails refusal e (f x)) where
    pub one-refused : Fails refusal e (traverse f (x ∷ []))
    unfolding traverse
    one-refused = fails-with refusal e (f x) (traverse f (x ∷ [])) (λ d at. rw at refl) is

    pub one-judged_bad : Fails refusal e (only_judged (traverse f (x ∷ [])))
    unfolding traverse
    one-judged_bad =
        fails-with refusal e (f x) (only_judged (traverse f (x ∷ []))) (λ d at. rw at refl) is
