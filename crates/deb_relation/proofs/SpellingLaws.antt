-- What was spelled is read again: alternatives and entries, as in a Depends field.
use Rattle.std.proofs.Common.{◌≡◌, ℕ, ◌≤◌, Bool, true, false, not, ◌&&◌, ◌||◌, ◌==◌, List, [], ◌∷◌, ◌++◌, length, refl, sym, ap, ◌∙◌, append_assoc, inl, inr, Option, Some, None, Ok, arith, true≢false}
use Rattle.std.specs.Prelude.{nat_le}
use Rattle.std.proofs.lemmas.Bool.{and_parts, and_right, or_cases, or_parts, not-true, leb-true, ne_eqb, eqb-true}
use Rattle.std.specs.List.{list_all}
use Rattle.std.specs.Result.{is_ok}
use Rattle.deb_text.specs.Common.{is_byte, is_blank, is_lower, is_name_byte, is_qualifier_byte, is_version_byte, is_nil, first_is, behind, is_name}
use Rattle.deb_text.proofs.CutLaws.{front-again, behind-again}
use Rattle.deb_version.specs.Grammar.{version_at}
use Rattle.deb_relation.specs.declared.kind.Kind.TheVariants.{Need}
use Rattle.deb_relation.specs.declared.operator.Op.{Op}
use Rattle.deb_relation.specs.declared.operator.Op.TheVariants.{Earlier, EarlierOrEqual, Equal, LaterOrEqual, Later}
use Rattle.deb_relation.specs.Field.{atom_at, alternative_at}
use Rattle.deb_relation.specs.Grammar.{name_at, qualifier_at, operator_at, version_in, relation_in, relation_at}
use Rattle.deb_relation.specs.Marks.{colon}
use Rattle.deb_relation.specs.Relations.{Atom}
use Rattle.deb_relation.specs.Restrictions.{archs_at, lists_at, profiles_at}
use Rattle.deb_relation.specs.Spelling.{operator_text, relation_text, qualifier_text, atom_text}
use Rattle.deb_relation.proofs.ReadLaws.{is_spelled_qualifier, is_spelled_relation, IsSpelled}

-- ---- blanks

blank-is : (p : ℕ → Bool) → p 32 ≡ false → p 9 ≡ false → p 10 ≡ false → (b : ℕ)
    → is_blank b ≡ true → p b ≡ false
blank-is p space tab newline b is =
    elim (or_cases (b == 32 || b == 9) (b == 10) is) [
      | inl either ↦ elim (or_cases (b == 32) (b == 9) either) [
        | inl e ↦ rw (eqb-true b 32 e) space
        | inr e ↦ rw (eqb-true b 9 e) tab
      ]
      | inr e ↦ rw (eqb-true b 10 e) newline
    ]

first-not : (p : ℕ → Bool) → p 32 ≡ false → p 9 ≡ false → p 10 ≡ false → (after : List ℕ)
    → list_all is_blank after ≡ true → first_is p after ≡ false
first-not p space tab newline [] blank = refl
first-not p space tab newline (b ∷ bs) blank =
    blank-is p space tab newline b (and_parts (is_blank b) (list_all is_blank bs) blank).0

blanks-go : (after : List ℕ) → list_all is_blank after ≡ true → behind is_blank after ≡ []
blanks-go [] blank = refl
blanks-go (b ∷ bs) blank =
    let both = and_parts (is_blank b) (list_all is_blank bs) blank in
    rw both.0 (blanks-go bs both.1)

high-solid : (b : ℕ) → 33 ≤ b → is_blank b ≡ false
high-solid b high =
    rw (
      ne_eqb b 32 (λ e. omega (arith, high, e)),
      ne_eqb b 9 (λ e. omega (arith, high, e)),
      ne_eqb b 10 (λ e. omega (arith, high, e)),
    ) refl

lower-solid : (b : ℕ) → is_lower b ≡ true → is_blank b ≡ false
lower-solid b is =
    elim (or_cases (nat_le 97 b && nat_le b 122) (nat_le 48 b && nat_le b 57) is) [
      | inl letter ↦ (
          let low = leb-true 97 b (and_parts (nat_le 97 b) (nat_le b 122) letter).0 in
          high-solid b (omega (arith, low))
          )
      | inr digit ↦ (
          let low = leb-true 48 b (and_parts (nat_le 48 b) (nat_le b 57) digit).0 in
          high-solid b (omega (arith, low))
          )
    ]

version-solid : (b : ℕ) → is_version_byte b ≡ true → is_blank b ≡ false
version-solid b is = (or_parts (is_blank b) (b == 41) (not-true (is_blank b || b == 41) is)).0

-- ---- the parts

name-again : (name rest : List ℕ) → is_name name ≡ true → first_is is_name_byte rest ≡ false
    → name_at (name ++ rest) ≡ Ok (name, rest)
unfolding name_at
name-again name rest is stops =
    let all = (and_parts (nat_le 2 (length name) && first_is is_lower name)
    (list_all is_name_byte name) is).1 in
    rw (
      front-again is_name_byte name rest all stops,
      behind-again is_name_byte name rest all stops,
      is,
    ) refl

plain-again : (rest : List ℕ) → first_is (is_byte colon) rest ≡ false
    → qualifier_at rest ≡ Ok (None, rest)
unfolding qualifier_at
plain-again [] plain = refl
plain-again (b ∷ bs) plain = rw plain refl

qualifier-again : (qualifier : Option (List ℕ)) (rest : List ℕ)
    → is_spelled_qualifier qualifier ≡ true → first_is is_qualifier_byte rest ≡ false
    → first_is (is_byte colon) rest ≡ false
    → qualifier_at (qualifier_text qualifier ++ rest) ≡ Ok (qualifier, rest)
unfolding qualifier_at
qualifier-again None rest is stops plain = plain-again rest plain
qualifier-again (Some qualifier) rest is stops plain =
    let both = and_parts (not (is_nil qualifier)) (list_all is_qualifier_byte qualifier) is in
    rw (
      front-again is_qualifier_byte qualifier rest both.1 stops,
      behind-again is_qualifier_byte qualifier rest both.1 stops,
      not-true (is_nil qualifier) both.0,
    ) refl

operator-again : (op : Op) (rest : List ℕ)
    → operator_at Need (behind is_blank (operator_text op ++ 32 ∷ rest)) ≡ Ok (op, 32 ∷ rest)
unfolding operator_at
operator-again Earlier rest = refl
operator-again EarlierOrEqual rest = refl
operator-again Equal rest = refl
operator-again LaterOrEqual rest = refl
operator-again Later rest = refl

no-version : is_ok (version_at []) ≡ false
unfolding version_at
no-version = refl

version-first : (version rest : List ℕ) → is_ok (version_at version) ≡ true
    → list_all is_version_byte version ≡ true → first_is is_blank (version ++ rest) ≡ false
version-first [] rest is are = absurd (true≢false (sym is ∙ no-version))
version-first (b ∷ bs) rest is are =
    version-solid b (and_parts (is_version_byte b) (list_all is_version_byte bs) are).0

version-again : (version rest : List ℕ) → is_ok (version_at version) ≡ true
    → list_all is_version_byte version ≡ true
    → version_in (version ++ 41 ∷ rest) ≡ Ok (version, 41 ∷ rest)
unfolding version_in
version-again version rest is are =
    rw (
      front-again is_version_byte version (41 ∷ rest) are refl,
      behind-again is_version_byte version (41 ∷ rest) are refl,
      is,
    ) refl

relation-in-again : (op : Op) (version rest : List ℕ) → is_ok (version_at version) ≡ true
    → list_all is_version_byte version ≡ true
    → relation_in Need (operator_text op ++ 32 ∷ (version ++ 41 ∷ rest))
    ≡ Ok (Some (op, version), rest)
relation-in-again op version rest is are =
    rw (
      operator-again op (version ++ 41 ∷ rest),
      behind-again is_blank [] (version ++ 41 ∷ rest) refl
          (version-first version (41 ∷ rest) is are),
      version-again version rest is are,
    ) refl

-- the bytes behind the `(`
relation-bytes : (op : Op) (version rest : List ℕ)
    → relation_text (Some (op, version)) ++ rest
    ≡ 32 ∷ 40 ∷ (operator_text op ++ 32 ∷ (version ++ 41 ∷ rest))
relation-bytes Earlier version rest = rw (append_assoc version (41 ∷ []) rest) refl
relation-bytes EarlierOrEqual version rest = rw (append_assoc version (41 ∷ []) rest) refl
relation-bytes Equal version rest = rw (append_assoc version (41 ∷ []) rest) refl
relation-bytes LaterOrEqual version rest = rw (append_assoc version (41 ∷ []) rest) refl
relation-bytes Later version rest = rw (append_assoc version (41 ∷ []) rest) refl

-- what is left behind a relation before blanks
abbrev left_behind : Option (Op × List ℕ) → List ℕ → List ℕ
left_behind None after = []
left_behind (Some relation) after = after

relation-again : (relation : Option (Op × List ℕ)) (after : List ℕ)
    → is_spelled_relation relation ≡ true → list_all is_blank after ≡ true
    → relation_at Need (behind is_blank (relation_text relation ++ after))
    ≡ Ok (relation, left_behind relation after)
unfolding relation_at
relation-again None after is blank = rw (blanks-go after blank) refl
relation-again (Some (op, version)) after is blank =
    let both = and_parts (is_ok (version_at version)) (list_all is_version_byte version) is in
    ap (λ text. relation_at Need (behind is_blank text)) (relation-bytes op version after)
    ∙ relation-in-again op version after both.0 both.1

left-blank : (relation : Option (Op × List ℕ)) (after : List ℕ) → list_all is_blank after ≡ true
    → behind is_blank (left_behind relation after) ≡ []
left-blank None after blank = refl
left-blank (Some relation) after blank = blanks-go after blank

-- behind a name stands nothing that passes
relation-stops : (p : ℕ → Bool) → p 32 ≡ false → p 9 ≡ false → p 10 ≡ false
    → (relation : Option (Op × List ℕ)) (after : List ℕ) → list_all is_blank after ≡ true
    → first_is p (relation_text relation ++ after) ≡ false
relation-stops p space tab newline None after blank = first-not p space tab newline after blank
relation-stops p space tab newline (Some (op, version)) after blank = space

qualifier-stops : (qualifier : Option (List ℕ)) (relation : Option (Op × List ℕ)) (after : List ℕ)
    → list_all is_blank after ≡ true
    → first_is is_name_byte (qualifier_text qualifier ++ (relation_text relation ++ after)) ≡ false
qualifier-stops None relation after blank =
    relation-stops is_name_byte refl refl refl relation after blank
qualifier-stops (Some qualifier) relation after blank = refl

-- ---- an alternative

name-first : (name rest : List ℕ) → is_name name ≡ true → first_is is_blank (name ++ rest) ≡ false
name-first [] rest is = absurd (true≢false (sym is))
name-first (b ∷ bs) rest is =
    let two = (and_parts (nat_le 2 (length (b ∷ bs)) && is_lower b)
    (list_all is_name_byte (b ∷ bs)) is).0 in
    lower-solid b (and_parts (nat_le 2 (length (b ∷ bs))) (is_lower b) two).1

not-blank : (before text : List ℕ) → first_is is_blank text ≡ false → not (is_nil text) ≡ true
    → list_all is_blank (before ++ text) ≡ false
not-blank [] [] solid some = absurd (true≢false (sym some))
not-blank [] (b ∷ bs) solid some = rw solid refl
not-blank (c ∷ cs) text solid some =
    and_right (is_blank c) (list_all is_blank (cs ++ text)) (not-blank cs text solid some)

name-some : (name rest : List ℕ) → is_name name ≡ true → not (is_nil (name ++ rest)) ≡ true
name-some [] rest is = absurd (true≢false (sym is))
name-some (b ∷ bs) rest is = refl

no-restrictions : archs_at Need [] ≡ Ok (None, [])
unfolding archs_at
no-restrictions = refl

no-profiles : profiles_at Need [] ≡ Ok []
unfolding profiles_at lists_at
no-profiles = refl

-- the parts of an alternative, its blanks before and behind it
atom-bytes : (before after : List ℕ) (atom : Atom)
    → before ++ (atom_text atom ++ after)
    ≡ before ++ (atom.name
    ++ (qualifier_text atom.qualifier ++ (relation_text atom.relation ++ after)))
unfolding atom_text
atom-bytes before after atom =
    rw (
      append_assoc (atom.name ++ qualifier_text atom.qualifier) (relation_text atom.relation) after,
      append_assoc atom.name (qualifier_text atom.qualifier) (relation_text atom.relation ++ after),
    ) refl

bare-atom : (atom : Atom) → IsSpelled atom
    → record {
      name = atom.name;
      qualifier = atom.qualifier;
      relation = atom.relation;
      archs = None;
      profiles = [];
    } ≡ atom
bare-atom atom is =
    ap (λ archs. record {
      name = atom.name;
      qualifier = atom.qualifier;
      relation = atom.relation;
      archs = archs;
      profiles = [];
    }) (sym is.archs)
    ∙ ap (λ profiles. record {
      name = atom.name;
      qualifier = atom.qualifier;
      relation = atom.relation;
      archs = atom.archs;
      profiles = profiles;
    }) (sym is.profiles)

module _ (before after : List ℕ) (blank_before : list_all is_blank before ≡ true)
    (blank_after : list_all is_blank after ≡ true) where
  atom-again : (atom : Atom) → IsSpelled atom
      → atom_at Need (before ++ (atom_text atom ++ after)) ≡ Ok atom
  unfolding atom_at
  atom-again atom is =
      let more = relation_text atom.relation ++ after in
      let rest = qualifier_text atom.qualifier ++ more in
      rw (
        atom-bytes before after atom,
        behind-again is_blank before (atom.name ++ rest) blank_before
            (name-first atom.name rest is.name),
        name-again atom.name rest is.name
            (qualifier-stops atom.qualifier atom.relation after blank_after),
        qualifier-again atom.qualifier more is.qualifier
            (relation-stops is_qualifier_byte refl refl refl atom.relation after blank_after)
            (relation-stops (is_byte colon) refl refl refl atom.relation after blank_after),
        relation-again atom.relation after is.relation blank_after,
        left-blank atom.relation after blank_after,
        no-restrictions,
        no-profiles,
      ) (ap Ok (bare-atom atom is))

  -- an alternative, with blanks before and behind it
  pub alternative-again : (atom : Atom) → IsSpelled atom
      → alternative_at Need (before ++ (atom_text atom ++ after)) ≡ Ok atom
  unfolding alternative_at
  alternative-again atom is =
      let rest = qualifier_text atom.qualifier ++ (relation_text atom.relation ++ after) in
      let some : list_all is_blank (before ++ (atom_text atom ++ after)) ≡ false =
      rw (atom-bytes before after atom)
      (not-blank before (atom.name ++ rest) (name-first atom.name rest is.name)
      (name-some atom.name rest is.name)) in
      rw (some, atom-again atom is) refl
