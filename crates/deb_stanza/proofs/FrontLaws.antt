-- The name in front of a line, by the bytes that a name may have.
use Rattle.std.proofs.Common.{◌≡◌, ℕ, zero, suc, ◌<◌, ◌≤◌, Bool, true, false, not, ◌&&◌, List, [], ◌∷◌, length, take, drop, get_or, Some, None, refl, sym, ap, arith, inl, inr, if◌then◌else◌}
use Rattle.std.specs.Prelude.{nat_le}
use Rattle.std.specs.List.{list_all, list_any}
use Rattle.std.proofs.lemmas.Bool.{cases_Bool, and_from, and_left, and_parts, and_right, not-true, true≢false}
use Rattle.deb_text.specs.Common.{Fails, refusal_of, fault_at, is_byte, first_is, is_nil, front, behind, answer}
use Rattle.deb_stanza.specs.declared.error.TheConstants.{NO_COLON, BAD_FIELD_NAME}
use Rattle.deb_stanza.specs.Keys.{is_name_byte, is_named}
use Rattle.deb_stanza.specs.Stanza.{is_colon, name_of, name_fault, told_at}

-- a list cut where its front ends
pub cut-front : (p : ℕ → Bool) (xs : List ℕ) (k : ℕ) → k ≤ length xs
    → ((i : ℕ) → i < k → p (get_or xs i 0) ≡ true)
    → (k < length xs → p (get_or xs k 0) ≡ false)
    → (take k xs ≡ front p xs) × (drop k xs ≡ behind p xs)
cut-front p [] zero le all ends = (refl, refl)
cut-front p [] (suc k) le all ends = absurd (omega arith)
cut-front p (x ∷ xs) zero le all ends = rw (ends (omega arith)) (refl, refl)
cut-front p (x ∷ xs) (suc k) le all ends =
    let rest =
    cut-front p xs k (omega arith) (λ i lt. all (suc i) (omega arith)) (λ lt. ends (omega arith)) in
    rw (all 0 (omega arith)) (ap (λ ys. x ∷ ys) rest.0, rest.1)

abbrev is_seen : ℕ → Bool
is_seen b = nat_le 33 b && nat_le b 126

name-byte : (b : ℕ) → is_name_byte b ≡ true → (is_seen b ≡ true) × (is_colon b ≡ false)
name-byte b is =
    let outer = and_parts (not (is_colon b) && nat_le 33 b) (nat_le b 126) is in
    let inner = and_parts (not (is_colon b)) (nat_le 33 b) outer.0 in
    (and_from (nat_le 33 b) (nat_le b 126) inner.1 outer.1, not-true (is_colon b) inner.0)

other-byte : (b : ℕ) → is_name_byte b ≡ false → is_colon b ≡ false → is_seen b ≡ false
other-byte b other solid = rw solid at other

-- a colon behind the front
named : (text : List ℕ) → first_is is_colon (behind is_name_byte text) ≡ true
    → (list_any is_colon text ≡ true)
    × ((front is_name_byte text ≡ name_of text)
    × (list_all is_seen (front is_name_byte text) ≡ true))
named [] some = absurd cc
named (b ∷ bs) some =
    elim (cases_Bool (is_name_byte b)) [
      | inl is ↦
          let byte = name-byte b is in
          let rest = named bs (rw is at some) in
          rw (is, byte.1) (rest.0, (ap (λ name. b ∷ name) rest.1.0, and_from _ _ byte.0 rest.1.1))
      | inr is ↦ let colon = rw is at some in rw (is, colon) (refl, (refl, refl))
    ]

-- another byte behind it
unnamed : (text : List ℕ) → first_is is_colon (behind is_name_byte text) ≡ false
    → list_any is_colon text ≡ true → list_all is_seen (name_of text) ≡ false
unnamed [] other some = absurd cc
unnamed (b ∷ bs) other some =
    elim (cases_Bool (is_name_byte b)) [
      | inl is ↦
          let byte = name-byte b is in
          rw byte.1
          (and_right (is_seen b) (list_all is_seen (name_of bs))
          (unnamed bs (rw is at other) (rw byte.1 at some)))
      | inr is ↦
          let solid = rw is at other in
          rw solid (and_left (is_seen b) (list_all is_seen (name_of bs)) (other-byte b is solid))
    ]

-- what is told of a line, by the three tests
told : (colon nil hyphen seen : Bool) → (colon && not nil && not hyphen) ≡ true → seen ≡ true
    → (colon ≡ true) × ((not nil && not hyphen && seen) ≡ true)
told true false false true is all = (refl, refl)
told true false true seen is all = absurd cc
told true true hyphen seen is all = absurd cc
told false nil hyphen seen is all = absurd cc
told true false false false is all = absurd cc

refused : (nil hyphen seen : Bool) → (not nil && not hyphen) ≡ false
    → (not nil && not hyphen && seen) ≡ false
refused false false seen is = absurd cc
refused false true seen is = refl
refused true hyphen seen is = refl

abbrev the_front : List ℕ → List ℕ
the_front text = front is_name_byte text

abbrev the_rest : List ℕ → List ℕ
the_rest text = behind is_name_byte text

pub head-named : (text : List ℕ) → is_named (the_front text) (the_rest text) ≡ true
    → (name_fault text ≡ None)
    × ((the_front text ≡ name_of text) × (list_any is_colon text ≡ true))
head-named text is =
    elim (cases_Bool (first_is is_colon (the_rest text))) [
      | inl colon ↦
          let all = named text colon in
          let fine =
          told (first_is is_colon (the_rest text)) (is_nil (the_front text))
          (first_is (is_byte 45) (the_front text)) (list_all is_seen (the_front text)) is all.1.1 in
          (rw (all.0, ← all.1.0, fine.1) refl, (all.1.0, all.0))
      | inr none ↦ absurd (true≢false (sym (rw none at is)))
    ]

pub head-unnamed : (text : List ℕ) → is_named (the_front text) (the_rest text) ≡ false
    → name_fault text ≡ Some (if list_any is_colon text then BAD_FIELD_NAME else NO_COLON)
head-unnamed text is =
    elim (cases_Bool (first_is is_colon (the_rest text))) [
      | inl colon ↦
          let all = named text colon in
          let bad =
          refused (is_nil (the_front text)) (first_is (is_byte 45) (the_front text))
          (list_all is_seen (the_front text)) (rw colon at is) in
          rw (all.0, ← all.1.0, bad) refl
      | inr none ↦ elim (cases_Bool (list_any is_colon text)) [
        | inl some ↦
            let bad = unnamed text none some in
            let start = not (is_nil (name_of text)) && not (first_is (is_byte 45) (name_of text)) in
            rw (some, bad, and_right start false refl) refl
        | inr empty ↦ rw empty refl
      ]
    ]

-- what is told then
abbrev code_of : Bool → ℕ
code_of some = if some then BAD_FIELD_NAME else NO_COLON

pub fails-unnamed : (some : Bool) (line : ℕ) (name : List ℕ)
    → Fails refusal_of (fault_at 0 line (code_of some))
    (answer (told_at line (Some (code_of some))) name)
fails-unnamed true line name = refl
fails-unnamed false line name = refl
