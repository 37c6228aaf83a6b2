-- The lines of a text, and the items of a field byte by byte.
--
--   line_behind    the line at which an item begins among bytes behind an item, or not
use Rattle.std.proofs.Common.{◌≡◌, ℕ, zero, suc, ◌-◌, Bool, true, false, List, [], ◌∷◌, Option, Some, arith, refl, length, map, get_or, ◌≤◌, ◌++◌, if◌then◌else◌, drop, take}
use Rattle.std.specs.Prelude.{◌==◌, ◌||◌, slice_get}
use Rattle.std.specs.List.{list_any, onto_first, slice_split}
use Rattle.std.specs.Option.{option_map}
use Rattle.std.proofs.lemmas.Bool.{ne_eqb}
use Rattle.deb_text.proofs.CutLaws.{before-none, after-none}
use Rattle.std.proofs.lemmas.List.{take_rest}
use Rattle.deb_text.specs.Common.{is_blank, before, after, Line}
use Rattle.deb_stanza.specs.Stanza.{continuation}
use Rattle.deb_stanza.specs.OwnLines.{bytes_of, field_in, firsts_of, is_comma, value_in}

-- where nothing passes, all stands before it, and nothing behind it; the names are ones that a
-- tactic's list can have
pub before_none : {X : Type 0} (p : X → Bool) (xs : List X) → list_any p xs ≡ false
    → before p xs ≡ xs
before_none p xs none = before-none p xs none

pub after_none : {X : Type 0} (p : X → Bool) (xs : List X) → list_any p xs ≡ false
    → after p xs ≡ []
after_none p xs none = after-none p xs none

-- the line of an item's first byte, among parts of which the first may be of an item that goes on
abbrev told : Bool → ℕ → List (List (ℕ × ℕ)) → Option ℕ
told is_inside place parts =
    option_map (λ c. c.0) (slice_get (firsts_of (if is_inside then drop 1 parts else parts)) place)

abbrev pub line_behind : Bool → ℕ → List (ℕ × ℕ) → Option ℕ
line_behind is_inside place cs = told is_inside place (slice_split is_comma cs)

line_at : (n : ℕ) (c : ℕ × ℕ) (cs : List (ℕ × ℕ)) → option_map (λ c. c.0) (slice_get (c ∷ cs) n)
    ≡ (if n == 0 then Some c.0 else option_map (λ c. c.0) (slice_get cs (n - 1)))
line_at zero c cs = refl
line_at (suc n) c cs =
    let other : (suc n == 0) ≡ false = ne_eqb (suc n) 0 (omega arith) in
    let less : suc n - 1 ≡ n = omega arith in
    rw (other, less) refl

-- by one byte: a comma, a blank or one inside an item, the first of an item
pub line_step : (is_inside : Bool) (place : ℕ) (c : ℕ × ℕ) (cs : List (ℕ × ℕ))
    → line_behind is_inside place (c ∷ cs) ≡ (if is_comma c then line_behind false place cs
    else (if is_inside || is_blank c.1 then line_behind is_inside place cs
    else (if place == 0 then Some c.0 else line_behind true (place - 1) cs)))
line_step is_inside place c cs =
    by (is_comma c) is_inside (is_blank c.1) (slice_split is_comma cs) refl where
      by : (comma inside blank : Bool) (parts : List (List (ℕ × ℕ))) → is_blank c.1 ≡ blank
          → told inside place (if comma then [] ∷ parts else onto_first c parts)
          ≡ (if comma then told false place parts
          else (if inside || blank then told inside place parts
          else (if place == 0 then Some c.0 else told true (place - 1) parts)))
      by true true blank parts is = refl
      by true false blank parts is = refl
      by false true blank [] is = refl
      by false true blank (q ∷ qs) is = refl
      by false false true [] is = rw is refl
      by false false true (q ∷ qs) is = rw is refl
      by false false false [] is = rw is (line_at place c [])
      by false false false (q ∷ qs) is = rw is (line_at place c (firsts_of qs))

-- the bytes of a field, by its first line
pub bytes_first : (ls : List Line) (l : Line) (n : ℕ) (bytes : List ℕ) → 1 ≤ length ls
    → l ≡ get_or ls 0 l → n ≡ l.0 → bytes ≡ value_in l
    → bytes_of (field_in ls) ≡ map (λ b. (n, b)) bytes
    ++ bytes_of (continuation (take (length ls - 1) (drop 1 ls)))
bytes_first [] l n bytes some first is_at is = absurd (omega arith)
bytes_first (x ∷ xs) l n bytes some first is_at is =
    rw (is, is_at, first, take_rest (x ∷ xs) 1) refl
