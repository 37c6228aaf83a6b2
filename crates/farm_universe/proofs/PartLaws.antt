-- What several threads read of the paragraphs of a text.
use Rattle.std.proofs.Common.{◌≡◌, ℕ, zero, suc, ◌+◌, ◌-◌, ◌<◌, ◌≤◌, List, [], ◌∷◌, ◌++◌, length, Option, Some, None, slice_get, get_or, refl, ap, subst, arith}
use Rattle.std.specs.List.{AllZip, range_with_len}
use Rattle.std.proofs.lemmas.List.{length-append}
use Rattle.std.proofs.lemmas.Option.{slice_get_within}
use Rattle.rayon.specs.Numbers.{nat_range}
use Rattle.rayon.proofs.ToStd.{nat_range-All}
use Rattle.deb_stanza.specs.Stanza.{Paragraph, paragraph_at}
use Rattle.farm_universe.specs.Parts.{AreReads}

module _ {P : Type 0} (Is : ℕ → P → Type 0) where
  -- what is told of a part, where there is one
  abbrev IsOf : ℕ → Option P → Type 0
  IsOf n (Some part) = Is n part
  IsOf n None = ⊥

  -- the parts of the numbers from a on
  parts_from : (a n : ℕ) (parts : List P) → AllZip Is (range_with_len a n) parts
      → (length parts ≡ n)
      × ((k : ℕ) (part : P) → slice_get parts k ≡ Some part → Is (a + k) part)
  parts_from a zero [] all =
      (refl, λ k part is. let lt = slice_get_within [] k part is in absurd (omega (arith, lt)))
  parts_from a zero (part ∷ parts) all = absurd all
  parts_from a (suc n) [] all = absurd all
  parts_from a (suc n) (first ∷ parts) all =
      let rest = parts_from (a + 1) n parts all.1 in (ap suc rest.0, at rest.1)
    where
      at : ((k : ℕ) (part : P) → slice_get parts k ≡ Some part → Is (a + 1 + k) part)
          → (k : ℕ) (part : P) → slice_get (first ∷ parts) k ≡ Some part → Is (a + k) part
      at rest zero part is =
          let e : a ≡ a + 0 = omega arith in subst (λ m. Is m part) e (subst (IsOf a) is all.0)
      at rest (suc k) part is =
          let e : a + 1 + k ≡ a + suc k = omega arith in subst (λ m. Is m part) e (rest k part is)

-- the parts of the paragraphs from one up to another
pub are_parts : {P : Type 0} (IsPart : Paragraph → P → Type 0) (ps : List Paragraph)
    (from to : ℕ) → from ≤ to → (parts : List P) (places : List ℕ)
    → places ≡ range_with_len from (to - from)
    → AllZip (λ n part. IsPart (paragraph_at ps n) part) places parts
    → AreReads IsPart ps from to parts
are_parts {P} IsPart ps from to ascends parts places at all =
    let Is = λ (n : ℕ) (part : P). IsPart (paragraph_at ps n) part in
    let made = parts_from Is from (to - from) parts (subst (λ l. AllZip Is l parts) at all) in
    record { long = omega (arith, ascends, made.0); each = made.1 }

-- the numbers from one up to another are below a third that is not less
pub inside : (from to n : ℕ) → to ≤ n → (k d : ℕ) → k < length (nat_range from to)
    → get_or (nat_range from to) k d < n
inside from to n within =
    nat_range-All (λ i. i < n) from to (λ i low high. omega (arith, high, within))

-- the next part of several is that of a paragraph
pub next_below : {P : Type 0} (first number n : ℕ) (parts yielded : List P) (part : P)
    (rest more : List P) → number ≡ first + length yielded → parts ≡ yielded ++ rest
    → rest ≡ part ∷ more → first + length parts ≤ n → number < n
next_below first number n parts yielded part rest more at is next within =
    omega (arith, at, within, ap length is, ap length next, length-append yielded rest)
