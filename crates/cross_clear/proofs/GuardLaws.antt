-- What the refusal 707 leaves, package by package.
use Rattle.std.proofs.Common.{◌≡◌, ℕ, ◌<◌, ◌+◌, List, length, get_or, subst, sym, inl, inr, arith}
use Rattle.std.proofs.lemmas.Bool.{cases_lt}
use Rattle.std.proofs.lemmas.List.{get_or_read}
use Rattle.deb_stanza.specs.Stanza.{Paragraph, paragraph_at}
use Rattle.cross_laws.specs.Binary.{Sides, Binary}
use Rattle.cross_clear.specs.Guard.{IsPackageKept}

module _ (s : Sides) (all : List Binary) (paragraphs : List Paragraph) (at : ℕ) where
  -- one package more
  pub needs-more : ((k : ℕ) (p : Binary) → k < at → k < length all
      → IsPackageKept s all (get_or all k p) (paragraph_at paragraphs k))
      → ((p : Binary) → at < length all
      → IsPackageKept s all (get_or all at p) (paragraph_at paragraphs at))
      → (k : ℕ) (p : Binary) → k < at + 1 → k < length all
      → IsPackageKept s all (get_or all k p) (paragraph_at paragraphs k)
  needs-more before now k p lt within =
      elim (cases_lt k at) [
        | inl less ↦ before k p less within
        | inr more ↦
            let same : at ≡ k = omega (arith, lt, more) in
            subst (λ n. IsPackageKept s all (get_or all n p) (paragraph_at paragraphs n)) same
            (now p (subst (λ n. n < length all) (sym same) within))
      ]

  -- the package at this place
  pub needs-at : (binary : Binary) (paragraph : Paragraph) → binary ≡ get_or all at binary
      → paragraph ≡ paragraph_at paragraphs at → IsPackageKept s all binary paragraph
      → (p : Binary) → at < length all
      → IsPackageKept s all (get_or all at p) (paragraph_at paragraphs at)
  needs-at binary paragraph is of kept p within =
      subst (λ b. IsPackageKept s all b (paragraph_at paragraphs at))
      (get_or_read all at binary within is p)
      (subst (IsPackageKept s all binary) of kept)
