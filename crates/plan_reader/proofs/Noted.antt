-- What is noted of a lane's instructions, with more of them.
use Rattle.std.proofs.Common.{◌≡◌, ◌<◌, ◌≤◌, ℕ, ◌+◌, Bool, true, false, arith, List, [], ◌∷◌, ◌++◌, length, inl, inr, refl, sym, ap, ◌∙◌, Option, Some, None, Result, Ok, Err, MatchOption}
use Rattle.std.proofs.lemmas.Bool.{cases_lt, lt-ltb, le-ltb}
use Rattle.deb_text.specs.Answers.{Fails}
use Rattle.plan_reader.specs.declared.error.TheConstants.{PUBLISHED_TWICE, OVER_LIMIT, MOST_INSTRUCTIONS}
use Rattle.plan_reader.specs.Drafts.{Block, InLane, instructions_of, noted, published, published_once, add_to_open}
use Rattle.plan_reader.specs.SectionView.{IsTallied}
use Rattle.plan_reader.proofs.AssemblyLaws.{lane-over}
use Rattle.plan_reader.proofs.Publishes.{published-append}
use Rattle.plan_reader.proofs.Tallies.{err-never, fails-then}
use Rattle.plan_model.specs.Common.{Lane, has_double}
use Rattle.plan_model.specs.declared.instructions.Instruction.{Instruction}

code-same : (e f : ℕ) → (let r : Result (List ℕ) ℕ = Err e in r ≡ Err f) → e ≡ f
code-same e f is = cc

ok-never : (e : ℕ) (ys : List ℕ) → (let r : Result (List ℕ) ℕ = Ok ys in r ≡ Err e) → ⊥
ok-never e ys is = cc

module _ (n : ℕ) (rs : List ℕ) (xs : List Instruction) where
  pub noted-fails : {E : Type 0} (refusal : E → Option ℕ) (e : E)
      → Fails refusal e (published_once (rs ++ published xs)) → Fails refusal e (noted n rs xs)
  noted-fails refusal e fails = fails-then refusal e (published_once (rs ++ published xs)) _ fails

  pub noted-over : (found : List ℕ) → published_once (rs ++ published xs) ≡ Ok found
      → MOST_INSTRUCTIONS < n + length xs → noted n rs xs ≡ Err OVER_LIMIT
  noted-over found once over = rw (once, lt-ltb MOST_INSTRUCTIONS (n + length xs) over) refl

  pub noted-fits : (found : List ℕ) → published_once (rs ++ published xs) ≡ Ok found
      → n + length xs ≤ MOST_INSTRUCTIONS → noted n rs xs ≡ Ok found
  noted-fits found once fits = rw (once, le-ltb MOST_INSTRUCTIONS (n + length xs) fits) refl

  -- what is noted is published once, and not too many
  pub noted-is : (found : List ℕ) → noted n rs xs ≡ Ok found
      → (published_once (rs ++ published xs) ≡ Ok found) × (n + length xs ≤ MOST_INSTRUCTIONS)
  noted-is found is = go (has_double (rs ++ published xs)) refl
    where
      go : (b : Bool) → has_double (rs ++ published xs) ≡ b
          → (published_once (rs ++ published xs) ≡ Ok found) × (n + length xs ≤ MOST_INSTRUCTIONS)
      go true twice = absurd (err-never _ found (rw twice at is))
      go false once = elim (cases_lt MOST_INSTRUCTIONS (n + length xs)) [
        | inl over ↦
            absurd (err-never _ found
            (sym (noted-over (rs ++ published xs) (rw once refl) over) ∙ is))
        | inr fits ↦ (
          rw once refl ∙ (sym (noted-fits (rs ++ published xs) (rw once refl) (omega arith)) ∙ is),
          omega arith,
        )
      ]

  -- where that fails, so does the line
  module _ (bs : List Block) (ls : List Lane) (line : ℕ) (l : Lane)
      (tallied : IsTallied (instructions_of (ls ++ l ∷ [])) n rs) where
    pub add-stops : (f : ℕ) → noted n rs xs ≡ Err f → add_to_open bs ls (InLane line l) xs ≡ Err f
    add-stops f is = go (has_double (rs ++ published xs)) refl
      where
        go : (b : Bool) → has_double (rs ++ published xs) ≡ b
            → add_to_open bs ls (InLane line l) xs ≡ Err f
        go true twice =
            rw (published-append (instructions_of (ls ++ l ∷ [])) xs, sym tallied.recipes, twice)
            (ap Err (code-same PUBLISHED_TWICE f (rw twice at is)))
        go false once = elim (cases_lt MOST_INSTRUCTIONS (n + length xs)) [
          | inl over ↦
              lane-over bs ls line l xs n rs (rs ++ published xs) tallied (rw once refl) over
              ∙ ap Err (code-same OVER_LIMIT f
              (sym (noted-over (rs ++ published xs) (rw once refl) over) ∙ is))
          | inr fits ↦
              absurd (ok-never f (rs ++ published xs)
              (sym (noted-fits (rs ++ published xs) (rw once refl) (omega arith)) ∙ is))
        ]

    pub add-noted-fails : {E : Type 0} (refusal : E → Option ℕ) (e : E)
        → Fails refusal e (noted n rs xs) → Fails refusal e (add_to_open bs ls (InLane line l) xs)
    add-noted-fails refusal e fails = go (refusal e) fails
      where
        go : (o : Option ℕ) → MatchOption o (Unit {0}) (λ f. noted n rs xs ≡ Err f)
            → MatchOption o (Unit {0}) (λ f. add_to_open bs ls (InLane line l) xs ≡ Err f)
        go None is = tt
        go (Some f) is = add-stops f is
