-- The lines of an answer. The project's own format; numbers are decimal without leading zeros.
use Rattle.std.specs.Prelude.{ℕ, List, [], ◌∷◌, codes}
use Rattle.std.specs.List.{concat}
use Rattle.std.specs.Fmt.{decimal}
use Rattle.deb_text.specs.Words.{spaced}
use Rattle.plan_verifier.specs.declared.refusal.TheConstants.{STUCK}

-- `WORD N`
abbrev pub counted_line : List ℕ → ℕ → List ℕ
counted_line word number = concat (word ∷ codes " " ∷ decimal number ∷ codes "\n" ∷ [])

-- `lane NAME cost N budget N`
abbrev pub lane_cost_line : List ℕ → ℕ → ℕ → List ℕ
lane_cost_line name cost budget =
    concat (codes "lane " ∷ name ∷ codes " cost " ∷ decimal cost
    ∷ codes " budget " ∷ decimal budget ∷ codes "\n" ∷ [])

-- `refused CODE FILE line N`
abbrev pub fault_line : ℕ → List ℕ → ℕ → List ℕ
fault_line code file line =
    concat (codes "refused " ∷ decimal code ∷ codes " " ∷ file ∷ codes " line " ∷ decimal line
    ∷ codes "\n" ∷ [])

-- `refused CODE lane NAME instruction N TRAP`
abbrev pub unsafe_line : ℕ → List ℕ → ℕ → List ℕ → List ℕ
unsafe_line code lane instruction trap =
    concat (codes "refused " ∷ decimal code ∷ codes " lane " ∷ lane ∷ codes " instruction "
    ∷ decimal instruction ∷ codes " " ∷ trap ∷ codes "\n" ∷ [])

-- `refused CODE lane NAME instruction N`
abbrev pub row_line : ℕ → List ℕ → ℕ → List ℕ
row_line code lane instruction =
    concat (codes "refused " ∷ decimal code ∷ codes " lane " ∷ lane ∷ codes " instruction "
    ∷ decimal instruction ∷ codes "\n" ∷ [])

-- `refused CODE WORD N`
abbrev pub refused_at_line : ℕ → List ℕ → ℕ → List ℕ
refused_at_line code word number =
    concat (codes "refused " ∷ decimal code ∷ codes " " ∷ word ∷ codes " " ∷ decimal number
    ∷ codes "\n" ∷ [])

-- want of memory, which the program tells on standard error instead
abbrev pub memory_line : List ℕ
memory_line = codes "refused 900\n"

-- `refused 402 lanes`, by the code `STUCK`
abbrev pub stuck_words : List ℕ
stuck_words = concat (codes "refused " ∷ decimal STUCK ∷ codes " lanes" ∷ [])

-- `refused 402 lanes NAME NAME ..`
abbrev pub stuck_line : List (List ℕ) → List ℕ
stuck_line names = concat (stuck_words ∷ spaced names ∷ codes "\n" ∷ [])

-- `trap STEP lane NAME instruction N TRAP`
abbrev pub trap_line : ℕ → List ℕ → ℕ → List ℕ → List ℕ
trap_line step lane instruction trap =
    concat (codes "trap " ∷ decimal step ∷ codes " lane " ∷ lane ∷ codes " instruction "
    ∷ decimal instruction ∷ codes " " ∷ trap ∷ codes "\n" ∷ [])

-- `published SERIAL LANE NAME VERSION`
abbrev pub published_line : ℕ → List ℕ → List ℕ → List ℕ → List ℕ
published_line serial lane name version =
    concat (codes "published " ∷ decimal serial ∷ codes " " ∷ lane ∷ codes " " ∷ name ∷ codes " "
    ∷ version ∷ codes "\n" ∷ [])

-- `lane NAME at N spent N used N`
abbrev pub at_line : List ℕ → ℕ → ℕ → ℕ → List ℕ
at_line name done spent used =
    concat (codes "lane " ∷ name ∷ codes " at " ∷ decimal done ∷ codes " spent " ∷ decimal spent
    ∷ codes " used " ∷ decimal used ∷ codes "\n" ∷ [])

-- two spaces, and then `NAME VERSION PHASE`
abbrev pub variant_line : List ℕ → List ℕ → List ℕ → List ℕ
variant_line name version phase =
    concat (codes "  " ∷ name ∷ codes " " ∷ version ∷ codes " " ∷ phase ∷ codes "\n" ∷ [])
