-- What a line of a driver says. The project's own rules: words between blanks.
--
--   named_from name n lanes     the first of these lanes of that name; they are numbered from n on
--   answer_of p line            what the line says
use Rattle.std.specs.Prelude.{ℕ, ◌+◌, ◌&&◌, List, [], ◌∷◌, codes, Option, Some, None, if◌then◌else◌}
use Rattle.std.specs.Str.{bytes_eq}
use Rattle.deb_text.specs.Common.{is_nil, number_at, words}
use Rattle.plan_model.specs.Plan.{Lane, Plan}
use Rattle.drive_protocol.specs.declared.answer.Answer.{Answer}
use Rattle.drive_protocol.specs.declared.answer.Answer.TheVariants.{Done, Failed, Stop, Nothing, Bad}

-- the first of these lanes that has this name; they are numbered from n on
abbrev pub named_from : List ℕ → ℕ → List Lane → Option ℕ
named_from name n [] = None
named_from name n (l ∷ ls) = if bytes_eq l.name name then Some n else named_from name (n + 1) ls

abbrev pub both : Option ℕ → Option ℕ → Option (ℕ × ℕ)
both (Some l) (Some n) = Some (l, n)
both _ _ = None

-- the lane of a name, and a number
abbrev pub asked_at : Plan → List ℕ → List ℕ → Option (ℕ × ℕ)
asked_at p lane number = both (named_from lane 0 p) (number_at number)

-- an answer about an instruction, if there is one
abbrev pub answer_by : Option (ℕ × ℕ) → (ℕ → ℕ → Answer) → Answer
answer_by (Some at) made = made at.0 at.1
answer_by None made = Bad

-- three words, and more
abbrev pub answer_at : Plan → List ℕ → List ℕ → List ℕ → List (List ℕ) → Answer
answer_at p verb lane number more =
    if bytes_eq verb (codes "failed") then answer_by (asked_at p lane number) (λ l n. Failed l n)
    else if bytes_eq verb (codes "done") && is_nil more
    then answer_by (asked_at p lane number) (λ l n. Done l n)
    else Bad

abbrev pub answer_words : Plan → List (List ℕ) → Answer
answer_words p [] = Nothing
answer_words p (verb ∷ []) = if bytes_eq verb (codes "stop") then Stop else Bad
answer_words p (verb ∷ lane ∷ []) = Bad
answer_words p (verb ∷ lane ∷ number ∷ more) = answer_at p verb lane number more

-- what the line says
unfoldable pub answer_of : Plan → List ℕ → Answer
answer_of p line = answer_words p (words line)
