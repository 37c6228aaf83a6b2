-- The search for the line that divides.
use Rattle.std.proofs.Common.{◌≡◌, ℕ, ◌-◌, ◌≤◌, true, false, List, [], ◌∷◌, ◌++◌, length, take, refl, ap, sym, ◌∙◌, arith, append_assoc}
use Rattle.std.proofs.lemmas.List.{take_at, length-append, append-nil}
use Rattle.deb_text.specs.Cuts.{before, after}
use Rattle.plan_reader.specs.Input.{whole_lines, text_of_lines, is_divider}
use Rattle.plan_reader.proofs.InputLaws.{whole_lines-nil}

-- what of the input stands before the rest
abbrev pub front : List ℕ → List ℕ → List ℕ
front input rest = take (length input - length rest) input

-- no line before the rest divides
pub record IsCutSoFar (input rest : List ℕ) : Type 0 where
  pub within : length rest ≤ length input
  pub both : front input rest ++ rest ≡ input
  pub text : front input rest ++ text_of_lines (before is_divider (whole_lines rest))
      ≡ text_of_lines (before is_divider (whole_lines input))
  pub behind : after is_divider (whole_lines rest) ≡ after is_divider (whole_lines input)

front-append : (xs ys : List ℕ) → front (xs ++ ys) ys ≡ xs
front-append xs ys =
    take_at xs ys (length (xs ++ ys) - length ys) (omega (arith, length-append xs ys))

front-more : (input line rest : List ℕ) (start : List ℕ) → start ++ (line ++ rest) ≡ input
    → front input rest ≡ start ++ line
front-more input line rest start e =
    let split : (start ++ line) ++ rest ≡ input = append_assoc start line rest ∙ e in
    ap (λ (text : List ℕ). front text rest) (sym split) ∙ front-append (start ++ line) rest

pub starts : (input : List ℕ) → IsCutSoFar input input
starts input = let none : front input input ≡ [] = front-append [] input in
    record { within = omega arith; both = rw none refl; text = rw none refl; behind = refl }

pub goes : (input rest line later : List ℕ) → rest ≡ line ++ later
    → whole_lines rest ≡ line ∷ whole_lines later → is_divider line ≡ false
    → IsCutSoFar input rest → IsCutSoFar input later
goes input rest line later e lines other so_far =
    let start = front input rest in
    let split : start ++ (line ++ later) ≡ input =
    ap (λ (r : List ℕ). start ++ r) (sym e) ∙ so_far.both in
    let more = front-more input line later start split in
    let kept : before is_divider (whole_lines rest) ≡ line ∷ before is_divider (whole_lines later) =
    rw (lines, other) refl in
    let rests : after is_divider (whole_lines rest) ≡ after is_divider (whole_lines later) =
    rw (lines, other) refl in
    record {
      within = omega (arith, so_far.within, length-append line later, ap length e);
      both = rw (more, append_assoc start line later) split;
      text =
          rw more
          (append_assoc start line (text_of_lines (before is_divider (whole_lines later)))
          ∙ ap (λ (ls : List (List ℕ)). start ++ text_of_lines ls) (sym kept) ∙ so_far.text);
      behind = sym rests ∙ so_far.behind;
    }

-- at a line that divides
pub found : (input rest line later : List ℕ) → whole_lines rest ≡ line ∷ whole_lines later
    → is_divider line ≡ true → IsCutSoFar input rest
    → (front input rest ≡ text_of_lines (before is_divider (whole_lines input)))
    × (whole_lines later ≡ after is_divider (whole_lines input))
found input rest line later lines is so_far =
    let none : before is_divider (whole_lines rest) ≡ [] = rw (lines, is) refl in
    let behind : after is_divider (whole_lines rest) ≡ whole_lines later = rw (lines, is) refl in (
      sym (append-nil (front input rest))
          ∙ ap (λ (ls : List (List ℕ)). front input rest ++ text_of_lines ls) (sym none)
          ∙ so_far.text,
      sym behind ∙ so_far.behind,
    )

-- where no line divides
pub ends : (input rest : List ℕ) → rest ≡ [] → IsCutSoFar input rest
    → (input ≡ text_of_lines (before is_divider (whole_lines input)))
    × (whole_lines rest ≡ after is_divider (whole_lines input))
ends input rest e so_far =
    let lines : whole_lines rest ≡ [] = rw e whole_lines-nil in
    let all : front input rest ≡ input =
    sym (append-nil (front input rest))
    ∙ ap (λ (r : List ℕ). front input rest ++ r) (sym e) ∙ so_far.both in (
      sym all ∙ sym (append-nil (front input rest))
          ∙ ap (λ (ls : List (List ℕ)). front input rest ++ text_of_lines (before is_divider ls))
          (sym lines)
          ∙ so_far.text,
      lines ∙ ap (after is_divider) (sym lines) ∙ so_far.behind,
    )
