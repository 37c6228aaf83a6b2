-- The four texts, cut one after the other.
use Rattle.std.proofs.Common.{◌≡◌, ℕ, List, ap, sym, ◌∙◌}
use Rattle.deb_text.specs.Cuts.{before, after}
use Rattle.plan_reader.specs.Input.{Texts, whole_lines, text_of_lines, is_divider, input_texts}
use Rattle.plan_reader.proofs.InputLaws.{joined-whole_lines}

abbrev four : List ℕ → List ℕ → List ℕ → List ℕ → Texts
four packages sources farm plan = record {
  packages = packages;
  sources = sources;
  farm = farm;
  plan = plan;
}

-- a text is what stands before the divider, and the next one begins behind it
pub cut_thrice : (input packages first sources second farm plan : List ℕ)
    → packages ≡ text_of_lines (before is_divider (whole_lines input))
    → whole_lines first ≡ after is_divider (whole_lines input)
    → sources ≡ text_of_lines (before is_divider (whole_lines first))
    → whole_lines second ≡ after is_divider (whole_lines first)
    → farm ≡ text_of_lines (before is_divider (whole_lines second))
    → whole_lines plan ≡ after is_divider (whole_lines second)
    → four packages sources farm plan ≡ input_texts input
cut_thrice input packages first sources second farm plan p r1 s r2 f r3 =
    let two : whole_lines second ≡ after is_divider (after is_divider (whole_lines input)) =
    r2 ∙ ap (after is_divider) r1 in
    let three : whole_lines plan
    ≡ after is_divider (after is_divider (after is_divider (whole_lines input))) =
    r3 ∙ ap (after is_divider) two in
    let is_s : sources ≡ text_of_lines (before is_divider (after is_divider (whole_lines input))) =
    s ∙ ap (λ (ls : List (List ℕ)). text_of_lines (before is_divider ls)) r1 in
    let is_f : farm
    ≡ text_of_lines (before is_divider (after is_divider (after is_divider (whole_lines input)))) =
    f ∙ ap (λ (ls : List (List ℕ)). text_of_lines (before is_divider ls)) two in
    let is_p : plan
    ≡ text_of_lines (after is_divider (after is_divider (after is_divider (whole_lines input)))) =
    sym (joined-whole_lines plan) ∙ ap text_of_lines three in
    λ j. four (p j) (is_s j) (is_f j) (is_p j)
