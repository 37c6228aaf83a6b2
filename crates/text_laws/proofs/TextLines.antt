-- Lines are read again from their text.
use Rattle.std.proofs.Common.{◌≡◌, ℕ, ◌+◌, Bool, true, not, ◌&&◌, List, [], ◌∷◌, ◌++◌, length, drop, ap, ◌∙◌, append_assoc, arith}
use Rattle.std.proofs.lemmas.Bool.{and_parts, not-true}
use Rattle.std.specs.List.{list_all, enumerate_from}
use Rattle.deb_text.proofs.AgainLaws.{is_inner, plain-again}
use Rattle.deb_text.proofs.LineLaws.{lines_kept-ends, lines_of-nil}
use Rattle.deb_text.specs.Common.{is_skipped, plain_lines, text_of}

-- a line that holds no newline, and that is not skipped
abbrev pub is_kept : List ℕ → Bool
is_kept line = list_all is_inner line && not (is_skipped line)

pub lines-again : (ls : List (List ℕ)) (n : ℕ) → list_all is_kept ls ≡ true
    → plain_lines n (text_of ls) ≡ enumerate_from n ls
lines-again [] n are = lines_kept-ends (λ line. not (is_skipped line)) n [] lines_of-nil
lines-again (l ∷ ls) n are =
    let all = and_parts (is_kept l) (list_all is_kept ls) are in
    let kept = and_parts (list_all is_inner l) (not (is_skipped l)) all.0 in
    ap (plain_lines n) (append_assoc l (10 ∷ []) (text_of ls))
    ∙ plain-again n l (text_of ls) kept.0 (not-true (is_skipped l) kept.1)
    ∙ ap (λ rest. (n, l) ∷ rest) (lines-again ls (n + 1) all.1)

-- what is left behind the first lines
pub drop-lines : (ls more : List (List ℕ)) (n : ℕ)
    → drop (length ls) (enumerate_from n (ls ++ more)) ≡ enumerate_from (n + length ls) more
drop-lines [] more n =
    let same : n ≡ n + 0 = omega arith in ap (λ m. enumerate_from m more) same
drop-lines (l ∷ ls) more n =
    let same : n + 1 + length ls ≡ n + length (l ∷ ls) = omega arith in
    drop-lines ls more (n + 1) ∙ ap (λ m. enumerate_from m more) same
