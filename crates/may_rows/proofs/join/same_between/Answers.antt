use Rattle.std.proofs.Common.{◌≡◌, ℕ, ◌+◌, ◌-◌, ◌<◌, ◌≤◌, List, get_or, take, drop, sym, ap, ◌∙◌, arith}
use Rattle.std.proofs.lemmas.List.{get_or-take, get_or-drop}
use Rattle.may_rows.proofs.join.same_between.Goals as goal

-- a word of a part is one of the list
between : (words others : List ℕ) (from to n : ℕ)
    → take (to - from) (drop from words) ≡ take (to - from) (drop from others) → from ≤ n → n < to
    → get_or words n 0 ≡ get_or others n 0
between words others from to n same low high =
    let whole : from + (n - from) ≡ n = omega arith in
    let inside : n - from < to - from = omega arith in
    let at : (ws : List ℕ) → get_or (take (to - from) (drop from ws)) (n - from) 0 ≡ get_or ws n 0 =
    λ ws. get_or-take (to - from) (drop from ws) (n - from) 0 inside
    ∙ (get_or-drop from ws (n - from) 0 ∙ ap (λ j. get_or ws j 0) whole) in
    sym (at words) ∙ ap (λ ws. get_or ws (n - from) 0) same ∙ at others

pub returns : goal.returns
returns c is n low high = between c.args.words.now c.args.others.now c.args.from c.args.to n
    (c.same.ensures.equal.0 is) low high
