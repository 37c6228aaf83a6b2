-- Names that are put behind others.
use Rattle.std.proofs.Common.{◌≡◌, ℕ, ◌+◌, ◌-◌, ◌<◌, List, [], ◌∷◌, ◌++◌, length, get_or, take, drop, map, Some, refl, sym, ap, ◌∙◌, append_assoc, arith}
use Rattle.std.specs.Global.{Vec}
use Rattle.std.specs.List.{flat_map}
use Rattle.std.proofs.lemmas.List.{take_more, take_rest, get_or-map, length-map}
use Rattle.std.proofs.lemmas.List.Concat.{flat_map-append}
use Rattle.deb_text.specs.Lists.{lists}
use Rattle.deb_text.proofs.ListLaws.{lists-push}
use Rattle.debian_index.specs.Names.{any, joined, both, spread, two_of, three_of, four_of, wildcards_of, with_system, names_of}
use Rattle.debian_index.specs.Tuples.{Parts, tuple_at}

pub spread-nil : (part : List ℕ) → spread part [] ≡ []
unfolding spread
spread-nil part = refl

spread-at : (part : List ℕ) (tails : List (List ℕ)) (i : ℕ) → i < length tails
    → spread part (take (i + 1) tails)
    ≡ (spread part (take i tails) ++ joined part (get_or tails i []) ∷ [])
    ++ joined any (get_or tails i []) ∷ []
unfolding spread
spread-at part tails i lt =
    ap (flat_map (both part)) (take_more tails i [] lt)
    ∙ flat_map-append (both part) (take i tails) (get_or tails i [] ∷ [])
    ∙ sym (append_assoc (flat_map (both part) (take i tails)) (joined part (get_or tails i []) ∷ [])
    (joined any (get_or tails i []) ∷ []))

item-at : (tails : List (Vec ℕ)) (i : ℕ) (tail : Vec ℕ) → i < length tails
    → tail ≡ get_or tails i tail → get_or (lists tails) i [] ≡ tail.items
item-at tails i tail lt is =
    get_or-map (λ (v : Vec ℕ). v.items) tails i tail [] lt ∙ ap (λ (v : Vec ℕ). v.items) (sym is)

-- two names more
pub spread-more : (part : List ℕ) (tails names : List (Vec ℕ)) (i : ℕ) (tail first second : Vec ℕ)
    → i < length tails → tail ≡ get_or tails i tail
    → lists names ≡ spread part (take i (lists tails))
    → first.items ≡ joined part tail.items → second.items ≡ joined any tail.items
    → lists ((names ++ first ∷ []) ++ second ∷ []) ≡ spread part (take (i + 1) (lists tails))
spread-more part tails names i tail first second lt is old one other =
    let here = item-at tails i tail lt is in
    let long : i < length (lists tails) =
    omega (arith, length-map tails (λ (v : Vec ℕ). v.items)) in
    lists-push (names ++ first ∷ []) second
    ∙ ap (λ (ls : List (List ℕ)). ls ++ second.items ∷ []) (lists-push names first)
    ∙ ap (λ (ls : List (List ℕ)). (ls ++ first.items ∷ []) ++ second.items ∷ []) old
    ∙ ap (λ (l : List ℕ). (spread part (take i (lists tails)) ++ l ∷ []) ++ second.items ∷ [])
    (one ∙ ap (joined part) (sym here))
    ∙ ap (λ (l : List ℕ). (spread part (take i (lists tails))
    ++ joined part (get_or (lists tails) i []) ∷ []) ++ l ∷ []) (other ∙ ap (joined any) (sym here))
    ∙ sym (spread-at part (lists tails) i long)

-- one name more
pub all-more : (old names others : List (Vec ℕ)) (i : ℕ) (other new : Vec ℕ)
    → i < length others → other ≡ get_or others i other
    → lists names ≡ lists old ++ take i (lists others) → new.items ≡ other.items
    → lists (names ++ new ∷ []) ≡ lists old ++ take (i + 1) (lists others)
all-more old names others i other new lt is before same =
    let here = item-at others i other lt is in
    let long : i < length (lists others) =
    omega (arith, length-map others (λ (v : Vec ℕ). v.items)) in
    lists-push names new
    ∙ ap (λ (ls : List (List ℕ)). ls ++ new.items ∷ []) before
    ∙ ap (λ (l : List ℕ). (lists old ++ take i (lists others)) ++ l ∷ []) (same ∙ sym here)
    ∙ append_assoc (lists old) (take i (lists others)) (get_or (lists others) i [] ∷ [])
    ∙ ap (λ (ls : List (List ℕ)). lists old ++ ls) (sym (take_more (lists others) i [] long))

pub all_but_first : (others : List (Vec ℕ))
    → lists (take (length others - 1) (drop 1 others)) ≡ drop 1 (lists others)
all_but_first [] = refl
all_but_first (v ∷ vs) = ap lists (take_rest (v ∷ vs) 1)

pub wildcards-put : (tuple : Parts) (ends two three four n0 n1 n2 n3 : List (List ℕ))
    → ends ≡ tuple.processor ∷ any ∷ [] → two ≡ spread tuple.system ends
    → three ≡ spread tuple.library two → four ≡ spread tuple.abi three
    → n1 ≡ n0 ++ drop 1 two → n2 ≡ n1 ++ drop 1 three → n3 ≡ n2 ++ drop 1 four
    → n3 ≡ n0 ++ wildcards_of (Some tuple)
wildcards-put tuple ends two three four n0 n1 n2 n3 e2 e3 e4 e5 f1 f2 f3 =
    let second : two ≡ two_of tuple = e3 ∙ ap (spread tuple.system) e2 in
    let third : three ≡ three_of tuple = e4 ∙ ap (spread tuple.library) second in
    let fourth : four ≡ four_of tuple = e5 ∙ ap (spread tuple.abi) third in
    f3 ∙ ap (λ (ls : List (List ℕ)). ls ++ drop 1 four) (f2 ∙ ap (λ ls. ls ++ drop 1 three) f1)
    ∙ ap (λ (ls : List (List ℕ)). ls ++ drop 1 four) (append_assoc n0 (drop 1 two) (drop 1 three))
    ∙ append_assoc n0 (drop 1 two ++ drop 1 three) (drop 1 four)
    ∙ ap (λ ls. n0 ++ ((drop 1 ls ++ drop 1 three) ++ drop 1 four)) second
    ∙ ap (λ ls. n0 ++ ((drop 1 (two_of tuple) ++ drop 1 ls) ++ drop 1 four)) third
    ∙ ap (λ ls. n0 ++ ((drop 1 (two_of tuple) ++ drop 1 (three_of tuple)) ++ drop 1 ls)) fourth

pub names-put : (name : List ℕ) (n0 n1 n2 : List (List ℕ)) → n0 ≡ name ∷ any ∷ []
    → n1 ≡ n0 ++ with_system name → n2 ≡ n1 ++ wildcards_of (tuple_at name) → n2 ≡ names_of name
unfolding names_of
names-put name n0 n1 n2 e0 e1 e2 =
    e2 ∙ ap (λ ls. ls ++ wildcards_of (tuple_at name)) (e1 ∙ ap (λ ls. ls ++ with_system name) e0)
