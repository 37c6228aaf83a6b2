use Rattle.std.proofs.Common.{◌≤◌, ◌++◌, ◌∷◌, [], List, ℕ, length, drop, map, ap, ◌∙◌, arith, Bor}
use Rattle.std.specs.Global.{Vec}
use Rattle.std.proofs.lemmas.List.{drop_all, map_push}
use Rattle.stage_builds.proofs.SetLaws.{few-all}
use Rattle.stage_builds.proofs.profile_sets.push_few_sets.Goals as goal

pub returns : goal.returns
returns c =
    let texts : List (Bor (List ℕ)) → List (List ℕ) = λ words. map (λ word. word.now) words in
    let text_of : Vec (Bor (List ℕ)) → List (List ℕ) = λ set. texts set.items in
    let view : List (Vec (Bor (List ℕ))) → List (List (List ℕ)) = λ sets. map text_of sets in
    let words = c.args.words.now in
    let past : length words ≤ c.loop-word.word-index = omega (arith, c.loop-word-test.false) in
    let old = view c.args.sets.now.items in
    let so_far = view c.loop-word.sets.items in
    few-all {R = Bor (List ℕ)} (λ word. word.now) words (drop c.loop-word.word-index words)
    old (view c.push.new.self.items) so_far (view c.push-2.new.self.items)
    (drop_all c.loop-word.word-index words past)
    (ap view c.in_ok-push.ensures.items
    ∙ map_push text_of c.args.sets.now.items c.new.result
    ∙ ap (λ set. old ++ set ∷ []) (ap texts c.new.ensures.items))
    c.loop-word.invariant
    (ap view c.in_ok-push-3.ensures.items
    ∙ map_push text_of c.loop-word.sets.items c.in_ok-from_slice.field-0
    ∙ ap (λ set. so_far ++ set ∷ []) (ap texts c.in_ok-from_slice.ensures.items))
