use Rattle.std.proofs.Common.{◌≡◌, ◌+◌, ◌<◌, ◌-◌, ◌++◌, [], List, ℕ, length, get_or, drop, map, ap, subst, ◌∙◌, arith, Bor}
use Rattle.std.specs.Global.{Vec}
use Rattle.stage_builds.specs.Profiles.{sets_of_size}
use Rattle.stage_builds.proofs.SetLaws.{cut-at, sets-end, sets-more}
use Rattle.stage_builds.proofs.profile_sets.+push_sets.Goals as goal

pub returns-then-from-words : goal.returns-then-from-words
returns-then-from-words t c =
    let texts : List (Bor (List ℕ)) → List (List ℕ) = λ words. map (λ word. word.now) words in
    let view : List (Vec (Bor (List ℕ))) → List (List (List ℕ)) = λ sets. map (λ set. texts set.items) sets in
    let some : 0 < c.args.size = omega arith in
    sets-end {R = Bor (List ℕ)} (λ w. w.now) c.args.size (texts c.args.front.now) c.args.words.now
    c.args.from (view c.args.sets.now.items) some c.if-from-words.true

pub returns : goal.returns
returns t c =
    let texts : List (Bor (List ℕ)) → List (List ℕ) = λ words. map (λ word. word.now) words in
    let view : List (Vec (Bor (List ℕ))) → List (List (List ℕ)) = λ sets. map (λ set. texts set.items) sets in
    let size = c.args.size in
    let at = c.args.from in
    let words = c.args.words.now in
    let front = texts c.args.front.now in
    let first : Bor (List ℕ) = record { ref_ptr = (0, 0); now = [] } in
    let word = (get_or words at first).now in
    let rest = texts (drop (at + 1) words) in
    let old = view c.args.sets.now.items in
    let one = view c.push_sets.new.sets.items in
    let some : 0 < size = omega arith in
    let within : at < length words = omega arith in
    sets-more size front word rest old one (view c.push_sets-2.new.sets.items) some
    (subst (λ set. one ≡ old ++ map (λ others. set ++ others) (sets_of_size (size - 1) rest))
    (ap texts c.deref.ensures.value ∙ c.in_ok-longer.ensures) c.in_ok-push_sets.ensures)
    c.in_ok-push_sets-2.ensures
    ∙ ap (λ ws. old ++ map (λ set. front ++ set) (sets_of_size size ws))
    (cut-at {R = Bor (List ℕ)} (λ w. w.now) words at first within)
