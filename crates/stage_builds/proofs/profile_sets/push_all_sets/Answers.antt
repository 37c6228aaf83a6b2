use Rattle.std.proofs.Common.{List, ℕ, map, Bor}
use Rattle.std.specs.Global.{Vec}
use Rattle.stage_builds.proofs.SetLaws.{below-more}
use Rattle.stage_builds.proofs.profile_sets.push_all_sets.Goals as goal

pub loop-size-preserved : goal.loop-size-preserved
loop-size-preserved c =
    let texts : List (Bor (List ℕ)) → List (List ℕ) = λ words. map (λ word. word.now) words in
    let view : List (Vec (Bor (List ℕ))) → List (List (List ℕ)) = λ sets. map (λ set. texts set.items) sets in
    below-more c.loop-size.size (texts c.args.words.now) (view c.args.sets.now.items)
    (view c.loop-size.sets.items) (view c.push_sets.new.sets.items) c.loop-size.invariant
    c.in_ok-push_sets.ensures
