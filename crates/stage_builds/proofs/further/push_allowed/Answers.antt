use Rattle.std.proofs.Common.{[], List, ℕ, ◌&&◌, ◌||◌, get_or, map, Bor}
use Rattle.std.proofs.lemmas.List.{get_or_default}
use Rattle.deb_profile.specs.Restriction.{is_among}
use Rattle.stage_builds.specs.Profiles.{allows}
use Rattle.stage_builds.proofs.FurtherLaws.{allowed-more}
use Rattle.stage_builds.proofs.further.push_allowed.Goals as goal

pub loop-word-preserved : goal.loop-word-preserved
loop-word-preserved c q =
    let words = c.args.words.now in
    let first : Bor (List ℕ) = record { ref_ptr = (0, 0); now = [] } in
    let here = get_or words c.loop-word.word-index first in
    let all =
    is_among (map (λ other. other.now) c.args.further.now.items) q || allows c.args.allowed.now q
    && is_among (map (λ other. other.now) words) q in
    allowed-more {R = Bor (List ℕ)} (λ other. other.now) words c.loop-word.word-index
    here q
    (is_among (map (λ other. other.now) c.push_new.new.further.items) q)
    (is_among (map (λ other. other.now) c.loop-word.further.items) q)
    (allows c.args.allowed.now q) all c.loop-word-test.true
    (get_or_default words c.loop-word.word-index first here c.loop-word-test.true) (c.in_ok-push_new.ensures q)
    (c.loop-word.invariant q)
