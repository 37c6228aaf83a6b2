use Rattle.std.proofs.Common.{◌≡◌, ℕ, ◌&&◌, ◌||◌, List, drop, map}
use Rattle.deb_profile.specs.Restriction.{is_among}
use Rattle.stage_builds.specs.Profiles.{allows}
use Rattle.stage_builds.proofs.further.push_allowed.Given as goal

abbrev pub invariant-loop-word : goal.invariant-loop-word
invariant-loop-word l =
    (profile : List ℕ)
    → (is_among (map (λ other. other.now) l.further.items) profile
    || allows l.allowed profile
    && is_among (map (λ other. other.now) (drop l.word-index l.words)) profile)
    ≡ (is_among (map (λ other. other.now) l.fn.further.items) profile
    || allows l.allowed profile && is_among (map (λ other. other.now) l.words) profile)
