use Rattle.std.proofs.Common.{rules, arith, ◌≡◌, true, not, map, sym, ap, ◌∙◌, Bor, List, ℕ}
use Rattle.std.proofs.lemmas.Bool.{and_parts, not-false}
use Rattle.deb_profile.specs.Restriction.{is_among}
use Rattle.stage_builds.specs.Profiles.{allows}
use Rattle.stage_builds.proofs.FurtherLaws.{grows}
use Rattle.stage_builds.proofs.further.push_new.Goals as goal

pub returns : goal.returns
returns c q =
    let allowed = allows c.args.allowed.now in
    let there = c.args.further.now.items in
    let is_new : c.is_new.result ≡ true =
    first_of (cc, grind arith, search (rules, not-false)) in
    let parts = and_parts (allowed c.args.word.now)
    (not (is_among (map (λ other. other.now) c.deref.result.now) c.args.word.now))
    (sym c.is_new.ensures ∙ is_new) in
    ap (λ (ws : List (Bor (List ℕ))). is_among (map (λ other. other.now) ws) q)
    c.in_ok-push.ensures.items
    ∙ grows {R = Bor (List ℕ)} (λ other. other.now) allowed there c.args.word q parts.0
