use Rattle.std.proofs.Common.{Bool, ◌||◌, ◌&&◌, map, ap, ap₂, ◌∙◌, Bor, List, ℕ}
use Rattle.deb_profile.specs.Restriction.{is_among}
use Rattle.stage_builds.specs.Profiles.{allows}
use Rattle.stage_builds.proofs.FurtherLaws.{all-allowed, allowed-named}
use Rattle.stage_builds.proofs.further.further_profiles.Goals as goal

pub returns : goal.returns
returns c q =
    let allowed = c.args.allowed.now in
    let among : List (Bor (List ℕ)) → Bool = λ ws. is_among (map (λ w. w.now) ws) q in
    let is_allowed = allows allowed q in
    let first = among c.push_allowed.new.further.items in
    all-allowed {R = Bor (List ℕ)} (λ w. w.now) (allows allowed) allowed.named.now
    c.in_ok-in_order.field-0.items q first (among c.push_allowed-2.new.further.items)
    (among c.in_ok-words_of.field-0.items) c.in_ok-in_order.ensures
    (allowed-named allowed.stages.now allowed.base.now allowed.own.now
    (map (λ w. w.now) allowed.named.now) q)
    (c.in_ok-push_allowed.ensures q
    ∙ ap₂ (λ a b. a || is_allowed && b) (ap among c.new-further.ensures.items)
    (ap among c.deref.ensures.value))
    (c.in_ok-push_allowed-2.ensures q
    ∙ ap (λ b. first || is_allowed && b) (ap among c.deref-2.ensures.value))
