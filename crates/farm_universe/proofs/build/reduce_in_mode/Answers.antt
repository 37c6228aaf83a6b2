use Rattle.std.proofs.Common.{◌∙◌}
use Rattle.farm_universe.specs.RecipeText.{in_mode}
use Rattle.farm_universe.proofs.FirstLaws.{first-few, first-one, first-more, first-three}
use Rattle.farm_universe.proofs.build.reduce_in_mode.Goals as goal

pub push_reduced-requires-in-Full : goal.push_reduced-requires-in-Full
push_reduced-requires-in-Full c = rw c.in_ok-push_reduced.ensures.entries (first-few _)

pub push_reduced-requires-in-Full-2 : goal.push_reduced-requires-in-Full-2
push_reduced-requires-in-Full-2 c = rw c.in_ok-push_reduced-in-Full.ensures.entries (first-few _)

pub push_reduced-requires-in-Arch : goal.push_reduced-requires-in-Arch
push_reduced-requires-in-Arch c = rw c.in_ok-push_reduced.ensures.entries (first-few _)

pub push_reduced-requires-in-Indep : goal.push_reduced-requires-in-Indep
push_reduced-requires-in-Indep c = rw c.in_ok-push_reduced.ensures.entries (first-few _)

pub returns-in_ok-push_reduced-in-Full-2-clause-left :
    goal.returns-in_ok-push_reduced-in-Full-2-clause-left
unfolding in_mode
returns-in_ok-push_reduced-in-Full-2-clause-left c =
    rw c.in-Full.is
    (c.from_entries.ensures
    ∙ first-three _ _ _ c.new-entries.ensures.items c.in_ok-push_reduced.ensures.entries
    c.in_ok-push_reduced-in-Full.ensures.entries c.in_ok-push_reduced-in-Full-2.ensures.entries)

pub returns-in_ok-push_reduced-in-Arch-clause-left :
    goal.returns-in_ok-push_reduced-in-Arch-clause-left
unfolding in_mode
returns-in_ok-push_reduced-in-Arch-clause-left c =
    rw c.in-Arch.is
    (c.from_entries-in-Arch.ensures
    ∙ first-more _ _ _ _
    (first-one _ _ _ c.new-entries.ensures.items c.in_ok-push_reduced.ensures.entries)
    c.in_ok-push_reduced-in-Arch.ensures.entries)

pub returns-in_ok-push_reduced-in-Indep-clause-left :
    goal.returns-in_ok-push_reduced-in-Indep-clause-left
unfolding in_mode
returns-in_ok-push_reduced-in-Indep-clause-left c =
    rw c.in-Indep.is
    (c.from_entries-in-Indep.ensures
    ∙ first-more _ _ _ _
    (first-one _ _ _ c.new-entries.ensures.items c.in_ok-push_reduced.ensures.entries)
    c.in_ok-push_reduced-in-Indep.ensures.entries)
