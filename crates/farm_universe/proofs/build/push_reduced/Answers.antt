use Rattle.std.proofs.Common.{◌-◌, ◌++◌, List, arith, ap, ◌∙◌}
use Rattle.deb_profile.specs.Reduction.{reduced}
use Rattle.deb_relation.specs.Relations.{Entry}
use Rattle.farm_universe.specs.declared.limits.TheConstants.{KEPT_ENTRIES}
use Rattle.farm_universe.proofs.FirstLaws.{first-behind}
use Rattle.farm_universe.proofs.build.push_reduced.Goals as goal

pub returns-clause-entries : goal.returns-clause-entries
returns-clause-entries c =
    let given : List Entry = c.args.entries.now.items in
    c.in_ok-append.ensures.items
    ∙ ap (λ more. given ++ more) (c.into_entries.ensures ∙ c.in_ok-left.ensures.left)
    ∙ first-behind (KEPT_ENTRIES - c.len.result) given
    (reduced c.args.names.now c.args.profiles.now c.args.field.now)
    (omega (arith, c.len.ensures, c.requires))
