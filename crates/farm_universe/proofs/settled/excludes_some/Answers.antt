use Rattle.std.proofs.Common.{◌≡◌, ◌∙◌, ℕ, Bool, true, ◌&&◌, ◌||◌, List, Some, refl, sym, ap}
use Rattle.std.specs.List.{list_any}
use Rattle.deb_relation.specs.Relations.{Relations}
use Rattle.farm_universe.specs.Among.{is_another_member}
use Rattle.farm_universe.specs.BaseText.{Member, meets_any, excludes}
use Rattle.farm_universe.specs.declared.binary.PackageRelations.{PackageRelations}
use Rattle.farm_universe.proofs.AmongLaws.{any-either, by_name, by_item}
use Rattle.farm_universe.proofs.settled.excludes_some.Goals as goal

-- what is asked of the members for one field
abbrev asked : List Member → ℕ → Relations → Bool
asked ms n field = list_any (λ m. is_another_member (Some n) m && meets_any m field) ms

either : (ms : List Member) (m : Member)
    → (asked ms m.number m.binary.conflicts || asked ms m.number m.binary.breaks)
    ≡ list_any (excludes m) ms
either ms m =
    sym (any-either (is_another_member (Some m.number)) true (λ o. meets_any o m.binary.conflicts)
    (λ o. meets_any o m.binary.breaks) ms)

pub returns-then-some_meets_any : goal.returns-then-some_meets_any
returns-then-some_meets_any c =
    let ms = c.args.among.now in
    let m = c.args.member.now in
    let first =
    c.some_meets_any.ensures
    ∙ ap (λ n. asked ms n c.relations-relations.result.now.conflicts) c.number.ensures
    ∙ ap (λ (r : PackageRelations). asked ms m.number r.conflicts) c.relations-relations.ensures in
    by_name true (asked ms m.number m.binary.conflicts) c.some_meets_any.result
    (asked ms m.number m.binary.breaks) refl (sym first ∙ c.if-some_meets_any.true) first
    ∙ either ms m

pub returns-else-some_meets_any : goal.returns-else-some_meets_any
returns-else-some_meets_any c =
    let ms = c.args.among.now in
    let m = c.args.member.now in
    let first =
    c.some_meets_any.ensures
    ∙ ap (λ n. asked ms n c.relations-relations.result.now.conflicts) c.number.ensures
    ∙ ap (λ (r : PackageRelations). asked ms m.number r.conflicts) c.relations-relations.ensures in
    let second =
    c.some_meets_any-else-some_meets_any.ensures
    ∙ ap (λ n. asked ms n c.relations-relations.result.now.breaks) c.number.ensures
    ∙ ap (λ (r : PackageRelations). asked ms m.number r.breaks) c.relations-relations.ensures in
    by_item true (asked ms m.number m.binary.conflicts) c.some_meets_any-else-some_meets_any.result
    (asked ms m.number m.binary.breaks) refl (sym first ∙ c.if-some_meets_any.false) second
    ∙ either ms m
