use Rattle.std.proofs.Common.{subst}
use Rattle.std.proofs.lemmas.Result.{IfOk-weaker}
use Rattle.sat_rows.specs.Links.{AreBoth, IsExclusion}
use Rattle.sat_rows.proofs.LinkLaws.{exclusion}
use Rattle.sat_rows.proofs.exclusion.Exclusion.build.Goals as goal

pub returns : goal.returns
returns g c =
    let u = c.args.universe.now in
    let field = g.F.Field.field in
    let noted = c.in_ok-noted.noted.items in
    let sets = c.in_ok-sets.sets.items in
    IfOk-weaker c.exclusion_of.result (λ x. AreBoth c.names.result noted sets x)
    (IsExclusion u field)
    (λ x both. exclusion u field c.noted.new.self noted sets x c.in_ok-noted.ensures.noted
    c.in_ok-sets.ensures
    (subst (λ n. AreBoth n noted sets x) c.names.ensures.number both))
    c.exclusion_of.ensures
