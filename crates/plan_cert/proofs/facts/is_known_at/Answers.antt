use Rattle.std.proofs.Common.{◌≡◌, length, Some, ap, subst, ◌∙◌, arith}
use Rattle.cert_text.specs.Certificates.{IsNewRow}
use Rattle.farm_model.specs.Universe.{Universe}
use Rattle.plan_model.specs.Plan.{instruction_at}
use Rattle.plan_model.specs.declared.instructions.Instruction.TheVariants.{Publish}
use Rattle.plan_cert.specs.PlaceRows.{place_rows_of}
use Rattle.known_rows.proofs.ReadAt.{read_at}
use Rattle.plan_cert.specs.Stated.{in_row}
use Rattle.plan_cert.proofs.FactLaws.{known_apart, known_here}
use Rattle.plan_cert.proofs.PlaceLaws.{rows-hold}
use Rattle.plan_cert.proofs.StatedLaws.{new-known, new-row}
use Rattle.plan_cert.proofs.facts.is_known_at.Goals as goal

pub returns : goal.returns
returns c =
    let u = c.args.question.claim.universe.now in
    let p = c.args.question.claim.plan.now.lanes in
    let known = c.args.question.claim.known.now in
    let rows = place_rows_of known in
    let sources = in_row c.args.question.sources.now in
    let new = in_row c.args.question.new.now in
    let before = c.listed-before.result.now in
    let j = c.args.number in
    let k = c.args.place in
    let r = c.in-Some.recipe in
    let xs = c.instructions.ensures ∙ ap (λ of. of.instructions) c.lane.ensures in
    let at : instruction_at p j k ≡ Some (Publish r) =
    read_at p j c.instructions.result.now k c.index-instructions-place.result xs
    (omega (arith, c.requires.place, ap length xs)) c.index-instructions-place.is
    ∙ ap Some c.in-Some.ensures.some in
    let fresh : IsNewRow u before =
    subst (λ (w : Universe). IsNewRow w before) c.args.question.claim.of_universe
    c.listed-before.ensures.new in
    known_here u p rows sources new j k r c.in_ok-yes.yes at
    (known_apart u sources c.args.question.new.now (in_row before) (rows j k) r c.args.question.new_is
    (λ v. rows-hold u known j k before c.args.question.claim.of_universe
    c.listed-before.ensures.row v)
    c.in_ok-yes.yes
    (c.in_ok-yes.ensures (in_row before) (new-row u before fresh) (new-known u before fresh)))
