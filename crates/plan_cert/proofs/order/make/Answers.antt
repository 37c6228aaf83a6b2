use Rattle.std.proofs.Common.{◌≡◌, true, Some, length, sym, ap, subst, ◌∙◌, arith}
use Rattle.std.proofs.lemmas.Option.{slice_get_within}
use Rattle.farm_model.specs.Common.{Universe, satisfies_entry}
use Rattle.farm_universe.proofs.PlaceLaws.{named}
use Rattle.plan_model.specs.Plan.{lane, instruction_at}
use Rattle.plan_model.specs.declared.instructions.Instruction.TheVariants.{Wait}
use Rattle.sat_rows.specs.Rows.{IsRowOf}
use Rattle.known_rows.proofs.ReadAt.{read_at}
use Rattle.wait_order.proofs.Passes.{hit_passes}
use Rattle.plan_cert.specs.declared.events.Event.{Event}
use Rattle.plan_cert.specs.Events.{order_item_of, IsEvent, IsMade}
use Rattle.plan_cert.proofs.EventLaws.{made-pass, made-give}
use Rattle.plan_cert.proofs.order.make.Goals as goal

pub set_bit-requires : goal.set_bit-requires
set_bit-requires c =
    let known : IsEvent c.args.claim.universe.now c.args.claim.plan.now.lanes c.args.number
    (Event.Give c.in-Give.output) =
    subst (IsEvent c.args.claim.universe.now c.args.claim.plan.now.lanes c.args.number) c.in-Give.is
    c.requires.event in
    let there = named c.args.claim.universe.now c.in-Give.output.name c.in-Give.output.bit known in (
      omega arith,
      (
        omega (arith, there, c.requires.archive),
        omega (arith, known, c.requires.sound.few c.in-Give.output.name),
      ),
    )

pub returns-in_ok-row-in-Pass : goal.returns-in_ok-row-in-Pass
returns-in_ok-row-in-Pass c =
    let u = c.args.claim.universe.now in
    let p = c.args.claim.plan.now.lanes in
    let l = c.args.number in
    let place = c.in-Pass.place in
    let e = c.in-Some.entry.now in
    let is_wait : IsEvent u p l (Event.Pass place) =
    subst (IsEvent u p l) c.in-Pass.is c.requires.event in
    let xs = c.instructions.ensures ∙ ap (λ of. of.instructions) c.lane.ensures in
    let below = slice_get_within (lane p l).instructions place (Wait is_wait.0) is_wait.1 in
    let at : instruction_at p l place ≡ Some (Wait e) =
    read_at p l c.instructions.result.now place c.index-instructions-place.result xs
    (omega (arith, below, ap length xs)) c.index-instructions-place.is
    ∙ ap Some c.in-Some.ensures.some in
    let row : IsRowOf u (satisfies_entry u e) c.in_ok-row-in-Pass.row =
    subst (λ (w : Universe). IsRowOf w (satisfies_entry w e) c.in_ok-row-in-Pass.row)
    c.args.claim.tables_are c.in_ok-row-in-Pass.ensures in
    subst (λ (x : Event). IsMade u l (order_item_of p l x) c.args.archive.now c.args.archive.now
    c.hits.result)
    (sym c.in-Pass.is)
    (made-pass u p l place e c.args.archive.now c.hits.result at c.requires.archive
    (λ test is. hit_passes u e test c.args.archive.now c.in_ok-row-in-Pass.row c.hits.result
    c.hits.ensures.set is row))

pub returns-in_ok-set_bit-in-Give : goal.returns-in_ok-set_bit-in-Give
returns-in_ok-set_bit-in-Give c =
    let u = c.args.claim.universe.now in
    let p = c.args.claim.plan.now.lanes in
    let l = c.args.number in
    let known : IsEvent u p l (Event.Give c.in-Give.output) =
    subst (IsEvent u p l) c.in-Give.is c.requires.event in
    subst (λ (x : Event). IsMade u l (order_item_of p l x) c.args.archive.now c.set_bit.new.self
    true)
    (sym c.in-Give.is)
    (made-give u l c.in-Give.output c.args.archive.now c.set_bit.new.self known
    c.in_ok-set_bit-in-Give.ensures.set (c.set_bit.ensures.len ∙ c.requires.archive))
