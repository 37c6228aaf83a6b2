use Rattle.std.proofs.Common.{◌+◌, ◌≤◌, length, sym, ap, ◌∙◌, arith}
use Rattle.farm_model.specs.Traps.{first_trap}
use Rattle.farm_model.proofs.TrapLaws.{within-limit}
use Rattle.plan_model.specs.Common.{may_be_configured, May}
use Rattle.may_rows.specs.Words.{Words, may_of, may_spend}
use Rattle.may_rows.specs.Configures.{slots_after, risks_before, risks_after}
use Rattle.may_rows.proofs.MemberSlots.{first_trap-front, first_trap-back}
use Rattle.may_rows.proofs.Configured.{configure_parts}
use Rattle.may_rows.proofs.Writes.{words_spent}
use Rattle.may_rows.proofs.configure.configure.Goals as goal

pub returns-in-Some-clause-answer : goal.returns-in-Some-clause-answer
returns-in-Some-clause-answer c known there =
    let u = c.args.of.universe.now in
    let m = may_of c.args.state.now in
    let ms = c.args.members.now in
    ap first_trap (configure_parts u ms m c.args.of.lane.now)
    ∙ first_trap-front (risks_before u c.args.of.lane.now m ms)
    (risks_after u (slots_after may_be_configured m ms) ms) c.in-Some.trap (sym c.in-Some.ensures)

pub returns-in-Some-risk_after-clause-answer : goal.returns-in-Some-risk_after-clause-answer
returns-in-Some-risk_after-clause-answer c known there =
    let after = c.configure_members.ensures in
    let u = c.args.of.universe.now in
    let m = may_of c.args.state.now in
    let ms = c.args.members.now in
    ap first_trap (configure_parts u ms m c.args.of.lane.now)
    ∙ first_trap-back (risks_before u c.args.of.lane.now m ms)
    (risks_after u (slots_after may_be_configured m ms) ms) (sym c.in_default.ensures)
    ∙ ap (λ k. first_trap (risks_after u k ms)) (sym after.map)
    ∙ sym c.in-Some-risk_after.ensures

pub spend-requires : goal.spend-requires
spend-requires c =
    let after = c.configure_members.ensures in
    let paid : c.args.state.now.cost + length c.args.members.now ≤ c.args.of.lane.now.budget =
    within-limit _ _ _ _ (sym c.in_default.ensures) in
    let same = ap (λ (k : May). k.cost) after.map in
    omega (arith, paid, same, c.requires.of_lane.small)

pub returns-clause-answer : goal.returns-clause-answer
returns-clause-answer c known there =
    let after = c.configure_members.ensures in
    let u = c.args.of.universe.now in
    let m = may_of c.args.state.now in
    let ms = c.args.members.now in (
      ap first_trap (configure_parts u ms m c.args.of.lane.now)
          ∙ first_trap-back (risks_before u c.args.of.lane.now m ms)
          (risks_after u (slots_after may_be_configured m ms) ms) (sym c.in_default.ensures)
          ∙ ap (λ k. first_trap (risks_after u k ms)) (sym after.map)
          ∙ sym c.in_default-risk_after.ensures,
      sym (ap may_of c.spend.ensures ∙ ap (λ k. may_spend k (length ms)) after.map),
    )

pub returns-clause-of_lane : goal.returns-clause-of_lane
returns-clause-of_lane c =
    let after = c.configure_members.ensures in
    let paid : c.args.state.now.cost + length c.args.members.now ≤ c.args.of.lane.now.budget =
    within-limit _ _ _ _ (sym c.in_default.ensures) in
    let same = ap (λ (k : May). k.cost) after.map in
    let spent = ap (λ (w : Words). w.cost) c.spend.ensures in
    record {
      based = c.requires.of_lane.based;
      small = c.requires.of_lane.small;
      words = words_spent c.args.of.universe.now c.configure_members.new.state c.spend.new.self
          (length c.args.members.now) c.spend.ensures after.words;
      within = omega (arith, paid, same, spent);
    }
