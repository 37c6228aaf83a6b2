use Rattle.std.proofs.Common.{◌+◌, ◌≤◌, sym, ap, ◌∙◌, arith}
use Rattle.clause_kernel.specs.Rows.{word_has}
use Rattle.farm_model.proofs.TrapLaws.{within-limit}
use Rattle.plan_model.specs.Common.{MayAbsent, May, may_use, greatest_cost}
use Rattle.may_rows.specs.Words.{may_of, slot_of, with_slot, may_spend}
use Rattle.may_rows.proofs.Writes.{used_small}
use Rattle.may_rows.proofs.Unpacked.{risk-is, then-is, last-word, same_risks}
use Rattle.may_rows.proofs.Writes.{words_spent}
use Rattle.may_rows.proofs.unpack.unpack.Goals as goal

pub unpack_risk-requires-clause-small : goal.unpack_risk-requires-clause-small
unpack_risk-requires-clause-small c =
    let small =
    used_small c.args.of.universe.now c.args.state.now c.requires.of_lane.words
    c.names-names.ensures.kept in
    omega (arith, small, c.used-used.ensures)

pub returns-in-Some-unpack_risk-clause-answer : goal.returns-in-Some-unpack_risk-clause-answer
returns-in-Some-unpack_risk-clause-answer c known there of is_known is_there =
    let u = c.args.of.universe.now in
    let m = may_of c.args.state.now in
    risk-is u known there c.args.name c.args.relation.now m c.in-Some.set
    (c.in-Some.ensures.pick known there of is_known is_there) c.args.of.lane.now
    ∙ same_risks u c.args.of.lane.now (with_slot m c.args.name MayAbsent) (may_of c.put.new.self)
    (may_use u m) c.used-used.result c.args.name (word_has c.in-Some.set)
    (sym c.put.ensures.map) (sym (c.used-used.ensures ∙ c.requires.of_lane.words.used_is))
    ∙ sym c.in-Some-unpack_risk.ensures

pub spend-requires : goal.spend-requires
spend-requires c =
    let u = c.args.of.universe.now in
    let paid : c.put.new.self.cost + greatest_cost u c.args.name (word_has c.in-Some.set)
    ≤ c.args.of.lane.now.budget =
    within-limit _ _ _ _ (sym c.in_default-unpack_risk.ensures) in
    let same = ap (λ (m : May). m.cost) c.put-2.ensures.map in
    omega (arith, paid, same, c.unpack_cost.ensures, c.requires.of_lane.small)

pub returns-clause-answer : goal.returns-clause-answer
returns-clause-answer c known there of is_known is_there =
    let u = c.args.of.universe.now in
    let m = may_of c.args.state.now in
    let pick = c.in-Some.ensures.pick known there of is_known is_there in
    let set = c.in-Some.set in (
      risk-is u known there c.args.name c.args.relation.now m set pick c.args.of.lane.now
          ∙ same_risks u c.args.of.lane.now (with_slot m c.args.name MayAbsent)
          (may_of c.put.new.self) (may_use u m) c.used-used.result c.args.name (word_has set)
          (sym c.put.ensures.map) (sym (c.used-used.ensures ∙ c.requires.of_lane.words.used_is))
          ∙ sym c.in_default-unpack_risk.ensures,
      then-is u known there c.args.name c.args.relation.now m set pick c.last_word-last.result
          c.in-Some.ensures.some
          (ap word_has c.last_word-last.ensures
          ∙ last-word u c.args.state.now c.requires.of_lane.words c.args.name)
          ∙ sym (ap may_of c.spend.ensures
          ∙ ap (λ next. may_spend next c.unpack_cost.result) c.put-2.ensures.map
          ∙ ap (λ next. may_spend
          (with_slot next c.args.name (slot_of set 0 c.last_word-last.result)) c.unpack_cost.result)
          c.put.ensures.map
          ∙ ap (λ cost. may_spend
          (with_slot (with_slot m c.args.name MayAbsent) c.args.name
          (slot_of set 0 c.last_word-last.result)) cost)
          c.unpack_cost.ensures),
    )

pub returns-clause-of_lane : goal.returns-clause-of_lane
returns-clause-of_lane c =
    let u = c.args.of.universe.now in
    let paid : c.put.new.self.cost + greatest_cost u c.args.name (word_has c.in-Some.set)
    ≤ c.args.of.lane.now.budget =
    within-limit _ _ _ _ (sym c.in_default-unpack_risk.ensures) in
    let same = ap (λ (m : May). m.cost) c.put-2.ensures.map in
    let spent = ap (λ w. (may_of w).cost) c.spend.ensures in
    record {
      based = c.requires.of_lane.based;
      small = c.requires.of_lane.small;
      words = words_spent u c.put-2.new.self c.spend.new.self c.unpack_cost.result c.spend.ensures
          c.put-2.ensures.state;
      within = omega (arith, paid, same, spent, c.unpack_cost.ensures);
    }
