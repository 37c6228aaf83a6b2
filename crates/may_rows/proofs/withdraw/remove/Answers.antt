use Rattle.std.proofs.Common.{◌+◌, ◌≤◌, length, sym, ap, ◌∙◌, arith}
use Rattle.farm_model.proofs.TrapLaws.{within-limit}
use Rattle.plan_model.specs.May.{May, MayAbsent}
use Rattle.may_rows.specs.Words.{Words, may_of, may_spend}
use Rattle.may_rows.specs.Configures.{slots_after}
use Rattle.may_rows.specs.Withdraws.{remove_risks_before}
use Rattle.may_rows.proofs.Withdrawn.{told_before, told_needed, told_none, removed-is, withdrawn-members}
use Rattle.may_rows.proofs.MemberWords.{have_names}
use Rattle.may_rows.proofs.Writes.{words_spent}
use Rattle.may_rows.proofs.withdraw.remove.Goals as goal

pub withdraw_members-requires : goal.withdraw_members-requires
withdraw_members-requires c =
    have_names c.args.of.universe.now c.args.state.now c.args.members.now c.requires.of_lane.words
    c.requires.members.known

pub some_needs-requires : goal.some_needs-requires
some_needs-requires c =
    (withdrawn-members _ _ _ _ c.requires.of_lane.words c.requires.members
    c.withdraw_members.ensures).0

pub remove_members-requires-clause-words : goal.remove_members-requires-clause-words
remove_members-requires-clause-words c =
    (withdrawn-members _ _ _ _ c.requires.of_lane.words c.requires.members
    c.withdraw_members.ensures).0

pub returns-in-Some-clause-answer : goal.returns-in-Some-clause-answer
returns-in-Some-clause-answer c known there =
    told_before c.args.of.universe.now c.args.members.now (may_of c.args.state.now)
    c.requires.members.known
    (remove_risks_before c.args.of.universe.now c.args.of.lane.now (may_of c.args.state.now)
    c.args.members.now) c.in-Some.trap (sym c.in-Some.ensures)

pub returns-then-some_needs-clause-answer : goal.returns-then-some_needs-clause-answer
returns-then-some_needs-clause-answer c known there =
    let after = withdrawn-members _ _ _ _ c.requires.of_lane.words c.requires.members
    c.withdraw_members.ensures in
    told_needed c.args.of.universe.now c.args.members.now (may_of c.args.state.now)
    c.requires.members.known
    (remove_risks_before c.args.of.universe.now c.args.of.lane.now (may_of c.args.state.now)
    c.args.members.now)
    c.some_needs.result
    (may_of c.withdraw_members.new.state) after.1 c.some_needs.ensures
    (sym c.in_default.ensures) c.if-some_needs.true

pub spend-requires : goal.spend-requires
spend-requires c =
    let after = withdrawn-members _ _ _ _ c.requires.of_lane.words c.requires.members
    c.withdraw_members.ensures in
    let paid : c.args.state.now.cost + length c.args.members.now ≤ c.args.of.lane.now.budget =
    within-limit _ _ _ _ (sym c.in_default.ensures) in
    let same = ap (λ (k : May). k.cost) after.1 in
    let removed = ap (λ (k : May). k.cost) c.remove_members.ensures.map in
    omega (arith, paid, same, removed, c.requires.of_lane.small)

pub returns-clause-answer : goal.returns-clause-answer
returns-clause-answer c known there =
    let after = withdrawn-members _ _ _ _ c.requires.of_lane.words c.requires.members
    c.withdraw_members.ensures in
    let m = may_of c.args.state.now in
    let ms = c.args.members.now in (
      told_none c.args.of.universe.now ms m c.requires.members.known
          (remove_risks_before c.args.of.universe.now c.args.of.lane.now (may_of c.args.state.now)
          c.args.members.now)
          c.some_needs.result (may_of c.withdraw_members.new.state)
          after.1 c.some_needs.ensures (sym c.in_default.ensures)
          c.if-some_needs.false,
      sym (ap may_of c.spend.ensures
          ∙ ap (λ k. may_spend k (length ms)) (c.remove_members.ensures.map
          ∙ ap (λ k. slots_after (λ s. MayAbsent) k ms) after.1
          ∙ removed-is m ms)),
    )

pub returns-clause-of_lane : goal.returns-clause-of_lane
returns-clause-of_lane c =
    let after = withdrawn-members _ _ _ _ c.requires.of_lane.words c.requires.members
    c.withdraw_members.ensures in
    let paid : c.args.state.now.cost + length c.args.members.now ≤ c.args.of.lane.now.budget =
    within-limit _ _ _ _ (sym c.in_default.ensures) in
    let same = ap (λ (k : May). k.cost) after.1 in
    let spent = ap (λ (w : Words). w.cost) c.spend.ensures in
    let removed = ap (λ (k : May). k.cost) c.remove_members.ensures.map in
    record {
      based = c.requires.of_lane.based;
      small = c.requires.of_lane.small;
      words = words_spent c.args.of.universe.now c.remove_members.new.state c.spend.new.self
          (length c.args.members.now) c.spend.ensures c.remove_members.ensures.words;
      within = omega (arith, paid, same, removed, spent);
    }
