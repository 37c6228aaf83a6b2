use Rattle.std.proofs.Common.{◌∙◌, arith}
use Rattle.may_rows.specs.Withdraws.{name_withdrawn}
use Rattle.may_rows.proofs.MemberWords.{have_names-written, words-next, words-end}
use Rattle.may_rows.proofs.withdraw.withdraw_members.Goals as goal

pub withdraw_name-requires : goal.withdraw_name-requires
withdraw_name-requires c =
    c.loop-place.invariant.members c.loop-place.place 0 c.loop-place-test.true

pub loop-place-preserved : goal.loop-place-preserved
loop-place-preserved c = record {
  members =
      have_names-written c.loop-place.state c.withdraw_name.new.self c.args.members.now _ _ _ _
      c.withdraw_name.ensures c.loop-place.invariant.members;
  words =
      words-next name_withdrawn c.args.state.now c.args.members.now c.loop-place.place
      c.loop-place-test.true c.loop-place.state c.withdraw_name.new.self
      c.loop-place.invariant.words c.withdraw_name.ensures;
}

pub returns : goal.returns
returns c =
    c.loop-place.invariant.words
    ∙ words-end name_withdrawn c.args.state.now c.args.members.now c.loop-place.place (omega arith)
