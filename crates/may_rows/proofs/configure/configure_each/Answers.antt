use Rattle.std.proofs.Common.{◌∙◌, arith}
use Rattle.may_rows.specs.Configures.{name_configured}
use Rattle.may_rows.proofs.MemberWords.{have_names-written, words-next, words-end}
use Rattle.may_rows.proofs.configure.configure_each.Goals as goal

pub configure_name-requires : goal.configure_name-requires
configure_name-requires c =
    c.loop-place.invariant.members c.loop-place.place 0 c.loop-place-test.true

pub loop-place-preserved : goal.loop-place-preserved
loop-place-preserved c = record {
  members =
      have_names-written c.loop-place.state c.configure_name.new.self c.args.members.now _ _ _ _
      c.configure_name.ensures c.loop-place.invariant.members;
  words =
      words-next name_configured c.args.state.now c.args.members.now c.loop-place.place
      c.loop-place-test.true c.loop-place.state c.configure_name.new.self
      c.loop-place.invariant.words c.configure_name.ensures;
}

pub returns : goal.returns
returns c =
    c.loop-place.invariant.words
    ∙ words-end name_configured c.args.state.now c.args.members.now c.loop-place.place (omega arith)
