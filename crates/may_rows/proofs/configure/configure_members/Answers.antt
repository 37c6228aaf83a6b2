use Rattle.may_rows.proofs.Configured.{configured-members}
use Rattle.may_rows.proofs.MemberWords.{have_names}
use Rattle.may_rows.proofs.configure.configure_members.Goals as goal

pub configure_each-requires : goal.configure_each-requires
configure_each-requires c =
    have_names c.args._universe.now c.args.state.now c.args.members.now c.requires.words
    c.requires.members.known

pub returns-clause-words : goal.returns-clause-words
returns-clause-words c =
    (configured-members _ _ _ _ c.requires.words c.requires.members c.configure_each.ensures).0

pub returns-clause-map : goal.returns-clause-map
returns-clause-map c =
    (configured-members _ _ _ _ c.requires.words c.requires.members c.configure_each.ensures).1
