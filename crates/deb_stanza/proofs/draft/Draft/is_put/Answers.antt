use Rattle.deb_stanza.specs.Draft.{draft_state, open_names}
use Rattle.deb_stanza.proofs.NameLaws.{told-new, told-names}
use Rattle.deb_stanza.proofs.draft.Draft.is_put.Goals as goal

pub returns-in-Some-clause-new : goal.returns-in-Some-clause-new
returns-in-Some-clause-new c =
    let all = rw c.in-Some.is at c.requires.fit.known.names in
    told-new c.insert.result c.in-Some.names (open_names (draft_state c.args.self.now))
    c.args.name.now all c.insert.ensures.new

pub returns-in-Some-clause-names : goal.returns-in-Some-clause-names
returns-in-Some-clause-names c =
    let all = rw c.in-Some.is at c.requires.fit.known.names in
    told-names c.insert.result c.in-Some.names c.insert.new.self
    (open_names (draft_state c.args.self.now)) c.args.name.now all c.insert.ensures.kept
    c.insert.ensures.there
