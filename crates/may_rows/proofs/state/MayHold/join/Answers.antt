use Rattle.std.proofs.Common.{sym, ap, ◌∙◌, subst}
use Rattle.may_rows.specs.Words.{AreWords, may_of}
use Rattle.may_rows.proofs.JoinMaps.{are-joined, map-joined}
use Rattle.may_rows.proofs.state.MayHold.join.Goals as goal

pub returns-clause-words : goal.returns-clause-words
returns-clause-words c =
    subst (AreWords c.args.universe.now) (sym c.join_rest.ensures)
    (are-joined c.args.universe.now c.args.first.now c.join_slots.new.self c.requires.first
    c.join_slots.ensures.words)

pub returns-clause-map : goal.returns-clause-map
returns-clause-map c =
    ap may_of c.join_rest.ensures
    ∙ map-joined c.args.universe.now c.args.first.now c.args.self.now c.join_slots.new.self
    c.requires.first c.requires.words c.join_slots.ensures.map
