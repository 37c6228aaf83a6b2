use Rattle.std.proofs.Common.{◌∷◌}
use Rattle.deb_stanza.specs.Draft.{last_texts}
use Rattle.deb_stanza.specs.View.{table_raws}
use Rattle.deb_stanza.proofs.NameLaws.{last_texts-longer, known-longer}
use Rattle.deb_stanza.proofs.draft.Draft.go_on.Goals as goal

pub returns-clause-fit : goal.returns-clause-fit
returns-clause-fit c =
    let old = c.args.self.now in
    let raws = table_raws old.table in
    let is_open = c.if-not-self.false in
    record {
      table = c.in_ok-go_on.ensures.sound;
      known =
          rw (is_open, c.in_ok-go_on.ensures.raws, last_texts-longer c.args.line.bytes.now raws)
          (known-longer old.names (10 ∷ c.args.line.bytes.now) (last_texts raws)
          (rw is_open at c.requires.fit.known));
      some = λ is. rw c.in_ok-go_on.ensures.paragraphs (c.requires.fit.some is);
      latest = rw c.in_ok-go_on.ensures.keys c.requires.fit.latest;
    }
