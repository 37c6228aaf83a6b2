use Rattle.deb_text.specs.Bytes.{is_byte}
use Rattle.deb_text.proofs.PartLaws.{split-none, split-some}
use Rattle.deb_text.proofs.cuts.next_part.Goals as goal

pub returns-in-Some-clause-parts : goal.returns-in-Some-clause-parts
returns-in-Some-clause-parts c =
    rw (c.in-Some.ensures.before, c.in-Some.ensures.after)
    (split-some (is_byte c.args.byte) c.args.text.now c.in-Some.ensures.found)

pub returns-in-None-clause-parts : goal.returns-in-None-clause-parts
returns-in-None-clause-parts c =
    split-none (is_byte c.args.byte) c.args.text.now c.in-None.ensures.none
