use Rattle.std.proofs.Common.{◌≡◌, ◌==◌, drop}
use Rattle.deb_stanza.specs.Stanza.{Paragraph}
use Rattle.explain_faults.specs.Paragraphs.{paragraph_place, place_from}
use Rattle.explain_faults.proofs.paragraphs.paragraph_place.Given as goal

abbrev pub invariant-loop-place : goal.invariant-loop-place
invariant-loop-place l =
    paragraph_place l.paragraphs l.line
    ≡ place_from (λ (p : Paragraph). p.line == l.line) l.place (drop l.place l.paragraphs)
