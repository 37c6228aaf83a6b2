use Rattle.std.proofs.Common.{◌+◌, ◌-◌, drop, sym, ap, subst, ◌∙◌, arith}
use Rattle.std.proofs.lemmas.Bool.{eqb-true}
use Rattle.deb_text.specs.Common.{Fails, refusal_of, with_front}
use Rattle.debian_index.specs.Index.{Left, block_at, later, paragraphs_from}
use Rattle.debian_index.proofs.CutLaws.{front-fails, front-read, nothing}
use Rattle.debian_index.proofs.pieces.Pieces.next.Goals as goal

pub returns-then-is_empty-clause-end : goal.returns-then-is_empty-clause-end
returns-then-is_empty-clause-end c =
    sym (ap (λ (left : Left). left.says) c.self.view_is)
    ∙ nothing c.self.inside.number c.self.inside.rest.now
    (eqb-true _ 0 (sym c.is_empty.ensures ∙ c.if-is_empty.true))

pub returns-in-Err-clause-refused : goal.returns-in-Err-clause-refused
returns-in-Err-clause-refused c =
    let number = c.self.inside.number in
    let text = c.self.inside.rest.now in
    let rows = c.rows_to_blank-rows.result in
    subst (λ (left : Left). Fails refusal_of c.in-Err.fault left.says) c.self.view_is
    (front-fails number text rows.size rows.lines c.in-Err.fault
    (omega (arith, c.self.invariant.0, c.self.invariant.1))
    c.rows_to_blank-rows.ensures.front
    (subst (λ bytes. Fails refusal_of c.in-Err.fault (block_at number bytes)) c.split_at.ensures.front
    c.in-Err.ensures.read))

pub returns-in-Ok-clause-read : goal.returns-in-Ok-clause-read
returns-in-Ok-clause-read c =
    let number = c.self.inside.number in
    let text = c.self.inside.rest.now in
    let rows = c.rows_to_blank-rows.result in
    let said = c.in-Ok.ensures in
    sym (ap (λ (left : Left). left.says) c.self.view_is)
    ∙ front-read number text rows.size rows.lines _ c.rows_to_blank-rows.ensures.front
    (ap (block_at number) (sym c.split_at.ensures.front) ∙ said.read)
    ∙ ap (λ ps. with_front ps (paragraphs_from (number + rows.lines) (drop rows.size text)))
    (sym said.lines)
    ∙ ap (λ rest. with_front (later (number - 1) c.in-Ok.paragraphs)
    (paragraphs_from (number + rows.lines) rest)) (sym c.split_at.ensures.back)
