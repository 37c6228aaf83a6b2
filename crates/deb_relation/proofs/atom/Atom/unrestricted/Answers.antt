use Rattle.std.proofs.Common.{ap, sym, ◌∙◌}
use Rattle.std.proofs.Math.Seq.{take-length}
use Rattle.deb_relation.proofs.StoreLaws.{are-cut, texts-are}
use Rattle.deb_relation.proofs.atom.Atom.unrestricted.Goals as goal

pub invariant_of-result : goal.invariant_of-result
invariant_of-result c =
    let version = c.version_of-version.ensures in
    are-cut c.in-Some.cuts _ _ c.args.relation _ (rw version.text at c.in-Some.ensures.lengths)
    (rw version.text at c.joined_in.ensures.front) version.version

pub returns-then-version_end-le-ROOM : goal.returns-then-version_end-le-ROOM
returns-then-version_end-le-ROOM c =
    let version = c.version_of-version.ensures in
    texts-are c.in-Some.cuts _ _ c.args.relation _ (rw version.text at c.in-Some.ensures.lengths)
    (rw version.text at c.joined_in.ensures.front)
    (rw (sym c.in-Some.ensures.op) at c.operator_of.ensures)

pub invariant_of-result-then-version_end-le-SMALL_BLOCK
    : goal.invariant_of-result-then-version_end-le-SMALL_BLOCK
invariant_of-result-then-version_end-le-SMALL_BLOCK c =
    let version = c.version_of-version.ensures in
    rw c.in_ok-new.ensures.ok
    (are-cut c.in-Some.cuts _ _ c.args.relation _ (rw version.text at c.in-Some.ensures.lengths)
    (rw version.text at c.joined_in-text.ensures.front) version.version)

pub returns-then-version_end-le-SMALL_BLOCK : goal.returns-then-version_end-le-SMALL_BLOCK
returns-then-version_end-le-SMALL_BLOCK c =
    let version = c.version_of-version.ensures in
    rw c.in_ok-new.ensures.ok
    (texts-are c.in-Some.cuts _ _ c.args.relation _ (rw version.text at c.in-Some.ensures.lengths)
    (rw version.text at c.joined_in-text.ensures.front)
    (rw (sym c.in-Some.ensures.op) at c.operator_of.ensures))

pub invariant_of-result-2 : goal.invariant_of-result-2
invariant_of-result-2 c =
    let version = c.version_of-version.ensures in
    let text = ap (λ text. text.items) c.in_ok-new-2.ensures.ok ∙ c.in_ok-text.ensures in
    are-cut c.in-Some.cuts _ _ c.args.relation _ (rw version.text at c.in-Some.ensures.lengths)
    (rw (sym (rw version.text at text)) (take-length _)) version.version

pub returns : goal.returns
returns c =
    let version = c.version_of-version.ensures in
    let text = ap (λ text. text.items) c.in_ok-new-2.ensures.ok ∙ c.in_ok-text.ensures in
    texts-are c.in-Some.cuts _ _ c.args.relation _ (rw version.text at c.in-Some.ensures.lengths)
    (rw (sym (rw version.text at text)) (take-length _))
    (rw (sym c.in-Some.ensures.op) at c.operator_of.ensures)
