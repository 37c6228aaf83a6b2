use Rattle.std.proofs.Common.{◌+◌, ◌≤◌, ◌<◌, length, ◌∙◌, ap, arith}
use Rattle.deb_text.proofs.FindLaws.{from-drop}
use Rattle.deb_version.specs.Grammar.{parts_at}
use Rattle.deb_version.specs.Order.{revision_of}
use Rattle.deb_version.proofs.PlaceLaws.{is-revision, is-zero}
use Rattle.deb_version.proofs.borrowed.VersionRef.revision_or_zero.Goals as goal

pub returns-then-end-self : goal.returns-then-end-self
returns-then-end-self c =
    let v = c.self.inside in
    let lt : v.end < length v.text.now = omega arith in
    rw (from-drop v.text.now (c.from-end.result + 1), c.from-end.ensures)
    (is-revision v.text.now v.epoch v.start v.end c.self.invariant lt
    ∙ ap (λ text. revision_of (parts_at text)) c.self.view_is)

pub returns-else-end-self : goal.returns-else-end-self
returns-else-end-self c =
    let v = c.self.inside in
    let le : length v.text.now ≤ v.end = omega arith in
    is-zero v.text.now v.epoch v.start v.end c.self.invariant le
    ∙ ap (λ text. revision_of (parts_at text)) c.self.view_is
