use Rattle.std.proofs.Common.{◌≤◌, length, ◌∙◌, ap, arith, rules}
use Rattle.deb_version.specs.Grammar.{parts_at}
use Rattle.deb_version.proofs.PlaceLaws.{ascends, end-fits, is-upstream}
use Rattle.deb_version.proofs.borrowed.VersionRef.upstream.Goals as goal

pub slice_bounds-result-end : goal.slice_bounds-result-end
slice_bounds-result-end c =
    let v = c.self.inside in
    let fits : c.from-2.result ≤ length v.text.now =
    omega (arith, end-fits v.text.now v.epoch v.start v.end c.self.invariant) in
    let rises : c.from.result ≤ c.from-2.result =
    omega (arith, ascends v.text.now v.epoch v.start v.end c.self.invariant) in
    search rules

pub returns : goal.returns
returns c =
    let v = c.self.inside in
    rw (c.from.ensures, c.from-2.ensures)
    (is-upstream v.text.now v.epoch v.start v.end c.self.invariant
    ∙ ap (λ text. (parts_at text).upstream) c.self.view_is)
