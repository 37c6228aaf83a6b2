use Rattle.std.proofs.Common.{Bool, not, ◌&&◌, filter, sym, ap, ◌∙◌}
use Rattle.std.specs.List.{list_any}
use Rattle.cross_laws.specs.Binary.{Binary}
use Rattle.cross_laws.specs.Encoding.{asker, exactly}
use Rattle.cross_laws.specs.Excludes.{hits_other}
use Rattle.cross_laws.specs.Meets.{meets}
use Rattle.cross_clear.proofs.AcrossLaws.{some-hit-taken}
use Rattle.cross_clear.proofs.across.is_mistaken.Goals as goal

pub returns-then-not-hits_other : goal.returns-then-not-hits_other
returns-then-not-hits_other c =
    let s = c.args.sides.now in
    let all = c.args.all.now in
    let p = c.args.binary.now in
    let a = c.args.atom.now in
    let q = c.args.other.now in
    c.is_any_hit_taken.ensures ∙ some-hit-taken s all p a q
    ∙ ap (λ (b : Bool). b
    && list_any (λ (t : Binary). meets s (asker t) (exactly t) q) (filter (hits_other s p a) all))
    (sym (ap not (sym c.hits_other.ensures ∙ c.if-not-hits_other.true)))
