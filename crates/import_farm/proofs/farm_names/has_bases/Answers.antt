use Rattle.std.proofs.Common.{ℕ, sym, ◌∙◌, arith}
use Rattle.std.specs.Global.{Vec}
use Rattle.std.proofs.lemmas.List.{length-map}
use Rattle.deb_text.specs.Lists.{lists}
use Rattle.farm_model.specs.Common.{base, no_base, Base}
use Rattle.import_farm.proofs.NameLaws.{same-names}
use Rattle.import_farm.proofs.farm_names.has_bases.Goals as goal

pub returns : goal.returns
unfolding base
returns c says =
    let long = length-map c.args.names.now (λ (v : Vec ℕ). v.items) in
    same-names (λ (b : Base). b.name) c.args.universe.now.bases no_base (lists c.args.names.now)
    (sym c.bases.ensures ∙ c.if-bases-names.false ∙ sym long)
    (λ k below. c.loop-at.invariant k (omega (arith, below, long, c.loop-at-test.false)))
