use Rattle.std.proofs.Common.{◌∙◌, ℕ, ◌<◌, Some, length, ap, sym, subst, arith}
use Rattle.std.proofs.lemmas.Option.{slice_get_within, slice_get-get_or}
use Rattle.item_index.specs.Items.{item, IsListed, IsListedField}
use Rattle.item_index.proofs.IndexLaws.{before_next}
use Rattle.farm_universe.specs.BaseText.{Member}
use Rattle.farm_universe.specs.declared.binary.PackageRelations.{PackageRelations}
use Rattle.farm_universe.proofs.among.found.Goals as goal

pub loop-owner-preserved : goal.loop-owner-preserved
loop-owner-preserved c =
    let so_far = c.loop-owner.invariant in
    let ms = c.args.members.items in
    let k = c.loop-owner.owner in
    let m = c.index-member.result.now in
    let old = c.loop-owner.named in
    let new = c.add.new.self in
    let before = c.loop-owner.provided in
    let after = c.add_field.new.self in
    let lt : k < length ms = omega arith in
    let there = slice_get-get_or ms k m lt ∙ ap Some (sym c.index-member.ensures) in
    let name = c.in_ok-add.ensures in
    let field = c.in_ok-add_field.ensures in
    let provides = ap (λ (r : PackageRelations). r.provides) c.relations.ensures in
    record {
      named = before_next (λ (k : ℕ) (m : Member). IsListed old m.name (item k 0 0))
          (λ (k : ℕ) (m : Member). IsListed new m.name (item k 0 0)) ms k m there
          (λ k m is. name.kept m.name (item k 0 0) is) so_far.named
          (subst (λ text. IsListed new text (item k 0 0)) c.name.ensures name.there);
      provided = before_next (λ (k : ℕ) (m : Member). IsListedField before k m.binary.provides)
          (λ (k : ℕ) (m : Member). IsListedField after k m.binary.provides) ms k m there
          (λ k m is i e at j a also. field.kept a.name (item k i j) (is i e at j a also))
          so_far.provided
          (subst (λ es. IsListedField after k es) provides field.names);
    }

pub invariant_of-result : goal.invariant_of-result
invariant_of-result c =
    let so_far = c.loop-owner.invariant in
    record {
      by_name = λ k m at.
          let within = slice_get_within _ k m at in so_far.named k m (omega (arith, within)) at;
      by_item = λ k m at.
          let within = slice_get_within _ k m at in so_far.provided k m (omega (arith, within)) at;
    }
