use Rattle.std.proofs.Common.{◌≡◌, ℕ, List, true, subst, sym}
use Rattle.deb_text.specs.Classes.{in_class}
use Rattle.deb_text.specs.declared.classes.Class.TheVariants.{Space}
use Rattle.import_farm.specs.Rewriting.{is_inside}
use Rattle.import_farm.proofs.RewritingLaws.{front-behind, replaced, version-inside}
use Rattle.import_farm.proofs.renamed.push_behind_operator.Goals as goal

pub returns : goal.returns
returns c =
    let front = c.split_front.result in
    let operator = c.split_operator.result in
    let between = c.split_front-2.result in
    replaced c.args.inside.now front.0.now front.1.now operator.0.now operator.1.now
    between.0.now between.1.now c.text.result.now c.args.text.now.items
    c.extend_from_slice.new.self.items c.extend_from_slice-2.new.self.items
    c.extend_from_slice-3.new.self.items c.extend_from_slice-4.new.self.items c.requires
    (subst (λ (line : List ℕ). is_inside line ≡ true) (sym c.text.ensures.text)
    (version-inside c.args.version.now _ c.text.ensures.version))
    (front-behind (in_class Space) c.args.inside.now front.0.now front.1.now
    c.split_front.ensures.front c.split_front.ensures.rest)
    c.split_operator.ensures
    (front-behind (in_class Space) operator.1.now between.0.now between.1.now
    c.split_front-2.ensures.front c.split_front-2.ensures.rest)
    c.in_ok-extend_from_slice.ensures.items c.in_ok-extend_from_slice-2.ensures.items
    c.in_ok-extend_from_slice-3.ensures.items c.in_ok-extend_from_slice-4.ensures.items
