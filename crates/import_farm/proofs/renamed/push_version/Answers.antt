use Rattle.std.proofs.Common.{◌≡◌, ℕ, List, true, length, subst, sym}
use Rattle.deb_text.specs.Classes.{in_class}
use Rattle.deb_text.specs.declared.classes.Class.TheVariants.{Space}
use Rattle.import_farm.specs.Rewriting.{is_one_line}
use Rattle.import_farm.proofs.RewritingLaws.{cut-parts, rest-one, reversioned, version-one}
use Rattle.import_farm.proofs.renamed.push_version.Goals as goal

pub returns : goal.returns
returns c =
    let row = c.args.row.now in
    let name = c.in-Some.name.now in
    let value = c.in-Some.value.now in
    let rest = c.in-Some-strip_prefix.behind.now in
    let cut = cut-parts 58 row name value c.in-Some.ensures.found c.in-Some.ensures.before
    c.in-Some.ensures.after in
    reversioned row name value c.text.result.now rest c.args.text.now.items
    c.extend_from_slice-2.new.self.items c.extend_from_slice-3.new.self.items
    c.extend_from_slice-4.new.self.items c.extend_from_slice-5.new.self.items cut
    (subst (λ (line : List ℕ). is_one_line line ≡ true) (sym c.text.ensures.text)
    (version-one c.args.new.now _ c.text.ensures.version))
    (rest-one (in_class Space) row name value c.skip_front-body.result.now rest
    (length c.args.old.now) c.requires cut c.skip_front-body.ensures
    c.in-Some-strip_prefix.ensures.cases.1)
    c.in_ok-extend_from_slice.ensures.items c.in_ok-extend_from_slice-2.ensures.items
    c.in_ok-extend_from_slice-3.ensures.items c.in_ok-extend_from_slice-4.ensures.items
