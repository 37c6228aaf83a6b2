use Rattle.std.proofs.Common.{◌≡◌, ◌∙◌, ◌||◌, Some, None, ap, sym}
use Rattle.std.proofs.Math.Bool.{or-false}
use Rattle.std.specs.Str.{bytes_eq}
use Rattle.deb_text.specs.Groups.{place_in}
use Rattle.clause_kernel.specs.Rows.{word_has}
use Rattle.sat_rows.specs.Found.{among}
use Rattle.sat_rows.proofs.NameLaws.{own-found, own-none}
use Rattle.sat_rows.proofs.found.Found.add_own.Goals as goal

pub returns-in_ok-add : goal.returns-in_ok-add
returns-in_ok-add c n b =
    let u = c.args.universe.now in
    let a = c.args.atom.now in
    let text : c.name.result.now ≡ a.name = c.name.ensures in
    let at : place_in bytes_eq u.names a.name ≡ Some c.in-Some.name =
    ap (place_in bytes_eq u.names) (sym text) ∙ sym c.in-Some.ensures.number in
    c.in_ok-add.ensures n b
    ∙ ap (λ x. among c.args.self.now n b || x)
    (own-found u c.names-names.ensures.kept a c.in-Some.name (word_has c.wanted_word.result)
    c.wanted_word.ensures at n b)

pub returns-in_default : goal.returns-in_default
returns-in_default c n b =
    let u = c.args.universe.now in
    let a = c.args.atom.now in
    let text : c.name.result.now ≡ a.name = c.name.ensures in
    let at : place_in bytes_eq u.names a.name ≡ None =
    ap (place_in bytes_eq u.names) (sym text) ∙ sym c.in_default.ensures.number in
    sym (ap (λ x. among c.args.self.now n b || x) (own-none u c.names-names.ensures.kept a at n b)
    ∙ or-false (among c.args.self.now n b))
