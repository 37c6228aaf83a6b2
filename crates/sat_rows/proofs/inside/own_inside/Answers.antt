use Rattle.std.proofs.Common.{◌≡◌, ◌∙◌, Some, None, ap, sym}
use Rattle.std.proofs.lemmas.Bool.{true≢false}
use Rattle.std.specs.Str.{bytes_eq}
use Rattle.deb_text.specs.Groups.{place_in}
use Rattle.sat_rows.proofs.InsideLaws.{own_at, own_none}
use Rattle.sat_rows.proofs.inside.own_inside.Goals as goal

pub returns-in-Some-clause-none : goal.returns-in-Some-clause-none
returns-in-Some-clause-none c out n b is inside =
    let u = c.args.universe.now in
    let a = c.args.atom.now in
    let at : place_in bytes_eq u.names a.name ≡ Some c.in-Some.name =
    ap (place_in bytes_eq u.names) (sym c.name.ensures) ∙ sym c.in-Some.ensures.number in
    own_at u a c.args.words.now c.names-names.ensures.kept c.in-Some.name at
    (λ here. true≢false (sym (c.is_inside.ensures.1 here) ∙ out)) n b is inside

pub returns-in-None-clause-none : goal.returns-in-None-clause-none
returns-in-None-clause-none c out n b is inside =
    let u = c.args.universe.now in
    let a = c.args.atom.now in
    let at : place_in bytes_eq u.names a.name ≡ None =
    ap (place_in bytes_eq u.names) (sym c.name.ensures) ∙ sym c.in-None.ensures.number in
    own_none u a c.args.words.now c.names-names.ensures.kept at n b is inside
