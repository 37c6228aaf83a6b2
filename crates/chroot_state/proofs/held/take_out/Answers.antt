use Rattle.std.proofs.Common.{rules, ◌≡◌, ◌==◌, Some, None, get_or, position, ap, arith}
use Rattle.std.specs.List.{sum_by}
use Rattle.std.proofs.lemmas.Bool.{eqb-true}
use Rattle.std.proofs.lemmas.List.Quantifiers.{position-Some}
use Rattle.std.proofs.lemmas.List.Sums.{sum_by-swap_remove}
use Rattle.chroot_state.proofs.Present.{listed_has_place}
use Rattle.chroot_state.proofs.held.take_out.Goals as goal

pub returns-in-Some-clause-gone : goal.returns-in-Some-clause-gone
returns-in-Some-clause-gone c f =
    let xs = c.args.present.now.items in
    let place = c.in-Some.place in
    let value = c.swap_remove.result in
    let placed : position (λ n. n == c.args.name) xs ≡ Some place = search rules in
    let found = position-Some (λ n. n == c.args.name) xs place value placed in
    let here : f (get_or xs place value) ≡ f c.args.name = ap f (eqb-true _ _ found.1) in
    omega (
      arith,
      sum_by-swap_remove f xs place value found.0,
      here,
      ap (sum_by f) c.swap_remove.ensures.items,
    )

pub returns-in_default-clause-gone : goal.returns-in_default-clause-gone
returns-in_default-clause-gone c =
    let missed : position (λ n. n == c.args.name) c.args.present.now.items ≡ None = search rules in
    absurd (listed_has_place (λ n. n == c.args.name) c.args.present.now.items c.requires.listed
    missed)
