use Rattle.std.proofs.Common.{◌∙◌}
use Rattle.clause_kernel.proofs.Meanings.{remaining-and_not, remaining-bits}
use Rattle.clause_kernel.proofs.change.take_out.Goals as goal

pub returns-clause-row : goal.returns-clause-row
returns-clause-row c =
    c.change_each.ensures.row
    ∙ remaining-and_not c.args.a.now c.args.b.now c.change_each.ensures.fits
    (λ i. (c.type_inv.b i).fits)

pub returns-clause-bits : goal.returns-clause-bits
returns-clause-bits c =
    let small = c.change_each.ensures.fits in
    rw (
      c.change_each.ensures.row,
      remaining-and_not c.args.a.now c.args.b.now small
          (λ i. (c.type_inv.b i).fits),
    ) (remaining-bits c.args.a.now c.args.b.now c.requires)
