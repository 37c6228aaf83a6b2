use Rattle.std.proofs.Common.{refl}
use Rattle.known_rows.proofs.WordRows.{bit-added}
use Rattle.known_rows.proofs.words.add_variant.Goals as goal

pub returns-clause-set : goal.returns-clause-set
returns-clause-set c =
    bit-added c.args.words.now c.args.variant.name _ c.args.variant.bit c.requires.named
    c.requires.within refl
