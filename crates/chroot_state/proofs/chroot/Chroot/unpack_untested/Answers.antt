use Rattle.farm_universe.proofs.PlaceLaws.{named}
use Rattle.chroot_state.proofs.chroot.Chroot.unpack_untested.Goals as goal

pub put-requires-clause-named : goal.put-requires-clause-named
put-requires-clause-named c =
    named c.args.universe.now c.args.variant.name c.args.variant.bit c.requires.known
