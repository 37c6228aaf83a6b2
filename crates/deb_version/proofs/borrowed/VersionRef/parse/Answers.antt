use Rattle.std.proofs.Common.{ap, arith}
use Rattle.deb_version.specs.Places.{start_of, end_of}
use Rattle.deb_version.proofs.PlaceLaws.{start-within, end-within}
use Rattle.deb_version.proofs.borrowed.VersionRef.parse.Goals as goal

pub start_of-start-requires : goal.start_of-start-requires
start_of-start-requires c =
    let at = ap start_of c.cut_into_pieces-pieces.ensures in
    omega (arith, at, start-within c.args.text.now)

pub overflow_cast-result : goal.overflow_cast-result
overflow_cast-result c =
    let at = ap start_of c.cut_into_pieces-pieces.ensures in
    omega (arith, c.start_of-start.ensures, at, start-within c.args.text.now)

pub overflow_cast-result-2 : goal.overflow_cast-result-2
overflow_cast-result-2 c =
    let at = ap end_of c.cut_into_pieces-pieces.ensures in
    omega (arith, c.start_of-start.ensures, at, end-within c.args.text.now)
