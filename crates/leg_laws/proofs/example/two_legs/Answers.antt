use Rattle.std.proofs.Common.{refl}
use Rattle.leg_laws.specs.Example.{first, stopped, brought, withdrawn, second}
use Rattle.leg_laws.proofs.Computed.{by_computation}
use Rattle.leg_laws.proofs.Tests.{continuation_by}
use Rattle.leg_laws.proofs.example.two_legs.Goals as goal

pub returns : goal.returns
unfolding by_computation
returns c =
    record {
      no_trap = refl;
      stops = refl;
      continues = continuation_by first stopped brought withdrawn second refl refl refl refl;
      left = (
        record {
          name = refl;
          outputs = refl;
          steps = refl;
          scratch = refl;
          needs = refl;
          clashes = refl;
        },
        tt,
      );
      left_built = (
        record {
          name = refl;
          outputs = refl;
          steps = refl;
          scratch = refl;
          needs = refl;
          clashes = refl;
        },
        tt,
      );
      ends = refl;
      gcc_there = refl;
      libgmp_there = refl;
    }
