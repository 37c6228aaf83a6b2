use Rattle.std.proofs.Common.{rules}
use denote.Param.Send.{sendable}
use Rattle.farm_executor.proofs.scope.run_lanes.Goals as goal

pub scoped-requires : goal.scoped-requires
scoped-requires g c = record {
  at = λ a. (
    c.requires.ready,
    (
      search rules,
      (
        (search rules, search rules),
        (
          (search rules, search rules),
          (
            search sendable depth 20,
            search sendable depth 20,
            search sendable depth 20,
            search sendable depth 20,
          ),
        ),
      ),
    ),
  );
}
