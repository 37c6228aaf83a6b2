use Rattle.std.proofs.Common.{◌≡◌, None, Some, get_or, slice_get, refl, subst, arith}
use Rattle.std.proofs.lemmas.Option.{slice_get-get_or}
use Rattle.farm_model.specs.Packages.{variant}
use Rattle.known_rows.specs.declared.marks.Output.{Output}
use Rattle.known_rows.proofs.clock.counted_bit.Goals as goal

abbrev none : Output
none = record { variant = variant 0 0; point = None }

pub returns-clause-some : goal.returns-clause-some
returns-clause-some c =
    let lanes = c.args.lanes.now in
    let outs = c.as_slice-outputs.result.now in
    let l = c.args.place.lane in
    let n = c.args.place.number in
    let of = get_or lanes l c.index-lanes-place.result in
    record {
      output = get_or outs n none;
      is = record {
        of = of;
        lane = slice_get-get_or lanes l c.index-lanes-place.result
            (omega (arith, c.if-place-lanes.false));
        output = subst (λ os. slice_get os n ≡ Some (get_or outs n none))
            c.as_slice-outputs.ensures.value
            (slice_get-get_or outs n none (omega (arith, c.if-place-outputs.false)));
      };
      before = omega (arith, c.if-place-counted.false, c.counted.ensures);
      named = c.if-variant-name.false;
      bit = refl;
    }
