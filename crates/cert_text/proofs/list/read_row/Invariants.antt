use Rattle.std.proofs.Common.{◌≡◌, List, None, Some}
use Rattle.std.specs.Option.{option_map}
use Rattle.deb_relation.specs.Field.{entries_left}
use Rattle.deb_text.specs.Cuts.{length_left}
use Rattle.farm_model.specs.Packages.{names}
use Rattle.farm_model.specs.declared.types.Variant.{Variant}
use Rattle.cert_text.specs.Items.{EachIsSaid}
use Rattle.cert_text.proofs.RowsSoFar.{IsSoFar, left_of, variants_said}
use Rattle.cert_text.proofs.list.read_row.Given as goal

abbrev pub invariant-loop-item : goal.invariant-loop-item
invariant-loop-item l = record {
  variants : List Variant;
  row : IsSoFar (names l.universe) l.row variants;
  left : left_of l.universe variants l.last (entries_left (option_map (λ rest. rest.now) l.left))
      ≡ variants_said l.universe None (entries_left (Some l.text));
  kept : EachIsSaid l.universe l.repeats;
}

abbrev pub decreases-loop-item : goal.decreases-loop-item
decreases-loop-item l = length_left (option_map (λ rest. rest.now) l.left)
