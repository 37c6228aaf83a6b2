use Rattle.std.proofs.Common.{◌≡◌, ◌<◌, length, All}
use Rattle.deb_text.specs.Common.{traverse, with_front, words}
use Rattle.farm_model.specs.Packages.{names}
use Rattle.plan_reader.specs.Drafts.{known_name}
use Rattle.plan_reader.proofs.names.known_names.Given as goal

abbrev pub invariant-loop-word : goal.invariant-loop-word
invariant-loop-word l = record {
  so_far : with_front l.numbers.items (traverse (known_name l.universe) (words l.rest))
      ≡ traverse (known_name l.universe) (words l.text);
  known : All (λ n. n < names l.universe) l.numbers.items;
}

abbrev pub decreases-loop-word : goal.decreases-loop-word
decreases-loop-word l = length l.rest
