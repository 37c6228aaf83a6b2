use Rattle.std.proofs.Common.{◌≡◌, length}
use Rattle.deb_version.specs.Order.{word_cmp}
use Rattle.deb_text.specs.Cuts.{front, behind}
use Rattle.deb_version.specs.Runs.{is_other}
use Rattle.deb_version.proofs.order.compare_words.Given as goal

abbrev pub invariant-loop-x : goal.invariant-loop-x
invariant-loop-x l = record {
  order : word_cmp (front is_other l.xs) (front is_other l.ys)
      ≡ word_cmp (front is_other l.a) (front is_other l.b);
  behind_a : behind is_other l.xs ≡ behind is_other l.a;
  behind_b : behind is_other l.ys ≡ behind is_other l.b;
}

abbrev pub decreases-loop-x : goal.decreases-loop-x
decreases-loop-x l = length l.xs
