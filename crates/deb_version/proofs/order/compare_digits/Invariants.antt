use Rattle.std.proofs.Common.{◌≡◌, length}
use Rattle.std.specs.Ordering.{nat_cmp}
use Rattle.deb_text.specs.Common.{number, front, behind, is_digit}
use Rattle.deb_version.proofs.DigitLaws.{digits_cmp}
use Rattle.deb_version.proofs.order.compare_digits.Given as goal

abbrev pub invariant-loop-x : goal.invariant-loop-x
invariant-loop-x l = record {
  order : digits_cmp l.so_far (front is_digit l.xs) (front is_digit l.ys)
      ≡ nat_cmp (number (front is_digit l.a)) (number (front is_digit l.b));
  behind_a : behind is_digit l.xs ≡ behind is_digit l.a;
  behind_b : behind is_digit l.ys ≡ behind is_digit l.b;
}

abbrev pub decreases-loop-x : goal.decreases-loop-x
decreases-loop-x l = length l.xs
