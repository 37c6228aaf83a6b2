-- The words of the members of a set, changed one after the other.
use Rattle.std.proofs.Common.{◌≡◌, ℕ, zero, suc, ◌+◌, ◌<◌, ◌≤◌, List, All, length, length-set, take, take_all, get_or, refl, sym, ap, subst, ◌∙◌, add-one, arith}
use Rattle.std.specs.List.{fold}
use Rattle.std.proofs.lemmas.List.Sums.{fold_more}
use Rattle.farm_model.specs.Common.{Universe, names}
use Rattle.plan_model.specs.Common.{MaySlot, IsNameSet}
use Rattle.may_rows.specs.Words.{Words, HasName, AreWords, may_of, joined_word, written, with_slot}
use Rattle.may_rows.specs.Configures.{slots_after}
use Rattle.may_rows.proofs.MemberSlots.{slots-next}

-- ---- places for the members

pub have_names : (u : Universe) (w : Words) (ms : List ℕ) → AreWords u w
    → All (λ n. n < names u) ms → All (HasName w) ms
have_names u w ms are known i d lt =
    let named = known i d lt in record {
      here_there = omega (arith, named, are.here_long);
      ready_there = omega (arith, named, are.ready_long);
      last_there = omega (arith, named, are.last_long);
      both_there = omega (arith, named, are.both_long);
    }

has_name-written : (w : Words) (n h r l k : ℕ) → HasName w k → HasName (written w n h r l) k
has_name-written w n h r l k has = record {
  here_there = let same = length-set w.here n h in omega (arith, same, has.here_there);
  ready_there = let same = length-set w.ready n r in omega (arith, same, has.ready_there);
  last_there = let same = length-set w.last n l in omega (arith, same, has.last_there);
  both_there =
      let same = length-set w.both n (joined_word h l) in omega (arith, same, has.both_there);
}

pub have_names-written : (w next : Words) (ms : List ℕ) (n h r l : ℕ) → next ≡ written w n h r l
    → All (HasName w) ms → All (HasName next) ms
have_names-written w next ms n h r l is have i d lt =
    subst (λ v. HasName v (get_or ms i d)) (sym is)
    (has_name-written w n h r l (get_or ms i d) (have i d lt))

-- ---- the words after some members, and after all

module _ (f : Words → ℕ → Words) (w : Words) (ms : List ℕ) where
  pub words-next : (i : ℕ) → i < length ms → (so_far next : Words)
      → so_far ≡ fold f w (take i ms) → next ≡ f so_far (get_or ms i 0)
      → next ≡ fold f w (take (i + 1) ms)
  words-next i lt so_far next is added =
      added ∙ ap (λ v. f v (get_or ms i 0)) is ∙ sym (fold_more f w ms i 0 lt)

  pub words-end : (i : ℕ) → length ms ≡ i → fold f w (take i ms) ≡ fold f w ms
  words-end i end = ap (fold f w) (take_all i ms (omega (arith, end)))

-- where a change of the words of one name changes its slot alone, that of the members does theirs
module _ (u : Universe) (f : Words → ℕ → Words) (g : MaySlot → MaySlot)
    (each : (w : Words) (n : ℕ) → AreWords u w → n < names u
    → AreWords u (f w n) × (may_of (f w n) ≡ with_slot (may_of w) n (g ((may_of w).slots n))))
    (w : Words) (ms : List ℕ) (are : AreWords u w) (named : IsNameSet u ms) where
  abbrev are_after : Words → List ℕ → Type 0
  are_after v ns = AreWords u v × (may_of v ≡ slots_after g (may_of w) ns)

  after-some : (i : ℕ) → i ≤ length ms → are_after (fold f w (take i ms)) (take i ms)
  after-some zero le = (are, refl)
  after-some (suc i) le =
      let lt : i < length ms = omega (arith, le) in
      let before = after-some i (omega (arith, le)) in
      let v = fold f w (take i ms) in
      let k = get_or ms i 0 in
      let one = each v k before.0 (named.known i 0 lt) in
      subst (λ j. are_after (fold f w (take j ms)) (take j ms)) (add-one i)
      (subst (λ next. are_after next (take (i + 1) ms)) (sym (fold_more f w ms i 0 lt)) (
        one.0,
        slots-next g (may_of w) ms i lt named.distinct (may_of v) (may_of (f v k)) before.1 one.1,
      ))

  pub after-members : (next : Words) → next ≡ fold f w ms → are_after next ms
  after-members next is =
      subst (λ v. are_after v ms) (sym is)
      (subst (λ ns. are_after (fold f w ns) ns) (take_all (length ms) ms (omega arith))
      (after-some (length ms) (omega arith)))
