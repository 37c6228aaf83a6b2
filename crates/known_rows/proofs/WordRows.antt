-- Words that are taken from the counts of one clock to those of another.
use Rattle.std.proofs.Common.{◌≡◌, ℕ, ◌*◌, ◌%◌, ◌^◌, ◌<◌, ◌≤◌, Bool, true, false, ◌||◌, List, length, take, bit_or, set, inl, inr, refl, sym, ap, subst, ◌∙◌, arith}
use Rattle.std.specs.Cmp.{both_ways as same_tests}
use Rattle.std.specs.Prelude.{slice_index}
use Rattle.std.proofs.Math.Bool.{or-false}
use Rattle.std.proofs.lemmas.Bool.{or_cases, or_left, or_right}
use Rattle.bit_rows.proofs.OneName.{adds-replaced}
use Rattle.bit_rows.proofs.Writes.{replaces-set}
use Rattle.bit_rows.specs.Sets.{variants_of, AddsVariant}
use Rattle.clause_kernel.specs.Rows.{word_has}
use Rattle.farm_laws.proofs.Archive.{list_any-some}
use Rattle.farm_model.proofs.BelowLaws.{some_below-at, some_below-mono, some_below-none}
use Rattle.farm_model.specs.Common.{Universe, same, contains, initial}
use Rattle.farm_model.specs.declared.types.Variant.{Variant}
use Rattle.plan_model.specs.Plan.{Plan, lane, lane_outputs}
use Rattle.sat_rows.specs.Rows.{IsRowOf}
use Rattle.known_rows.specs.declared.marks.Output.{Output}
use Rattle.known_rows.specs.Clock.{row_of, AreWithin}
use Rattle.known_rows.specs.Marks.{outputs_with_points}
use Rattle.known_rows.proofs.ArchiveRows.{row_same}
use Rattle.known_rows.proofs.ClockRows.{any_output, first-made, so_far}
use Rattle.known_rows.proofs.Possibly.{take-get, found-in}

-- a bit more in the word of a name
pub bit-added : (words : List ℕ) (name word added : ℕ) → name < length words → added < 64
    → word ≡ slice_index words name
    → AddsVariant (variants_of words) name added
    (variants_of (set words name (bit_or word (1 * 2 ^ added % 2 ^ 64))))
bit-added words name word added lt small is =
    adds-replaced (variants_of words) _ name word added small
    (λ bit. ap (λ w. word_has w bit) (sym is)) (replaces-set words name _ lt)

absorbed : (a b : Bool) → (b ≡ true → a ≡ true) → (a || b) ≡ a
absorbed true b h = refl
absorbed false true h = sym (h refl)
absorbed false false h = refl

-- the first variants of a list are among more of the first
contains-more : (m n : ℕ) (vs : List Variant) (v : Variant) → m ≤ n
    → contains (take m vs) v ≡ true → contains (take n vs) v ≡ true
contains-more m n vs v le e =
    let f = found-in (λ w. same w v) m vs e in
    list_any-some (λ w. same w v) (take n vs) f.place f.element
    (take-get n f.place vs f.element (omega (arith, le, f.before)) f.at) f.passes

module _ (u : Universe) (p : Plan) (x : ℕ → ℕ) where
  -- where nothing counts, there is the initial archive
  pub none_counted : (row : List ℕ) → ((j : ℕ) → x j ≡ 0) → IsRowOf u (initial u) row
      → IsRowOf u (row_of u p x) row
  none_counted row none is =
      row_same u _ _ row
      (λ v. sym (or-false (initial u v))
      ∙ ap (λ b. initial u v || b)
      (sym (some_below-none (length p) _
      (λ k lt. ap (λ n. contains (take n (lane_outputs u (lane p k))) v) (none k)))))
      is

  -- what counts of one lane is there
  lane-there : (j : ℕ) (v : Variant) → j < length p
      → contains (take (x j) (lane_outputs u (lane p j))) v ≡ true → row_of u p x v ≡ true
  lane-there j v lt e =
      or_right (initial u v) _ (some_below-at (length p)
      (λ k. contains (take (x k) (lane_outputs u (lane p k))) v) j lt e)

  module _ (y : ℕ → ℕ) where
    -- so what counts of the next lane need not be added
    pub lane_begun : (j count : ℕ) (os : List Output) (row : List ℕ)
        → os ≡ outputs_with_points u p j (length (lane p j).instructions) → count ≡ x j
        → j < length p → IsRowOf u (so_far u p (row_of u p x) y j) row
        → IsRowOf u (λ v. so_far u p (row_of u p x) y j v || any_output (take count os) v) row
    lane_begun j count os row are is lt row_is =
        row_same u _ _ row
        (λ v. sym (absorbed _ _
        (λ e. or_left (row_of u p x v) _ (lane-there j v lt
        (ap (λ n. contains (take n (lane_outputs u (lane p j))) v) (sym is)
        ∙ sym (first-made u p j count os v are) ∙ e)))))
        row_is

    module _ (within : AreWithin (length p) x y) where
      row-within : (v : Variant) → row_of u p x v ≡ true → row_of u p y v ≡ true
      row-within v h =
          elim (or_cases (initial u v) _ h) [
            | inl start ↦ or_left (initial u v) _ start
            | inr made ↦
                or_right (initial u v) _ (some_below-mono (length p) _ _
                (λ k lt. contains-more (x k) (y k) (lane_outputs u (lane p k)) v (within k lt))
                made)
          ]

      -- what counted before is among what counts
      pub all_later : (n : ℕ) (row : List ℕ) → n ≡ length p
          → IsRowOf u (so_far u p (row_of u p x) y n) row → IsRowOf u (row_of u p y) row
      all_later n row end is =
          row_same u _ _ row
          (λ v. same_tests _ _
          (λ h. elim (or_cases (row_of u p x v) _ h) [
            | inl before ↦ row-within v before
            | inr now ↦ or_right (initial u v) _ now
          ])
          (λ h. elim (or_cases (initial u v) _ h) [
            | inl start ↦ or_left (row_of u p x v) _ (or_left (initial u v) _ start)
            | inr now ↦ or_right (row_of u p x v) _ now
          ]))
          (subst (λ k. IsRowOf u (so_far u p (row_of u p x) y k) row) end is)
