-- Texts that are written item by item.
use Rattle.std.proofs.Common.{◌≡◌, ◌<◌, ◌+◌, ◌-◌, ℕ, zero, suc, true, List, [], ◌∷◌, ◌++◌, length, get_or, take, drop, refl, sym, ap, ◌∙◌, subst, add-one, zero-add, add-zero, suc-add, arith}
use Rattle.std.specs.List.{flat_map, range_with_len}
use Rattle.std.proofs.Math.Seq.{take-suc}
use Rattle.std.proofs.lemmas.List.{append_assoc, append-nil, take-append-drop, flat_map_more}
use Rattle.std.proofs.lemmas.List.Concat.{flat_map-append}
use Rattle.report_sink.specs.Sinks.{SinkState, IsWritten}
use Rattle.report_sink.proofs.WriteLaws.{written_twice, cut_short}

-- Of a text that is written item by item, each item at its turn:
module _ {X : Type 0} (f : X → List ℕ) (xs : List X) (i : ℕ) (d : X) (within : i < length xs)
    (old mid new : SinkState) (so_far : IsWritten old mid (flat_map f (take i xs)))
    (more : IsWritten mid new (f (get_or xs i d))) where
  one_more : flat_map f (take i xs) ++ f (get_or xs i d) ≡ flat_map f (take (suc i) xs)
  one_more = flat_map_more f [] (take i xs) (get_or xs i d)
      ∙ ap (flat_map f) (sym (take-suc xs i d within))

  -- one more of them is written
  pub next_written : IsWritten old new (flat_map f (take (i + 1) xs))
  next_written = rw (add-one, ← one_more) (written_twice old mid new _ _ so_far more)

  -- it is the last one, where the sink has failed then
  pub last_written : new.failed ≡ true → IsWritten old new (flat_map f xs)
  last_written failed =
      let all : flat_map f (take (suc i) xs) ++ flat_map f (drop (suc i) xs) ≡ flat_map f xs =
      sym (flat_map-append f (take (suc i) xs) (drop (suc i) xs))
      ∙ ap (flat_map f) (take-append-drop (suc i) xs) in
      subst (IsWritten old new) all
      (cut_short old new _ (flat_map f (drop (suc i) xs))
      (rw (← one_more) (written_twice old mid new _ _ so_far more)) failed)

-- m numbers, and then k more
pub range_split : (a m k : ℕ)
    → range_with_len a (m + k) ≡ range_with_len a m ++ range_with_len (a + m) k
range_split a zero k = rw (zero-add, add-zero) refl
range_split a (suc m) k =
    let next : a + 1 + m ≡ a + suc m = omega arith in
    rw suc-add (ap (λ xs. a ∷ xs) (rw next at (range_split (a + 1) m k)))

-- Of a text that is written number by number:
module _ (f : ℕ → List ℕ) (i : ℕ) (old mid new : SinkState)
    (so_far : IsWritten old mid (flat_map f (range_with_len 0 i)))
    (more : IsWritten mid new (f i)) where
  -- so many numbers, and then others
  parts : (k : ℕ) → flat_map f (range_with_len 0 i) ++ flat_map f (range_with_len i k)
      ≡ flat_map f (range_with_len 0 (i + k))
  parts k = sym (flat_map-append f (range_with_len 0 i) (range_with_len i k))
      ∙ ap (flat_map f) (sym (rw zero-add at (range_split 0 i k)))

  -- one more of them is written
  pub next_below : IsWritten old new (flat_map f (range_with_len 0 (i + 1)))
  next_below =
      subst (IsWritten old new)
      (ap (λ t. flat_map f (range_with_len 0 i) ++ t) (sym (append-nil (f i))) ∙ parts 1)
      (written_twice old mid new _ _ so_far more)

  -- it is the last one, where the sink has failed then
  pub last_below : (n : ℕ) → i < n → new.failed ≡ true
      → IsWritten old new (flat_map f (range_with_len 0 n))
  last_below n within failed =
      let k : ℕ = n - (i + 1) in
      let all : i + suc k ≡ n = omega arith in
      let whole : (flat_map f (range_with_len 0 i) ++ f i) ++ flat_map f (range_with_len (i + 1) k)
      ≡ flat_map f (range_with_len 0 n) =
      append_assoc _ (f i) _ ∙ (parts (suc k) ∙ ap (λ m. flat_map f (range_with_len 0 m)) all) in
      subst (IsWritten old new) whole
      (cut_short old new _ _ (written_twice old mid new _ _ so_far more) failed)
