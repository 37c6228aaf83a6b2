-- The places of rows, instruction by instruction.
use Rattle.std.proofs.Common.{◌≡◌, ℕ, suc, ◌+◌, ◌≤◌, Bool, true, false, List, [], ◌∷◌, ◌++◌, length, take, drop, Some, refl, sym, ap, ◌∙◌, add-one, add-zero, slice_get, arith}
use Rattle.std.specs.List.{flat_map}
use Rattle.std.proofs.lemmas.List.{take-append-drop, length-take, append-nil, take_all}
use Rattle.std.proofs.lemmas.List.Concat.{flat_map-append}
use Rattle.std.proofs.lemmas.Option.{slice_get_within}
use Rattle.farm_laws.proofs.Archive.{take_some}
use Rattle.cert_text.specs.Certificates.{learns, places_from}
use Rattle.farm_model.specs.Universe.{Universe}
use Rattle.plan_model.specs.Common.{Rows, Plan, lane, instruction_at}
use Rattle.plan_model.specs.declared.instructions.Instruction.{Instruction}
use Rattle.cert_writer.specs.Lines.{row_text, places_at, place_row_text, lane_text}

-- of instructions, one behind the other
places-append : (number : ℕ) (xs ys : List Instruction)
    → places_from number (xs ++ ys) ≡ places_from number xs ++ places_from (number + length xs) ys
places-append number [] ys = ap (λ n. places_from n ys) (sym (add-zero number))
places-append number (x ∷ xs) ys =
    by (learns x) refl
    (places-append (number + 1) xs ys
    ∙ ap (λ n. places_from (number + 1) xs ++ places_from n ys) next)
  where
    next : number + 1 + length xs ≡ number + suc (length xs)
    next = omega arith

    by : (t : Bool) → learns x ≡ t → places_from (number + 1) (xs ++ ys)
        ≡ places_from (number + 1) xs ++ places_from (number + suc (length xs)) ys
        → places_from number (x ∷ xs ++ ys)
        ≡ places_from number (x ∷ xs) ++ places_from (number + suc (length xs)) ys
    by true is later = rw is (ap (λ (ns : List ℕ). number ∷ ns) later)
    by false is later = rw is later

one-place : (number : ℕ) (x : Instruction) → places_from number (x ∷ []) ≡ places_at number (Some x)
one-place number x = by (learns x) refl where
  by : (t : Bool) → learns x ≡ t → places_from number (x ∷ []) ≡ places_at number (Some x)
  by true is = rw is refl
  by false is = rw is refl

module _ (xs : List Instruction) (i : ℕ) (x : Instruction) (at : slice_get xs i ≡ Some x) where
  -- one instruction more
  pub places-next : places_from 1 (take (i + 1) xs) ≡ places_from 1 (take i xs)
      ++ places_at (i + 1) (Some x)
  places-next =
      ap (λ n. places_from 1 (take n xs)) (add-one i)
      ∙ ap (places_from 1) (take_some xs i x at)
      ∙ places-append 1 (take i xs) (x ∷ [])
      ∙ ap (λ n. places_from 1 (take i xs) ++ places_from n (x ∷ [])) next
      ∙ ap (λ (ns : List ℕ). places_from 1 (take i xs) ++ ns) (one-place (i + 1) x)
    where
      next : 1 + length (take i xs) ≡ i + 1
      next = let lt = slice_get_within xs i x at in omega (arith, lt, length-take i xs)

-- ---- the lines of a lane

module _ (u : Universe) (p : Plan) (known : Rows) (l : ℕ) where
  -- those behind its first instructions
  abbrev pub text_to : ℕ → List ℕ
  text_to i = flat_map (row_text u p known l) (places_from 1 (take i (lane p l).instructions))

  abbrev pub text_behind : ℕ → List ℕ
  text_behind i =
      flat_map (row_text u p known l)
      (places_from (1 + length (take i (lane p l).instructions)) (drop i (lane p l).instructions))

  pub text-next : (i : ℕ) (x : Instruction) → instruction_at p l i ≡ Some x
      → text_to (i + 1) ≡ text_to i ++ place_row_text u p known l i
  text-next i x at =
      ap (flat_map (row_text u p known l)) (places-next (lane p l).instructions i x at)
      ∙ flat_map-append (row_text u p known l) (places_from 1 (take i (lane p l).instructions))
      (places_at (i + 1) (Some x))
      ∙ ap (λ o. text_to i ++ flat_map (row_text u p known l) (places_at (i + 1) o)) (sym at)

  pub text-split : (i : ℕ) → lane_text u p known l ≡ text_to i ++ text_behind i
  text-split i =
      ap (λ xs. flat_map (row_text u p known l) (places_from 1 xs))
      (sym (take-append-drop i (lane p l).instructions))
      ∙ ap (flat_map (row_text u p known l))
      (places-append 1 (take i (lane p l).instructions) (drop i (lane p l).instructions))
      ∙ flat_map-append (row_text u p known l) (places_from 1 (take i (lane p l).instructions)) _

  pub text-all : (i : ℕ) → length (lane p l).instructions ≤ i → text_to i ≡ lane_text u p known l
  text-all i end =
      ap (λ xs. flat_map (row_text u p known l) (places_from 1 xs))
      (take_all i (lane p l).instructions end)

-- ---- the line behind one instruction

module _ (u : Universe) (p : Plan) (known : Rows) (l i : ℕ) (x : Instruction)
    (at : instruction_at p l i ≡ Some x) where
  pub place-quiet : learns x ≡ false → place_row_text u p known l i ≡ []
  place-quiet quiet =
      ap (λ o. flat_map (row_text u p known l) (places_at (i + 1) o)) at ∙ rw quiet refl

  pub place-learnt : learns x ≡ true → place_row_text u p known l i ≡ row_text u p known l (i + 1)
  place-learnt learnt =
      ap (λ o. flat_map (row_text u p known l) (places_at (i + 1) o)) at
      ∙ rw learnt (append-nil (row_text u p known l (i + 1)))

  -- what is left behind it
  pub text-around : lane_text u p known l
      ≡ (text_to u p known l i ++ place_row_text u p known l i) ++ text_behind u p known l (i + 1)
  text-around =
      text-split u p known l (i + 1)
      ∙ ap (λ t. t ++ text_behind u p known l (i + 1)) (text-next u p known l i x at)
