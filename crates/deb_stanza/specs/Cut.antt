-- A list that is kept as one, with the places where its parts begin.
use Rattle.std.specs.Prelude.{ℕ, ◌+◌, ◌<◌, List, [], ◌∷◌, length, drop}
use Rattle.std.specs.List.{slice_range}

-- the last element is changed
abbrev pub onto_last : {X : Type 0} → (X → X) → List X → List X
onto_last f [] = []
onto_last f (x ∷ []) = f x ∷ []
onto_last f (x ∷ y ∷ ys) = x ∷ onto_last f (y ∷ ys)

module _ {C : Type 0} (start : C → ℕ) where
  -- where a part ends: at the next one, or at the end
  abbrev pub end_of : ℕ → List C → ℕ
  end_of end [] = end
  end_of end (c ∷ cs) = start c

  -- the parts ascend, and none is empty
  abbrev pub IsCut : ℕ → List C → Type 0
  IsCut end [] = Unit {0}
  IsCut end (c ∷ cs) = (start c < end_of end cs) × IsCut end cs

  -- what is made of each part
  abbrev pub cut : {X P : Type 0} → (C → List X → P) → List X → List C → List P
  cut make xs [] = []
  cut make xs (c ∷ cs) = make c (slice_range xs (start c) (end_of (length xs) cs)) ∷ cut make xs cs

  -- where the part with this place ends
  abbrev pub end_at : ℕ → List C → ℕ → ℕ
  end_at end cs i = end_of end (drop (i + 1) cs)
