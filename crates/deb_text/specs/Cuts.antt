-- A list cut in two, or at its ends, by a test of its elements.
--
--   before p xs, after p xs             round the first element that passes
--   before_last p xs, after_last p xs   round the last one
--   front p xs, behind p xs             the longest front that passes, and the rest
--   without_ends p xs                   less what passes at both ends
use Rattle.std.specs.Prelude.{ℕ, ◌+◌, Bool, true, false, not, ◌&&◌, List, [], ◌∷◌, length, if◌then◌else◌, Option, Some, None}
use Rattle.std.specs.List.{list_any, list_all, slice_split}
use Rattle.deb_text.specs.Bytes.{is_blank}

abbrev pub is_nil : {X : Type 0} → List X → Bool
is_nil [] = true
is_nil (x ∷ xs) = false

-- whether there is a first element, and it passes
abbrev pub first_is : {X : Type 0} → (X → Bool) → List X → Bool
first_is p [] = false
first_is p (x ∷ xs) = p x

-- what stands before the first that passes, or all where none does
abbrev pub before : {X : Type 0} → (X → Bool) → List X → List X
before p [] = []
before p (x ∷ xs) = if p x then [] else x ∷ before p xs

-- what stands after the first that passes, or nothing where none does
abbrev pub after : {X : Type 0} → (X → Bool) → List X → List X
after p [] = []
after p (x ∷ xs) = if p x then xs else after p xs

-- whether x passes, and nothing behind it
abbrev pub is_last : {X : Type 0} → (X → Bool) → X → List X → Bool
is_last p x xs = p x && not (list_any p xs)

-- what stands before the last that passes, or all where none does
abbrev pub before_last : {X : Type 0} → (X → Bool) → List X → List X
before_last p [] = []
before_last p (x ∷ xs) = if is_last p x xs then [] else x ∷ before_last p xs

-- what stands after the last that passes, or nothing where none does
abbrev pub after_last : {X : Type 0} → (X → Bool) → List X → List X
after_last p [] = []
after_last p (x ∷ xs) = if is_last p x xs then xs else after_last p xs

-- the longest front whose elements pass
abbrev pub front : {X : Type 0} → (X → Bool) → List X → List X
front p [] = []
front p (x ∷ xs) = if p x then x ∷ front p xs else []

-- what stands behind that front
abbrev pub behind : {X : Type 0} → (X → Bool) → List X → List X
behind p [] = []
behind p (x ∷ xs) = if p x then behind p xs else x ∷ xs

-- what stands up to the last that does not pass
abbrev pub without_end : {X : Type 0} → (X → Bool) → List X → List X
without_end p [] = []
without_end p (x ∷ xs) = if p x && list_all p xs then [] else x ∷ without_end p xs

abbrev pub without_ends : {X : Type 0} → (X → Bool) → List X → List X
without_ends p xs = without_end p (behind p xs)

-- a text without the spaces, tabs and newlines at its ends
abbrev pub trimmed : List ℕ → List ℕ
trimmed text = without_ends is_blank text

-- ---- parts between separators: std's slice_split cuts at each element that passes

-- the parts of what is left, if anything is
abbrev pub parts_left : {X : Type 0} → (X → Bool) → Option (List X) → List (List X)
parts_left p None = []
parts_left p (Some xs) = slice_split p xs

-- how much is left: at the end nothing, else one more than its elements
abbrev pub length_left : {X : Type 0} → Option (List X) → ℕ
length_left None = 0
length_left (Some xs) = length xs + 1
