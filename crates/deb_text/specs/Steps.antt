-- Items one after the other, up to the first fault.
--
--   steps step s xs             a state that goes from item to item
--   judged judge meaning xs     what the items mean, or the first fault that judge finds
--   traverse read xs            the value of each item, or the first fault
--   goods read ps               the values of the items that can be read
use Rattle.std.specs.Prelude.{List, [], ◌∷◌, ◌++◌, Option, Some, None, Result, Ok, Err}

-- one answer after another, up to the first fault
infixl 10 ◌>>=◌
abbrev pub ◌>>=◌ : {A B F : Type 0} → Result A F → (A → Result B F) → Result B F
(Ok x) >>= f = f x
(Err e) >>= f = Err e

-- a value, unless there is a fault
abbrev pub answer : {A F : Type 0} → Option F → A → Result A F
answer None x = Ok x
answer (Some e) x = Err e

-- the first of two
abbrev pub or_else : {A : Type 0} → Option A → Option A → Option A
or_else None o = o
or_else (Some x) o = Some x

-- the first fault, where judge says what is wrong with an item behind the items before it
abbrev pub first_fault : {X F : Type 0} → (List X → X → Option F) → List X → List X → Option F
first_fault judge before [] = None
first_fault judge before (x ∷ xs) =
    or_else (judge before x) (first_fault judge (before ++ x ∷ []) xs)

-- what these items mean, or their first fault
unfoldable pub judged : {X A F : Type 0} → (List X → X → Option F) → (List X → A) → List X
    → Result A F
judged judge meaning xs = answer (first_fault judge [] xs) (meaning xs)

-- a state that goes from item to item
unfoldable pub steps : {S X F : Type 0} → (S → X → Result S F) → S → List X → Result S F
steps step s [] = Ok s
steps step s (x ∷ xs) = step s x >>= λ t. steps step t xs

-- a value, and the values behind it
abbrev pub then_all : {B F : Type 0} → Result B F → Result (List B) F → Result (List B) F
then_all first rest = first >>= λ y. rest >>= λ ys. Ok (y ∷ ys)

-- the values before, and those that are read behind them
abbrev pub with_front : {B F : Type 0} → List B → Result (List B) F → Result (List B) F
with_front done read = read >>= λ ys. Ok (done ++ ys)

-- the values of all items, or the first fault
unfoldable pub traverse : {A B F : Type 0} → (A → Result B F) → List A → Result (List B) F
traverse read [] = Ok []
traverse read (x ∷ xs) = then_all (read x) (traverse read xs)

-- ---- items that are read one by one, and then judged together

abbrev pub good_before : {X F : Type 0} → Result X F → List X → List X
good_before (Ok x) xs = x ∷ xs
good_before (Err e) xs = xs

-- the values of the items without a fault of their own
abbrev pub goods : {P X F : Type 0} → (P → Result X F) → List P → List X
goods read [] = []
goods read (p ∷ ps) = good_before (read p) (goods read ps)

-- an item's own fault, or else the one that its value has
abbrev pub own_or : {X F : Type 0} → Result X F → (X → Option F) → Option F
own_or (Ok x) later = later x
own_or (Err e) later = Some e

-- what is wrong with an item behind the items before it: its own fault, or that of its value
abbrev pub item_fault : {P X F : Type 0} → (P → Result X F) → (List X → X → Option F) → List P
    → P → Option F
item_fault read judge before p = own_or (read p) (judge (goods read before))

-- a state that goes on by an item's value
abbrev pub read_step : {P X S F : Type 0} → (P → Result X F) → (S → X → Result S F) → S → P
    → Result S F
read_step read step s p = read p >>= step s
