-- A fact of an answer, carried along the shape of what answers.
use Rattle.std.proofs.Common.{◌≡◌, ℕ, Bool, true, false, List, [], ◌∷◌, refl, subst, Result, Ok, Err, IfOk, All, if◌then◌else◌}
use Rattle.std.proofs.lemmas.List.Elements.{All-nil, All-cons}
use Rattle.deb_text.specs.Answers.{placed}
use Rattle.deb_text.specs.Steps.{◌>>=◌, steps, traverse}

pub if-has : {A F : Type 0} (P : A → Type 0) (b : Bool) (x y : Result A F)
    → (b ≡ true → IfOk x P) → (b ≡ false → IfOk y P) → IfOk (if b then x else y) P
if-has P true x y first second = first refl
if-has P false x y first second = second refl

pub then-has : {A B F : Type 0} (Q : A → Type 0) (P : B → Type 0)
    → (r : Result A F) (f : A → Result B F) → IfOk r Q → ((x : A) → Q x → IfOk (f x) P)
    → IfOk (r >>= f) P
then-has Q P (Ok x) f has next = next x has
then-has Q P (Err e) f has next = tt

pub traverse-has : {A B F : Type 0} (f : A → Result B F) (P : B → Type 0)
    → ((x : A) → IfOk (f x) P) → (xs : List A) → IfOk (traverse f xs) (All P)
unfolding traverse
traverse-has f P has [] = All-nil P
traverse-has f P has (x ∷ xs) =
    then-has P (All P) (f x) _ (has x)
    (λ y h. then-has (All P) (All P) (traverse f xs) _ (traverse-has f P has xs)
    (λ ys hs. All-cons P y ys h hs))

pub steps-keep : {S X F : Type 0} (f : S → X → Result S F) (P : S → Type 0)
    → ((s : S) (x : X) → P s → IfOk (f s x) P) → (xs : List X) (s : S) → P s → IfOk (steps f s xs) P
unfolding steps
steps-keep f P keeps [] s has = has
steps-keep f P keeps (x ∷ xs) s has =
    then-has P P (f s x) _ (keeps s x has) (λ t h. steps-keep f P keeps xs t h)

pub placed-has : {A : Type 0} (P : A → Type 0) (file line : ℕ) (r : Result A ℕ)
    → IfOk r P → IfOk (placed file line r) P
placed-has P file line (Ok x) has = has
placed-has P file line (Err e) has = tt

pub has-ok : {A F : Type 0} (P : A → Type 0) (r : Result A F) (x : A) → IfOk r P → r ≡ Ok x → P x
has-ok P r x has is = subst (λ s. IfOk s P) is has

pub always : {A F : Type 0} (r : Result A F) → IfOk r (λ _. Unit {0})
always (Ok x) = tt
always (Err e) = tt
