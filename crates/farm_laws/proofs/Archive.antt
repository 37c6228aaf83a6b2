-- What is in the archive: the initial variants and what the lanes have made.
use Rattle.std.proofs.Common.{◌≡◌, ℕ, zero, suc, ◌<◌, Bool, true, false, ◌||◌, inl, inr, List, [], ◌∷◌, ◌++◌, length, take, Option, Some, None, slice_get, refl, sym, ap, ◌∙◌, subst, arith, take_all}
use Rattle.std.specs.List.{list_any}
use Rattle.std.specs.Option.{is_some}
use Rattle.std.proofs.Math.Bool.{or_assoc}
pub use Rattle.std.proofs.Math.Bool.{or-false}
use Rattle.std.proofs.lemmas.Bool.{cases_Bool, false≢true, or_cases, or_left, or_right}
use Rattle.std.proofs.lemmas.List.Folds.{list_any-append}
use Rattle.farm_model.specs.Common.{some_below, highest_below, Universe, variant, same, contains, outputs, initial}
use Rattle.farm_model.specs.declared.types.Variant.{Variant}
pub use Rattle.farm_model.proofs.VariantLaws.{same-true, same-refl}
use Rattle.plan_model.specs.Common.{IsBranched, Lane, outputs_of, LaneState, Publication, publication, archive, gives, publishing}
use Rattle.plan_model.specs.declared.instructions.Instruction.{Instruction}
use Rattle.plan_model.specs.declared.instructions.Instruction.TheVariants.{Publish}
use Rattle.farm_laws.proofs.Places.{IsQuiet, GoesOn, GivesOne, LeadsTo, leads_to}
use Rattle.farm_laws.proofs.Branches.{is_local, arrives}

pub take_some : {X : Type 0} (xs : List X) (i : ℕ) (x : X) → slice_get xs i ≡ Some x
    → take (suc i) xs ≡ take i xs ++ x ∷ []
take_some [] i x e = cc
take_some (y ∷ ys) zero x e = let h : y ≡ x = cc in ap (λ z. z ∷ []) h
take_some (y ∷ ys) (suc i) x e = ap (λ zs. y ∷ zs) (take_some ys i x e)

pub list_any-take : {X : Type 0} (p : X → Bool) (i : ℕ) (xs : List X)
    → list_any p (take i xs) ≡ true → list_any p xs ≡ true
list_any-take p zero xs e = absurd (false≢true e)
list_any-take p (suc i) [] e = e
list_any-take p (suc i) (x ∷ xs) e =
    elim (or_cases (p x) _ e) [
      | inl here ↦ or_left (p x) _ here
      | inr there ↦
          or_right (p x) _ (list_any-take p i xs there)
    ]

pub list_any-some : {X : Type 0} (p : X → Bool) (xs : List X) (i : ℕ) (x : X)
    → slice_get xs i ≡ Some x → p x ≡ true → list_any p xs ≡ true
list_any-some p [] i x e h = cc
list_any-some p (y ∷ ys) zero x e h = let s : y ≡ x = cc in
    or_left (p y) _ (subst (λ z. p z ≡ true) (sym s) h)
list_any-some p (y ∷ ys) (suc i) x e h = or_right (p y) _ (list_any-some p ys i x e h)

-- an element within a list
pub element : {X : Type 0} (xs : List X) (i : ℕ) → i < length xs → (x : X)
    × (slice_get xs i ≡ Some x)
element [] i lt = absurd (omega (arith, lt))
element (x ∷ xs) zero lt = (x, refl)
element (x ∷ xs) (suc i) lt = element xs i (omega (arith, lt))

pub some-highest : (n : ℕ) (p : ℕ → Bool) → is_some (highest_below n p) ≡ some_below n p
some-highest zero p = refl
some-highest (suc n) p =
    elim (cases_Bool (p n)) [
      | inl here ↦ rw here refl
      | inr fails ↦ rw fails (some-highest n p)
    ]

-- one more publication
pub archive-push : (u : Universe) (published : List Publication) (l : ℕ) (v w : Variant)
    → archive u (published ++ publication l v ∷ []) w ≡ (archive u published w || same v w)
unfolding archive
archive-push u published l v w =
    let test : Publication → Bool = λ q. same q.variant w in
    ap (λ b. initial u w || b) (list_any-append test published (publication l v ∷ [])
    ∙ ap (λ b. list_any test published || b) (or-false (same v w)))
    ∙ sym (or_assoc (initial u w) _ (same v w))

contains-take_nil : (n : ℕ) (v : Variant) → contains (take n []) v ≡ false
contains-take_nil zero v = refl
contains-take_nil (suc n) v = refl

unfoldable pub made_before : Universe → List Instruction → ℕ → Variant → Bool
made_before u is done v = list_any (gives u v) (take done is)

-- what a lane has published
abbrev pub made_by : Universe → List Instruction → ℕ → ℕ → Variant → Bool
made_by u is done made v = made_before u is done v || publishing u (slice_get is done) made v

pub publishing-zero : (u : Universe) (o : Option Instruction) (v : Variant)
    → publishing u o 0 v ≡ false
publishing-zero u None v = refl
publishing-zero u (Some x) v = refl

pub made_by-zero : (u : Universe) (is : List Instruction) (done : ℕ) (v : Variant)
    → made_by u is done 0 v ≡ made_before u is done v
made_by-zero u is done v = ap (λ b. made_before u is done v || b)
    (publishing-zero u (slice_get is done) v) ∙ or-false _

made_before-suc : (u : Universe) (is : List Instruction) (done : ℕ) (x : Instruction) (v : Variant)
    → slice_get is done ≡ Some x → made_before u is (suc done) v
    ≡ (made_before u is done v || gives u v x)
unfolding made_before
made_before-suc u is done x v e =
    ap (list_any (gives u v)) (take_some is done x e)
    ∙ list_any-append (gives u v) (take done is) (x ∷ [])
    ∙ ap (λ b. list_any (gives u v) (take done is) || b) (or-false (gives u v x))

outputs_of-quiet : (u : Universe) (there : Variant → Bool) (x : Instruction) → IsQuiet u there x
    → outputs_of u x ≡ []
outputs_of-quiet u there (Publish r) q = absurd q
outputs_of-quiet u there _ q = refl

gives-quiet : (u : Universe) (there : Variant → Bool) (x : Instruction) (v : Variant)
    → IsQuiet u there x → gives u v x ≡ false
gives-quiet u there x v q = ap (λ vs. contains vs v) (outputs_of-quiet u there x q)

pub publishing-quiet : (u : Universe) (there : Variant → Bool) (x : Instruction) (made : ℕ)
    (v : Variant) → IsQuiet u there x → publishing u (Some x) made v ≡ false
publishing-quiet u there x made v q =
    ap (λ vs. contains (take made vs) v) (outputs_of-quiet u there x q) ∙ contains-take_nil made v

-- a branch makes nothing
gives-local : (u : Universe) (x : Instruction) (v : Variant) → is_local x ≡ true
    → gives u v x ≡ false
gives-local u (Publish r) v h = absurd (false≢true h)
gives-local u _ v h = refl

made_before-arrives : (u : Universe) (of : Lane) → IsBranched of.instructions → (v : Variant)
    → (k : ℕ) (x : Instruction) (next : ℕ) → slice_get of.instructions k ≡ Some x
    → LeadsTo of k x next
    → made_before u of.instructions next v ≡ made_before u of.instructions (suc k) v
made_before-arrives u of branched v k x next e place =
    arrives of branched (λ j. made_before u of.instructions j v
    ≡ made_before u of.instructions (suc k) v)
    (λ j y is local same. made_before-suc u of.instructions j y v is
    ∙ ap (λ b. made_before u of.instructions j v || b) (gives-local u y v local)
    ∙ or-false (made_before u of.instructions j v) ∙ same) k x next e refl place

-- a quiet turn makes nothing
pub made_goes : (u : Universe) (there : Variant → Bool) (of : Lane) → IsBranched of.instructions
    → (st next : LaneState) (v : Variant)
    → GoesOn u there of st (slice_get of.instructions st.done) next
    → made_by u of.instructions next.done next.made v ≡ made_by u of.instructions st.done st.made v
made_goes u there of branched st next v g =
    let is = of.instructions in
    rw g.made
    (made_by-zero u is next.done v
    ∙ made_before-arrives u of branched v st.done g.instruction next.done g.is (leads_to g)
    ∙ made_before-suc u is st.done g.instruction v g.is
    ∙ ap (λ b. made_before u is st.done v || b)
    (gives-quiet u there g.instruction v g.quiet
    ∙ sym (publishing-quiet u there g.instruction st.made v g.quiet)
    ∙ ap (λ o. publishing u o st.made v) (sym g.is)))

pub contains-more : (vs : List Variant) (i : ℕ) (v w : Variant) → slice_get vs i ≡ Some v
    → contains (take (suc i) vs) w ≡ (contains (take i vs) w || same v w)
contains-more vs i v w e =
    ap (λ xs. contains xs w) (take_some vs i v e)
    ∙ list_any-append (λ x. same x w) (take i vs) (v ∷ [])
    ∙ ap (λ b. contains (take i vs) w || b) (or-false (same v w))

-- an output adds itself
pub made_gives : (u : Universe) (of : Lane) → IsBranched of.instructions
    → (st next : LaneState) (v w : Variant)
    → GivesOne u of st (slice_get of.instructions st.done) next v
    → made_by u of.instructions next.done next.made w
    ≡ (made_by u of.instructions st.done st.made w || same v w)
made_gives u of branched st next v w g =
    let is = of.instructions in
    let outs = outputs u g.recipe in
    let now : publishing u (slice_get is st.done) st.made w ≡ contains (take st.made outs) w =
    ap (λ o. publishing u o st.made w) g.is in
    let before : ((made_before u is st.done w || contains (take st.made outs) w) || same v w)
    ≡ (made_by u is st.done st.made w || same v w) =
    ap (λ b. (made_before u is st.done w || b) || same v w) (sym now) in
    elim g.place [
      | inl m ↦ rw (m.1, m.2)
          (ap (λ o. made_before u is st.done w || publishing u o (suc st.made) w) g.is
          ∙ ap (λ b. made_before u is st.done w || b) (contains-more outs st.made v w g.output)
          ∙ sym (or_assoc (made_before u is st.done w) (contains (take st.made outs) w) (same v w))
          ∙ before)
      | inr m ↦ rw m.2
          (made_by-zero u is next.done w
          ∙ made_before-arrives u of branched w st.done (Publish g.recipe) next.done g.is (inl m.1)
          ∙ made_before-suc u is st.done (Publish g.recipe) w g.is
          ∙ ap (λ xs. made_before u is st.done w || contains xs w)
          (sym (take_all (suc st.made) outs m.0))
          ∙ ap (λ b. made_before u is st.done w || b) (contains-more outs st.made v w g.output)
          ∙ sym (or_assoc (made_before u is st.done w) (contains (take st.made outs) w) (same v w))
          ∙ before)
    ]
