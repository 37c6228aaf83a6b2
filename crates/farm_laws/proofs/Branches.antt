-- Branches of a lane that are whole: from a place in a branch there is the next `else` or `end`,
-- and what each instruction between keeps holds there.
use Rattle.std.proofs.Common.{◌≡◌, ℕ, zero, suc, ◌≤◌, Bool, true, false, inl, inr, List, [], ◌∷◌, length, drop, Option, Some, None, slice_get, refl, sym, ap, ◌∙◌, subst, arith}
use Rattle.std.proofs.lemmas.Bool.{false≢true, both_ways}
use Rattle.deb_relation.specs.declared.operator.Op.{Op}
use Rattle.plan_model.specs.Common.{Lane, else_place, Side, Outside, InFirst, InSecond, side_behind_some, side_at, may_stand, IsBranched, past_else, past_end, landing_before, landing}
use Rattle.plan_model.specs.declared.instructions.Instruction.{Instruction}
use Rattle.plan_model.specs.declared.instructions.Instruction.TheVariants.{Publish, Wait, When, Otherwise, EndWhen}
use Rattle.farm_laws.proofs.Places.{IsWhen, LeadsTo}

pub drop_some : {X : Type 0} (xs : List X) (i : ℕ) (x : X) → slice_get xs i ≡ Some x
    → drop i xs ≡ x ∷ drop (suc i) xs
drop_some [] i x e = cc
drop_some (y ∷ ys) zero x e = let same : y ≡ x = cc in ap (λ z. z ∷ ys) same
drop_some (y ∷ ys) (suc i) x e = drop_some ys i x e

pub drop_none : {X : Type 0} (xs : List X) (i : ℕ) → slice_get xs i ≡ None → drop i xs ≡ []
drop_none [] zero e = refl
drop_none [] (suc i) e = refl
drop_none (y ∷ ys) zero e = cc
drop_none (y ∷ ys) (suc i) e = drop_none ys i e

-- an instruction of a branch that stays in it
abbrev pub is_inner : Instruction → Bool
is_inner (Publish r) = false
is_inner (Wait e) = false
is_inner (When name wanted) = false
is_inner Otherwise = false
is_inner EndWhen = false
is_inner _ = true

-- a lane stands at no `else` and no `end`
abbrev pub IsStand : Option Instruction → Type 0
IsStand (Some Otherwise) = ⊥
IsStand (Some EndWhen) = ⊥
IsStand o = Unit {0}

module _ (xs : List Instruction) (branched : IsBranched xs) where
  -- outside of all branches a lane goes on where it comes to
  pub landing-outside : (k : ℕ) → side_at xs k ≡ Outside → landing xs k ≡ k
  unfolding landing
  landing-outside k s = by (slice_get xs k) refl
    where
      by_one : (x : Instruction) → slice_get xs k ≡ Some x → may_stand Outside x ≡ true
          → landing_before (x ∷ drop (suc k) xs) k ≡ k
      by_one Otherwise e h = absurd (false≢true h)
      by_one EndWhen e h = absurd (false≢true h)
      by_one _ e h = refl

      by : (o : Option Instruction) → slice_get xs k ≡ o → landing_before (drop k xs) k ≡ k
      by None e = ap (λ ys. landing_before ys k) (drop_none xs k e)
      by (Some x) e = ap (λ ys. landing_before ys k) (drop_some xs k x e)
          ∙ by_one x e (ap (λ t. may_stand t x) (sym s) ∙ branched.stands k x e)

  side_next : (k : ℕ) (x : Instruction) → slice_get xs k ≡ Some x
      → side_at xs (suc k) ≡ side_behind_some k (side_at xs k) (Some x)
  side_next k x e = ap (side_behind_some k (side_at xs k)) e

  -- what a step inside a branch keeps
  abbrev pub Kept : Side → (ℕ → Type 0) → Type 0
  Kept s P = (j : ℕ) (x : Instruction) → slice_get xs j ≡ Some x → side_at xs j ≡ s
      → is_inner x ≡ true → P j → P (suc j)

  -- from a place of a branch: the place of its last instruction, an `else` or an `end`
  pub record Found (s : Side) (last : Instruction) (P : ℕ → Type 0) (past : ℕ) : Type 0 where
    pub at : ℕ
    pub is : slice_get xs at ≡ Some last
    pub side : side_at xs at ≡ s
    pub holds : P at
    pub place : past ≡ suc at

  -- no branch is open at a lane's end
  side_end : (s : Side) (k : ℕ) → k ≤ length xs → slice_get xs k ≡ None → side_at xs k ≡ s
      → s ≡ Outside
  side_end s k le e h = let end : k ≡ length xs = past_length xs k le e in
      sym h ∙ ap (side_at xs) end ∙ branched.closed
    where
      past_length : {X : Type 0} (ys : List X) (i : ℕ) → i ≤ length ys → slice_get ys i ≡ None
          → i ≡ length ys
      past_length [] zero b e = refl
      past_length [] (suc i) b e = omega arith
      past_length (y ∷ ys) zero b e = cc
      past_length (y ∷ ys) (suc i) b e = ap suc (past_length ys i (omega arith) e)

  get_below : (k : ℕ) (x : Instruction) → slice_get xs k ≡ Some x → suc k ≤ length xs
  get_below k x e = below xs k e
    where
      below : (ys : List Instruction) (i : ℕ) → slice_get ys i ≡ Some x → suc i ≤ length ys
      below [] i e = cc
      below (y ∷ ys) zero e = omega arith
      below (y ∷ ys) (suc i) e = let h = below ys i e in omega (arith, h)

  get_first : (ys : List Instruction) (k : ℕ) (x : Instruction) (rest : List Instruction)
      → drop k ys ≡ x ∷ rest → slice_get ys k ≡ Some x
  get_first [] zero x rest e = cc
  get_first [] (suc k) x rest e = cc
  get_first (y ∷ ys) zero x rest e = let h : y ≡ x = cc in ap Some h
  get_first (y ∷ ys) (suc k) x rest e = get_first ys k x rest e

  drop_rest : (k : ℕ) (x : Instruction) (rest : List Instruction) → drop k xs ≡ x ∷ rest
      → drop (suc k) xs ≡ rest
  drop_rest k x rest e =
      let d = sym (drop_some xs k x (get_first xs k x rest e)) ∙ e in tail_of d
    where
      tail_of : {a b : List Instruction} → x ∷ a ≡ x ∷ b → a ≡ b
      tail_of h = cc

  get_none : (ys : List Instruction) (k : ℕ) → drop k ys ≡ [] → slice_get ys k ≡ None
  get_none [] k e = refl
  get_none (y ∷ ys) zero e = cc
  get_none (y ∷ ys) (suc k) e = get_none ys k e

  not_there : (s : Side) (k : ℕ) (x : Instruction) (rest : List Instruction)
      → drop k xs ≡ x ∷ rest → side_at xs k ≡ s → may_stand s x ≡ false → ⊥
  not_there s k x rest d h refused = both_ways _ refused
      (ap (λ t. may_stand t x) (sym h) ∙ branched.stands k x (get_first xs k x rest d))

  second-outside : (w : ℕ) → InSecond w ≡ Outside → ⊥
  second-outside w e = cc

  first-outside : (w : ℕ) → InFirst w ≡ Outside → ⊥
  first-outside w e = cc

  -- an instruction between leaves the side as it is
  inner_next : (s : Side) (k : ℕ) (x : Instruction) (rest : List Instruction)
      → drop k xs ≡ x ∷ rest → side_at xs k ≡ s → side_behind_some k s (Some x) ≡ s
      → side_at xs (suc k) ≡ s
  inner_next s k x rest d h same =
      side_next k x (get_first xs k x rest d) ∙ ap (λ t. side_behind_some k t (Some x)) h ∙ same

  -- from a place of a second branch: its `end`
  pub end_found : (w : ℕ) (P : ℕ → Type 0) → Kept (InSecond w) P → (rest : List Instruction)
      (k : ℕ) → drop k xs ≡ rest → k ≤ length xs → side_at xs k ≡ InSecond w → P k
      → Found (InSecond w) EndWhen P (past_end rest k)
  end_found w P keeps [] k d le s p =
      absurd (second-outside w (side_end (InSecond w) k le (get_none xs k d) s))
  end_found w P keeps (EndWhen ∷ rest) k d le s p =
      record { at = k; is = get_first xs k EndWhen rest d; side = s; holds = p; place = refl }
  end_found w P keeps (Otherwise ∷ rest) k d le s p =
      absurd (not_there (InSecond w) k Otherwise rest d s refl)
  end_found w P keeps (Publish r ∷ rest) k d le s p =
      absurd (not_there (InSecond w) k (Publish r) rest d s refl)
  end_found w P keeps (Wait e ∷ rest) k d le s p =
      absurd (not_there (InSecond w) k (Wait e) rest d s refl)
  end_found w P keeps (When name wanted ∷ rest) k d le s p =
      absurd (not_there (InSecond w) k (When name wanted) rest d s refl)
  end_found w P keeps (x ∷ rest) k d le s p =
      let e = get_first xs k x rest d in
      end_found w P keeps rest (suc k) (drop_rest k x rest d) (get_below k x e)
      (inner_next (InSecond w) k x rest d s refl) (keeps k x e s refl p)

  -- from a place of a first branch: its `else`
  pub else_found : (w : ℕ) (P : ℕ → Type 0) → Kept (InFirst w) P → (rest : List Instruction)
      (k : ℕ) → drop k xs ≡ rest → k ≤ length xs → side_at xs k ≡ InFirst w → P k
      → Found (InFirst w) Otherwise P (past_else rest k)
  else_found w P keeps [] k d le s p =
      absurd (first-outside w (side_end (InFirst w) k le (get_none xs k d) s))
  else_found w P keeps (Otherwise ∷ rest) k d le s p =
      record { at = k; is = get_first xs k Otherwise rest d; side = s; holds = p; place = refl }
  else_found w P keeps (EndWhen ∷ rest) k d le s p =
      absurd (not_there (InFirst w) k EndWhen rest d s refl)
  else_found w P keeps (Publish r ∷ rest) k d le s p =
      absurd (not_there (InFirst w) k (Publish r) rest d s refl)
  else_found w P keeps (Wait e ∷ rest) k d le s p =
      absurd (not_there (InFirst w) k (Wait e) rest d s refl)
  else_found w P keeps (When name wanted ∷ rest) k d le s p =
      absurd (not_there (InFirst w) k (When name wanted) rest d s refl)
  else_found w P keeps (x ∷ rest) k d le s p =
      let e = get_first xs k x rest d in
      else_found w P keeps rest (suc k) (drop_rest k x rest d) (get_below k x e)
      (inner_next (InFirst w) k x rest d s refl) (keeps k x e s refl p)

  -- from a `when` on: its `else`
  pub else_behind : (k name : ℕ) (wanted : Option (Op × List ℕ))
      → slice_get xs k ≡ Some (When name wanted) → (P : ℕ → Type 0) → Kept (InFirst k) P
      → P (suc k) → Found (InFirst k) Otherwise P (past_else (drop (suc k) xs) (suc k))
  else_behind k name wanted e P keeps p =
      else_found k P keeps (drop (suc k) xs) (suc k) refl (get_below k (When name wanted) e)
      (side_next k (When name wanted) e) p

  -- from what holds where a lane comes to, what holds where it goes on: there; or behind the `end`,
  -- by what the second branch keeps, or by the end of that branch
  pub landed : (P : ℕ → Type 0) (Q : ℕ → ℕ → Type 0) (R : ℕ → Type 0)
      → ((j : ℕ) → IsStand (slice_get xs j) → P j → R j)
      → ((w j : ℕ) → side_at xs j ≡ InFirst w → slice_get xs j ≡ Some Otherwise → P j → Q w (suc j))
      → ((w : ℕ) → Kept (InSecond w) (Q w))
      → ((w j : ℕ) → side_at xs j ≡ InSecond w → slice_get xs j ≡ Some EndWhen → Q w j → R (suc j))
      → ((w j : ℕ) → side_at xs j ≡ InSecond w → slice_get xs j ≡ Some EndWhen → P j → R (suc j))
      → (k : ℕ) → P k → R (landing xs k)
  unfolding landing
  landed P Q R stays at_else keeps at_end at_own k p = by (slice_get xs k) refl
    where
      past : (x : Instruction) → slice_get xs k ≡ Some x → drop k xs ≡ x ∷ drop (suc k) xs
      past x e = drop_some xs k x e

      from_first : (w : ℕ) → side_at xs k ≡ InFirst w → slice_get xs k ≡ Some Otherwise
          → R (past_end (drop (suc k) xs) (suc k))
      from_first w s e =
          let found = end_found w (Q w) (keeps w) (drop (suc k) xs) (suc k) refl
          (get_below k Otherwise e)
          (side_next k Otherwise e ∙ ap (λ t. side_behind_some k t (Some Otherwise)) s)
          (at_else w k s e p) in
          subst R (sym found.place) (at_end w found.at found.side found.is found.holds)

      at_otherwise : (s : Side) → side_at xs k ≡ s → slice_get xs k ≡ Some Otherwise
          → R (past_end (drop (suc k) xs) (suc k))
      at_otherwise Outside s e = absurd (not_there Outside k Otherwise _ (past Otherwise e) s refl)
      at_otherwise (InFirst w) s e = from_first w s e
      at_otherwise (InSecond w) s e =
          absurd (not_there (InSecond w) k Otherwise _ (past Otherwise e) s refl)

      at_end_when : (s : Side) → side_at xs k ≡ s → slice_get xs k ≡ Some EndWhen → R (suc k)
      at_end_when Outside s e = absurd (not_there Outside k EndWhen _ (past EndWhen e) s refl)
      at_end_when (InFirst w) s e =
          absurd (not_there (InFirst w) k EndWhen _ (past EndWhen e) s refl)
      at_end_when (InSecond w) s e = at_own w k s e p

      by_one : (x : Instruction) → slice_get xs k ≡ Some x
          → R (landing_before (x ∷ drop (suc k) xs) k)
      by_one Otherwise e = at_otherwise (side_at xs k) refl e
      by_one EndWhen e = at_end_when (side_at xs k) refl e
      by_one _ e = stays k (subst IsStand (sym e) tt) p

      by : (o : Option Instruction) → slice_get xs k ≡ o → R (landing_before (drop k xs) k)
      by None e = subst (λ ys. R (landing_before ys k)) (sym (drop_none xs k e))
          (stays k (subst IsStand (sym e) tt) p)
      by (Some x) e = subst (λ ys. R (landing_before ys k)) (sym (past x e)) (by_one x e)

  -- outside of all branches stands no `else` and no `end`
  pub stand-outside : (k : ℕ) → side_at xs k ≡ Outside → IsStand (slice_get xs k)
  stand-outside k s = by (slice_get xs k) refl
    where
      by : (o : Option Instruction) → slice_get xs k ≡ o → IsStand o
      by (Some Otherwise) e = absurd (both_ways _ refl
          (ap (λ t. may_stand t Otherwise) (sym s) ∙ branched.stands k Otherwise e))
      by (Some EndWhen) e = absurd (both_ways _ refl
          (ap (λ t. may_stand t EndWhen) (sym s) ∙ branched.stands k EndWhen e))
      by _ e = tt

  -- behind an `end` a lane is outside of all branches
  pub past_end-outside : (j : ℕ) → slice_get xs j ≡ Some EndWhen → side_at xs (suc j) ≡ Outside
  past_end-outside j e = side_next j EndWhen e

  -- where a lane goes on it stands
  pub landing-stands : (k : ℕ) → IsStand (slice_get xs (landing xs k))
  landing-stands k =
      landed (λ j. Unit {0}) (λ w j. Unit {0}) (λ j. IsStand (slice_get xs j)) (λ j is p. is)
      (λ w j s e p. tt) (λ w j x e s inner p. tt)
      (λ w j s e q. stand-outside (suc j) (past_end-outside j e))
      (λ w j s e p. stand-outside (suc j) (past_end-outside j e)) k tt

-- an instruction that stays in a branch, or ends one
abbrev pub is_local : Instruction → Bool
is_local (Publish r) = false
is_local (Wait e) = false
is_local (When name wanted) = false
is_local _ = true

inner-local : (x : Instruction) → is_inner x ≡ true → is_local x ≡ true
inner-local (Publish r) h = h
inner-local (Wait e) h = h
inner-local (When name wanted) h = h
inner-local _ h = refl

-- what each such instruction keeps holds where an instruction leads to, if it holds behind it
pub arrives : (of : Lane) → IsBranched of.instructions → (P : ℕ → Type 0)
    → ((j : ℕ) (x : Instruction) → slice_get of.instructions j ≡ Some x → is_local x ≡ true → P j
    → P (suc j))
    → (k : ℕ) (x : Instruction) (next : ℕ) → slice_get of.instructions k ≡ Some x → P (suc k)
    → LeadsTo of k x next → P next
arrives of branched P keeps k x next e p place =
    elim place [
      | inl behind ↦ subst P (sym behind) (lands (suc k) p)
      | inr other ↦ subst P (sym other.1) (by x e other.0)
    ]
  where
    lands : (j : ℕ) → P j → P (landing of.instructions j)
    lands = landed of.instructions branched P (λ w j. P j) P (λ j is h. h)
        (λ w j s is h. keeps j Otherwise is refl h)
        (λ w j y is s inner h. keeps j y is (inner-local y inner) h)
        (λ w j s is h. keeps j EndWhen is refl h) (λ w j s is h. keeps j EndWhen is refl h)

    second : (name : ℕ) (wanted : Option (Op × List ℕ))
        → slice_get of.instructions k ≡ Some (When name wanted)
        → P (past_else (drop (suc k) of.instructions) (suc k))
    second name wanted is =
        let found = else_behind of.instructions branched k name wanted is P
        (λ j y at s inner h. keeps j y at (inner-local y inner) h) p in
        subst P (sym found.place) (keeps found.at Otherwise found.is refl found.holds)

    by : (y : Instruction) → slice_get of.instructions k ≡ Some y → IsWhen y
        → P (else_place of k)
    by (When name wanted) is w = lands _ (second name wanted is)
    by _ is w = absurd w

-- where an instruction leads to, a lane stands
pub arrives-stands : (of : Lane) → IsBranched of.instructions → (k : ℕ) (x : Instruction)
    (next : ℕ) → LeadsTo of k x next → IsStand (slice_get of.instructions next)
arrives-stands of branched k x next place =
    elim place [
      | inl behind ↦ subst (λ j. IsStand (slice_get of.instructions j)) (sym behind)
          (landing-stands of.instructions branched (suc k))
      | inr other ↦ subst (λ j. IsStand (slice_get of.instructions j)) (sym other.1)
          (landing-stands of.instructions branched
          (past_else (drop (suc k) of.instructions) (suc k)))
    ]
