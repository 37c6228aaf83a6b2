-- Boards of waits and outputs: a list of lanes goes past a target only where the target can go on
-- itself; so a board on which nothing more goes has done all that any list can do.
use Rattle.std.proofs.Common.{◌≡◌, ℕ, ◌<◌, Bool, true, false, ◌&&◌, ◌||◌, ◌⊎◌, inl, inr, List, [], ◌∷◌, ◌++◌, length, get_or, Some, None, slice_set, refl, sym, ap, ◌∙◌, subst, arith, length-set, get_or-set_same, get_or-set_other}
use Rattle.std.specs.List.{list_any}
use Rattle.std.proofs.lemmas.Option.{none-some, same_Some, cond_some}
use Rattle.std.proofs.lemmas.Bool.{cond-true, false≢true, or_cases, or_left, or_right, and_parts, and_from, cases_eq, cases_lt}
use Rattle.std.proofs.lemmas.List.{get_or_past}
use Rattle.deb_relation.specs.Relations.{Entry}
use Rattle.farm_model.specs.Common.{Universe, variant, same, contains, names, variants, satisfies_entry, initial}
use Rattle.farm_model.specs.declared.types.Variant.{Variant}
use Rattle.farm_model.proofs.BelowLaws.{some_below-mono}
use Rattle.plan_model.specs.Common.{passes, start, OrderItem, Pass, Give, Board, on_board, rest_of, board_after, Reaches, IsAtRest}

unfoldable pub gives_item : Variant → OrderItem → Bool
gives_item v (Pass e) = false
gives_item v (Give w) = same w v

pub right-nil : {X : Type 0} (xs ys : List X) → xs ++ ys ≡ [] → ys ≡ []
right-nil [] ys e = e
right-nil (x ∷ xs) ys e = cc

-- the first of these items can be made where so much is in the archive
abbrev pub NextIs : Universe → (Variant → Bool) → List OrderItem → Type 0
NextIs u there [] = Unit {0}
NextIs u there (Pass e ∷ is) = passes u there e ≡ true
NextIs u there (Give v ∷ is) = Unit {0}

-- a wait that passes goes on passing where more is in the archive
pub passes-mono : (u : Universe) (p q : Variant → Bool) (e : Entry)
    → ((v : Variant) → p v ≡ true → q v ≡ true) → passes u p e ≡ true → passes u q e ≡ true
passes-mono u p q e h =
    let lift : (v : Variant) → (p v && satisfies_entry u e v) ≡ true
    → (q v && satisfies_entry u e v) ≡ true
    = λ v k. let parts = and_parts _ _ k in and_from _ _ (h v parts.0) parts.1 in
    some_below-mono (names u) _ _ (λ n lt. some_below-mono (variants u n) _ _
    (λ b lt' k. lift (variant n b) k))

-- the target: what each lane has left there, and what is there
module _ (u : Universe) (lanes : ℕ) (left : ℕ → List OrderItem) (there : Variant → Bool) where
  -- a board that is not past the target: each lane has left what the target has left and some more,
  -- whose outputs the target has
  pub record Behind (b : Board) : Type 0 where
    pub long : length b.rest ≡ lanes
    pub split : (l : ℕ) → l < lanes
        → (pre : List OrderItem) × (rest_of b l ≡ pre ++ left l)
        × ((v : Variant) → list_any (gives_item v) pre ≡ true → there v ≡ true)
    pub below : (v : Variant) → on_board u b v ≡ true → there v ≡ true

  split_set : (b : Board) (l : ℕ) (pre : List OrderItem) → Behind b → l < lanes
      → ((v : Variant) → list_any (gives_item v) pre ≡ true → there v ≡ true)
      → (k : ℕ) → k < lanes → (pre' : List OrderItem)
      × (get_or (slice_set b.rest l (pre ++ left l)) k [] ≡ pre' ++ left k)
      × ((v : Variant) → list_any (gives_item v) pre' ≡ true → there v ≡ true)
  split_set b l pre h lt made k lt' =
      elim (cases_eq k l) [
        | inl here ↦ (
          pre,
          ap (λ i. get_or (slice_set b.rest l (pre ++ left l)) i []) here
              ∙ get_or-set_same b.rest l (pre ++ left l) [] (omega (arith, h.long))
              ∙ ap (λ i. pre ++ left i) (sym here),
          made,
        )
        | inr other ↦ let r = h.split k lt' in
            (r.0, get_or-set_other b.rest l k (pre ++ left l) [] other ∙ r.1, r.2)
      ]

  past_item : (b next : Board) (l : ℕ) (y : OrderItem) (pre : List OrderItem) → Behind b → l < lanes
      → ((v : Variant) → list_any (gives_item v) (y ∷ pre) ≡ true → there v ≡ true)
      → board_after u b l (y ∷ (pre ++ left l)) ≡ Some next → Behind next
  unfolding gives_item
  past_item b next l (Pass e) pre h lt made q =
      let r = cond_some _ _ _ q in
      subst Behind r.1 (record {
        long = length-set b.rest l (pre ++ left l)
            ∙ h.long;
        split = split_set b l pre h lt made;
        below = h.below;
      })
  past_item b next l (Give v) pre h lt made q =
      let same_board : record {
        rest = slice_set b.rest l (pre ++ left l);
        published =
            v ∷ b.published;
      } ≡ next = same_Some _ _ q in
      subst Behind same_board
      (record {
        long = length-set b.rest l (pre ++ left l) ∙ h.long;
        split = split_set b l pre h lt (λ w k. made w (or_right _ _ k));
        below = λ w k. elim (or_cases (initial u w) (contains (v ∷ b.published) w) k) [
          | inl i ↦ h.below w (or_left (initial u w) _ i)
          | inr c ↦ elim (or_cases (same v w) (contains b.published w) c) [
            | inl new ↦ made w (or_left (same v w) _ new)
            | inr old ↦ h.below w (or_right (initial u w) _ old)
          ]
        ];
      })

  next_passes : (b next : Board) (l : ℕ) (is : List OrderItem) → Behind b
      → board_after u b l is ≡ Some next → NextIs u there is × ((is ≡ []) → ⊥)
  next_passes b next l [] h q = absurd (none-some next q)
  next_passes b next l (Pass e ∷ is) h q =
      (passes-mono u (on_board u b) there e h.below (cond_some _ _ _ q).0, λ n. cc)
  next_passes b next l (Give v ∷ is) h q = (tt, λ n. cc)

  -- what the target can do itself, at a lane of which the board shows just what the target has left
  abbrev pub Itself : Type 0
  Itself = (l : ℕ) × (l < lanes) × (NextIs u there (left l)) × ((left l ≡ []) → ⊥)

  at_item : (b next : Board) (l : ℕ) → Behind b → l < lanes → (pre : List OrderItem)
      → rest_of b l ≡ pre ++ left l →
      ((v : Variant) → list_any (gives_item v) pre ≡ true → there v ≡ true)
      → board_after u b l (rest_of b l) ≡ Some next → Itself ⊎ Behind next
  at_item b next l h lt [] e made q = let r =
      next_passes b next l (left l) h (ap (board_after u b l) (sym e) ∙ q) in inl (l, lt, r.0, r.1)
  at_item b next l h lt (y ∷ pre) e made q =
      inr (past_item b next l y pre h lt made (ap (board_after u b l) (sym e) ∙ q))

  pub board_step : (b next : Board) (l : ℕ) → Behind b → board_after u b l (rest_of b l) ≡ Some next
      → Itself ⊎ Behind next
  board_step b next l h q =
      elim (cases_lt l lanes) [
        | inl lt ↦ let r = h.split l lt in at_item b next l h lt r.0 r.1 r.2 q
        | inr ge ↦ absurd (none-some next
            (ap (board_after u b l) (sym (get_or_past b.rest l [] (omega (arith, h.long, ge))))
            ∙ q))
      ]

  -- a list of items goes past the target only where the target can make one itself
  pub walk : (order : List ℕ) (b t : Board) → Reaches u b order t → Behind b → Itself ⊎ Behind t
  walk [] b t r h = inr (subst Behind r h)
  walk (l ∷ order) b t r h = elim
      (board_step b r.0 l h r.1) [ inl it ↦ inl it | inr next ↦ walk order r.0 t r.2 next ]

  -- what one item leads behind the target is behind it
  before_split : (b : Board) (l : ℕ) (y : OrderItem) (is : List OrderItem) → rest_of b l ≡ y ∷ is
      → l < length b.rest → (m : Board) → m.rest ≡ slice_set b.rest l is → Behind m
      → ((v : Variant) → gives_item v y ≡ true → there v ≡ true)
      → (k : ℕ) → k < lanes → (pre : List OrderItem) × (rest_of b k ≡ pre ++ left k)
      × ((v : Variant) → list_any (gives_item v) pre ≡ true → there v ≡ true)
  before_split b l y is e lt m set h new k lt' =
      let r = h.split k lt' in
      elim (cases_eq k l) [
        | inl here ↦ let rest_m : rest_of m k ≡ is = ap (λ xs. get_or xs k []) set
            ∙ ap (λ i. get_or (slice_set b.rest l is) i []) here
            ∙ get_or-set_same b.rest l is [] lt in (
              y ∷ r.0,
              ap (λ i. get_or b.rest i []) here ∙ e ∙ ap (λ xs. y ∷ xs) (sym rest_m ∙ r.1),
              λ v g. elim (or_cases (gives_item v y) (list_any (gives_item v) r.0) g) [
                | inl first ↦
                    new v first
                | inr rest ↦ r.2 v rest
              ],
            )
        | inr other ↦ (
          r.0,
          sym (get_or-set_other b.rest l k is [] other)
              ∙ sym (ap (λ xs. get_or xs k []) set) ∙ r.1,
          r.2,
        )
      ]

  before_item : (b m : Board) (l : ℕ) (is : List OrderItem) → rest_of b l ≡ is → l < length b.rest
      → board_after u b l is ≡ Some m → Behind m → Behind b
  unfolding gives_item
  before_item b m l [] e lt q h = absurd (none-some m q)
  before_item b m l (Pass entry ∷ is) e lt q h =
      let r = cond_some _ _ _ q in
      let set : m.rest ≡ slice_set b.rest l is = sym (ap (λ (x : Board). x.rest) r.1) in
      let pub_is : m.published ≡ b.published = sym (ap (λ (x : Board). x.published) r.1) in
      record {
        long = sym (length-set b.rest l is) ∙ sym (ap length set) ∙ h.long;
        split = before_split b l (Pass entry) is e lt m set h (λ v k. absurd (false≢true k));
        below = λ v k. h.below v (ap (λ xs. initial u v || contains xs v) pub_is ∙ k);
      }
  before_item b m l (Give w ∷ is) e lt q h =
      let same_board : record { rest = slice_set b.rest l is; published = w ∷ b.published } ≡ m =
      same_Some _ _ q in
      let set : m.rest ≡ slice_set b.rest l is = sym (ap (λ (x : Board). x.rest) same_board) in
      let pub_is : m.published ≡ w ∷ b.published =
      sym (ap (λ (x : Board). x.published) same_board) in
      record {
        long = sym (length-set b.rest l is) ∙ sym (ap length set) ∙ h.long;
        split = before_split b l (Give w) is e lt m set h
            (λ v k. h.below v (ap (λ xs. initial u v || contains xs v) pub_is
            ∙ or_right (initial u v) _ (or_left (same w v) _ k)));
        below = λ v k. h.below v (ap (λ xs. initial u v || contains xs v) pub_is
            ∙ elim (or_cases (initial u v) (contains b.published v) k) [
              | inl i ↦
                  or_left (initial u v) _ i
              | inr c ↦
                  or_right (initial u v) _ (or_right (same w v) _ c)
            ]);
      }

  -- each board on the way to one that is behind the target is behind it
  pub before : (order : List ℕ) (b t : Board) → Reaches u b order t → Behind t → Behind b
  before [] b t r h = subst Behind (sym r) h
  before (l ∷ order) b t r h =
      elim (cases_lt l (length b.rest)) [
        | inl lt ↦ before_item b r.0 l (rest_of b l) refl lt r.1 (before order r.0 t r.2 h)
        | inr ge ↦ absurd (none-some r.0
            (ap (board_after u b l) (sym (get_or_past b.rest l [] ge)) ∙ r.1))
      ]

-- a board is behind itself
abbrev pub BehindBoard : Universe → Board → Board → Type 0
BehindBoard u t b = Behind u (length t.rest) (rest_of t) (on_board u t) b

behind_itself : (u : Universe) (b : Board) → BehindBoard u b b
behind_itself u b = record {
  long = refl;
  split =
      λ l lt. ([], refl, λ v e. absurd (false≢true e));
  below = λ v e. e;
}

-- where nothing more goes, a lane that some list brings to its end is at its end
pub stuck_exact : (u : Universe) (start end other : Board) (way order : List ℕ)
    → Reaches u start way end → IsAtRest u end → Reaches u start order other
    → (l : ℕ) → l < length end.rest → rest_of other l ≡ [] → rest_of end l ≡ []
stuck_exact u start end other way order w stuck r l lt e =
    elim (walk u (length end.rest) (rest_of end) (on_board u end) order start other r
    (before u (length end.rest) (rest_of end) (on_board u end) way start end w
    (behind_itself u end))) [
      | inl it ↦ absurd (goes it.0 (rest_of end it.0) it.2 it.3 (stuck it.0))
      | inr behind ↦ let s = behind.split l lt in right-nil s.0 (rest_of end l) (sym s.1 ∙ e)
    ]
  where
    goes : (k : ℕ) (is : List OrderItem) → NextIs u (on_board u end) is → (is ≡ [] → ⊥)
        → board_after u end k is ≡ None → ⊥
    goes k [] n ne q = ne refl
    goes k (Pass e ∷ is) n ne q = none-some _
        (sym q ∙ cond-true _ (Some (record {
          rest = slice_set end.rest k is;
          published =
              end.published;
        })) None n)
    goes k (Give v ∷ is) n ne q = none-some _ (sym q)
