-- Where no lane traps, an order shows that some lane can move.
use Rattle.std.proofs.Common.{◌≡◌, ◌≢◌, ℕ, suc, ◌<◌, ◌≤◌, Bool, true, false, ◌||◌, inl, inr, List, [], ◌∷◌, ◌++◌, length, get_or, drop, take, map, Option, Some, None, slice_get, refl, sym, ap, ◌∙◌, subst, arith, append_assoc, take-append-drop}
use Rattle.std.specs.Prelude.{nat_lt}
use Rattle.std.specs.List.{list_any}
use Rattle.std.proofs.lemmas.Option.{slice_get-get_or}
use Rattle.std.proofs.lemmas.Bool.{cond-true, false≢true, or_cases, or_left, or_right, lt-ltb}
use Rattle.std.proofs.lemmas.List.{length-map, get_or-map, take-map, take-append-le, drop-append-le}
use Rattle.std.proofs.lemmas.List.Folds.{list_any-append}
use Rattle.std.proofs.lemmas.Grind.{flat_map-append}
use Rattle.farm_model.specs.Common.{Universe, variant, recipe, outputs, initial}
use Rattle.farm_model.specs.declared.types.Variant.{Variant}
use Rattle.farm_model.specs.declared.types.Trap.{Trap}
use Rattle.plan_model.specs.Common.{Lane, Plan, no_lane, lane, instruction_at, events_of, LaneState, newest, passes, Turn, Goes, Gives, Waits, Ends, Fails, unless, unpacks, publishes, turn_of, archive, State, lane_state, Moved, Unknown, Trapped, outcome, step, gives, publishing, OrderItem, Pass, Give, items_of, items, start_board, IsOrder}
use Rattle.plan_model.specs.declared.instructions.Instruction.{Instruction}
use Rattle.plan_model.specs.declared.instructions.Instruction.TheVariants.{Unpack, Configure, Deconfigure, Remove, Build, Publish, Wait, When, Otherwise, EndWhen}
use Rattle.farm_laws.proofs.Boards.{gives_item, right-nil, NextIs, Behind, Itself, walk}
use Rattle.farm_laws.proofs.Steps.{turn_at}
use Rattle.farm_laws.proofs.Branches.{drop_some, drop_none}
use Rattle.farm_laws.specs.EventsLeft.{StandsAt, InPlace, InPlaces}
use Rattle.farm_laws.proofs.Archive.{made_before, made_by, list_any-take}
use Rattle.farm_laws.proofs.Possible.{ArchiveIs, initial_there}

-- a turn that is neither a wait nor the end
abbrev pub NotStuck : Turn → Type 0
NotStuck (Goes next) = Unit {0}
NotStuck (Gives next v) = Unit {0}
NotStuck Waits = ⊥
NotStuck Ends = ⊥
NotStuck (Fails t) = Unit {0}

-- what an instruction waits for is there
abbrev pub Ready : Universe → (Variant → Bool) → LaneState → Instruction → Type 0
Ready u there st (Publish r) = (v : Variant) × (slice_get (outputs u r) st.made ≡ Some v)
Ready u there st (Wait e) = passes u there e ≡ true
Ready u there st Otherwise = ⊥
Ready u there st EndWhen = ⊥
Ready u there st _ = Unit {0}

unless_goes : (o : Option Trap) (m : Turn) → NotStuck m → NotStuck (unless o m)
unless_goes None m h = h
unless_goes (Some t) m h = tt

unpacks_ready : (u : Universe) (of : Lane) (st : LaneState) (name : ℕ) (o : Option ℕ)
    → NotStuck (unpacks u of st name o)
unpacks_ready u of st name None = tt
unpacks_ready u of st name (Some b) = unless_goes _ (Goes _) tt

pub turn_ready : (u : Universe) (there : Variant → Bool) (of : Lane) (st : LaneState)
    (x : Instruction) → Ready u there st x → NotStuck (turn_of u there of st (Some x))
turn_ready u there of st (Unpack name wanted) r =
    unpacks_ready u of st name (newest u there name wanted)
turn_ready u there of st (Configure members) r = unless_goes _ (Goes _) tt
turn_ready u there of st (Deconfigure members) r = unless_goes _ (Goes _) tt
turn_ready u there of st (Remove members) r = unless_goes _ (Goes _) tt
turn_ready u there of st (Build recipe) r = unless_goes _ (Goes _) tt
turn_ready u there of st (Publish recipe) r =
    subst (λ o. NotStuck (publishes u of st recipe o)) (sym r.1) (unless_goes _ (Gives _ r.0) tt)
turn_ready u there of st (Wait e) r = rw r tt
turn_ready u there of st (When name wanted) r = tt
turn_ready u there of st Otherwise r = absurd r
turn_ready u there of st EndWhen r = absurd r

list_any-map : {X Y : Type 0} (p : Y → Bool) (f : X → Y) (xs : List X)
    → list_any p (map f xs) ≡ list_any (λ x. p (f x)) xs
list_any-map p f [] = refl
list_any-map p f (x ∷ xs) = ap (λ b. p (f x) || b) (list_any-map p f xs)

-- what a lane has left to do in the archive
unfoldable pub left_items : Universe → List Instruction → ℕ → ℕ → List OrderItem
left_items u is done made = drop made (items u (drop done is))

items-cons : (u : Universe) (x : Instruction) (xs : List Instruction)
    → items u (x ∷ xs) ≡ items_of u x ++ items u xs
unfolding items
items-cons u x xs = refl

items-append : (u : Universe) (xs ys : List Instruction)
    → items u (xs ++ ys) ≡ items u xs ++ items u ys
unfolding items
items-append u xs ys = flat_map-append (items_of u) xs ys

gives_item-items_of : (u : Universe) (v : Variant) (x : Instruction)
    → list_any (gives_item v) (items_of u x) ≡ gives u v x
unfolding gives_item
gives_item-items_of u v (Publish r) = list_any-map (gives_item v) Give (outputs u r)
gives_item-items_of u v _ = refl

gives_item-items : (u : Universe) (v : Variant) (xs : List Instruction)
    → list_any (gives_item v) (items u xs) ≡ list_any (gives u v) xs
unfolding items
gives_item-items u v [] = refl
gives_item-items u v (x ∷ xs) =
    list_any-append (gives_item v) (items_of u x) (items u xs)
    ∙ ap (λ b. b || list_any (gives_item v) (items u xs)) (gives_item-items_of u v x)
    ∙ ap (λ b. gives u v x || b) (gives_item-items u v xs)

-- what a lane has done in the archive
unfoldable items_before : Universe → List Instruction → ℕ → ℕ → List OrderItem
items_before u is done made = items u (take done is) ++ take made (items u (drop done is))

before_left : (u : Universe) (is : List Instruction) (done made : ℕ)
    → items u is ≡ items_before u is done made ++ left_items u is done made
unfolding items_before left_items
before_left u is done made =
    ap (items u) (sym (take-append-drop done is)) ∙ items-append u (take done is) (drop done is)
    ∙ ap (λ xs. items u (take done is) ++ xs) (sym (take-append-drop made (items u (drop done is))))
    ∙ sym (append_assoc (items u (take done is)) _ _)

length-items_of : (u : Universe) (x : Instruction) (made : ℕ) → made < events_of u x
    → made ≤ length (items_of u x)
length-items_of u (Publish r) made h = rw (length-map (outputs u r) Give) (omega arith)
length-items_of u _ made h = omega arith

gives-take : (u : Universe) (v : Variant) (x : Instruction) (made : ℕ) → made < events_of u x
    → list_any (gives_item v) (take made (items_of u x)) ≡ true
    → publishing u (Some x) made v ≡ true
unfolding gives_item
gives-take u v (Publish r) made h e =
    sym (ap (list_any (gives_item v)) (take-map Give made (outputs u r))
    ∙ list_any-map (gives_item v) Give (take made (outputs u r))) ∙ e
gives-take u v (Wait entry) made h e =
    absurd (false≢true (list_any-take (gives_item v) made (Pass entry ∷ []) e))
gives-take u v _ made h e = absurd (false≢true (list_any-take (gives_item v) made [] e))

-- at its instruction: there is none and nothing is left, or what is left begins with the rest of
-- its items
left-some : (u : Universe) (is : List Instruction) (done made : ℕ) (x : Instruction)
    → slice_get is done ≡ Some x → made < events_of u x
    → left_items u is done made ≡ drop made (items_of u x) ++ items u (drop (suc done) is)
unfolding left_items
left-some u is done made x e h =
    ap (λ xs. drop made (items u xs)) (drop_some is done x e)
    ∙ ap (drop made) (items-cons u x (drop (suc done) is))
    ∙ drop-append-le made (items_of u x) (items u (drop (suc done) is)) (length-items_of u x made h)

before-made : (u : Universe) (is : List Instruction) (done made : ℕ) (v : Variant)
    → InPlace u is done made → list_any (gives_item v) (items_before u is done made) ≡ true
    → made_by u is done made v ≡ true
unfolding items_before made_before
before-made u is done made v ok e =
    elim (or_cases _ _ (sym (list_any-append (gives_item v) (items u (take done is))
    (take made (items u (drop done is)))) ∙ e)) [
      | inl old ↦ or_left _ _ (sym (gives_item-items u v (take done is)) ∙ old)
      | inr new ↦ now (slice_get is done) refl ok new
    ]
  where
    now : (o : Option Instruction) → slice_get is done ≡ o → StandsAt u o made
        → list_any (gives_item v) (take made (items u (drop done is))) ≡ true
        → made_by u is done made v ≡ true
    now None e z g = absurd (false≢true
        (ap (λ m. list_any (gives_item v) (take m (items u (drop done is)))) (sym z) ∙ g))
    now (Some x) e lt g =
        let same : take made (items u (drop done is)) ≡ take made (items_of u x) =
        ap (λ xs. take made (items u xs)) (drop_some is done x e)
        ∙ ap (take made) (items-cons u x (drop (suc done) is))
        ∙ take-append-le made (items_of u x) (items u (drop (suc done) is))
        (length-items_of u x made lt) in
        or_right _ _ (ap (λ o. publishing u o made v) e
        ∙ gives-take u v x made lt (ap (list_any (gives_item v)) (sym same) ∙ g))

module _ (u : Universe) (p : Plan) (s : State) (places : InPlaces u p s)
    (archive_is : ArchiveIs u p s) (no_trap : (l : ℕ) (t : Trap) → step u p s l ≢ Trapped t) where
  abbrev there : Variant → Bool
  there = archive u s.published

  abbrev left_of : ℕ → List OrderItem
  left_of l = left_items u (lane p l).instructions (lane_state s l).done (lane_state s l).made

  abbrev SomeMove : Type 0
  SomeMove = (k : ℕ) × (next : State) × (step u p s k ≡ Moved next)

  ready_moves : (l : ℕ) (x : Instruction) → l < length p
      → instruction_at p l (lane_state s l).done ≡ Some x → Ready u there (lane_state s l) x
      → SomeMove
  unfolding step turn_at
  ready_moves l x h e r =
      goes (turn_at u p s l) refl (subst
      (λ o. NotStuck (turn_of u there (lane p l) (lane_state s l) o)) (sym e)
      (turn_ready u there (lane p l) (lane_state s l) x r))
    where
      is_step : (m : Turn) → turn_at u p s l ≡ m → step u p s l ≡ outcome s l m
      is_step m e = cond-true (nat_lt l (length p)) _ Unknown (lt-ltb l (length p) h)
          ∙ ap (outcome s l) e

      goes : (m : Turn) → turn_at u p s l ≡ m → NotStuck m → SomeMove
      goes (Goes next) e n = (l, _, is_step (Goes next) e)
      goes (Gives next v) e n = (l, _, is_step (Gives next v) e)
      goes Waits e n = absurd n
      goes Ends e n = absurd n
      goes (Fails t) e n = absurd (no_trap l t (is_step (Fails t) e))

  -- a lane that is not at its end is ready, if what it has left does not begin with a wait that
  -- does not pass
  stands_ready : (l : ℕ) (x : Instruction) → l < length p
      → instruction_at p l (lane_state s l).done ≡ Some x → (lane_state s l).made < events_of u x
      → NextIs u there (drop (lane_state s l).made (items_of u x) ++ items u
      (drop (suc (lane_state s l).done) (lane p l).instructions))
      → Ready u there (lane_state s l) x
  stands_ready l (Publish r) h e lt n = (
    get_or (outputs u r) (lane_state s l).made (variant 0 0),
    slice_get-get_or (outputs u r) (lane_state s l).made (variant 0 0) lt,
  )
  stands_ready l (Wait entry) h e lt n =
      let zero_made : (lane_state s l).made ≡ 0 = omega arith in
      rw zero_made at n
  stands_ready l Otherwise h e lt n = absurd (omega (arith, lt))
  stands_ready l EndWhen h e lt n = absurd (omega (arith, lt))
  stands_ready l _ h e lt n = tt

  lane_moves : (l : ℕ) (x : Instruction) → l < length p
      → instruction_at p l (lane_state s l).done ≡ Some x → NextIs u there (left_of l) → SomeMove
  lane_moves l x h e n =
      let lt : (lane_state s l).made < events_of u x = rw e at (places.each l h) in
      ready_moves l x h e (stands_ready l x h e lt
      (subst (NextIs u there) (left-some u (lane p l).instructions (lane_state s l).done
      (lane_state s l).made x e lt) n))

  ended : (l : ℕ) → l < length p → instruction_at p l (lane_state s l).done ≡ None → left_of l ≡ []
  unfolding left_items items
  ended l lt e =
      let none_made : (lane_state s l).made ≡ 0 = rw e at (places.each l lt) in
      ap (λ m. drop m (items u (drop (lane_state s l).done (lane p l).instructions))) none_made
      ∙ ap (items u) (drop_none (lane p l).instructions (lane_state s l).done e)

  -- a lane that has an item left, and whose next item is no wait that does not pass, moves
  itself_moves : Itself u (length p) left_of there → SomeMove
  itself_moves it = by (instruction_at p it.0 (lane_state s it.0).done) refl
    where
      by : (o : Option Instruction) → instruction_at p it.0 (lane_state s it.0).done ≡ o → SomeMove
      by None e = absurd (it.3 (ended it.0 it.1 e))
      by (Some x) e = lane_moves it.0 x it.1 e it.2

  start_behind : Behind u (length p) left_of there (start_board u p)
  start_behind =
      record {
        long = length-map p _;
        split = λ l lt. (
          items_before u (lane p l).instructions (lane_state s l).done (lane_state s l).made,
          get_or-map (λ (of : Lane). items u of.instructions) p l no_lane [] lt
              ∙ before_left u (lane p l).instructions (lane_state s l).done (lane_state s l).made,
          λ v e. archive_is.all l v lt (before-made u (lane p l).instructions (lane_state s l).done
              (lane_state s l).made v (places.each l lt) e),
        );
        below = λ v e. elim (or_cases (initial u v) false e) [
          | inl i ↦
              initial_there u p s.published v i
          | inr none ↦ absurd (false≢true none)
        ];
      }

  -- where a lane has instructions left, some lane moves
  pub some_move : (order : List ℕ) → IsOrder u p order → (l : ℕ) → l < length p
      → (lane_state s l).done < length (lane p l).instructions → SomeMove
  some_move order o l lt more =
      elim (walk u (length p) left_of there order (start_board u p) o.end o.way start_behind) [
        | inl it ↦ itself_moves it
        | inr behind ↦ let r = behind.split l lt in
            let none : left_of l ≡ [] = right-nil r.0 (left_of l) (sym r.1 ∙ o.all_done l) in
            lane_moves l _ lt (slice_get-get_or (lane p l).instructions (lane_state s l).done
            (Build 0) more) (subst (NextIs u there) (sym none) tt)
      ]
