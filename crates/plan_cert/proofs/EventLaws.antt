-- The events of the lanes, made one after another.
use Rattle.std.proofs.Common.{◌≡◌, ◌≢◌, ℕ, zero, suc, ◌+◌, ◌<◌, ◌≤◌, Bool, true, false, List, [], ◌∷◌, ◌++◌, length, map, take, drop, get_or, Option, Some, None, slice_get, slice_index, slice_set, All, inl, inr, refl, sym, ap, subst, ◌∙◌, arith, length-set, get_or-set_same, get_or-set_other}
use Rattle.std.proofs.Math.Seq.{drop-cons}
use Rattle.std.proofs.Math.ListN.{drop_of_length-le}
use Rattle.std.proofs.lemmas.Bool.{cases_eq, cases_lt, eq-eqb, ne_eqb, false≢true}
use Rattle.std.proofs.lemmas.Grind.{flat_map-append}
use Rattle.std.proofs.lemmas.List.{append-nil, map-append, get_or_past, take_all, length-map, drop-map}
use Rattle.std.proofs.lemmas.List.Elements.{All-append, All-map}
use Rattle.bit_rows.specs.Sets.{variants_of, AddsVariant}
use Rattle.deb_relation.specs.Relations.{Entry}
use Rattle.farm_laws.proofs.Archive.{take_some}
use Rattle.farm_model.specs.Common.{Universe, names, outputs, IsUniverse, IsKnown}
use Rattle.farm_model.specs.declared.types.Variant.{Variant}
use Rattle.plan_model.specs.Common.{OrderItem, Pass, Give, items_of, items, start_board, on_board, rest_of, board_after, Reaches, IsOrder, Plan, lane, instruction_at}
use Rattle.plan_model.specs.declared.instructions.Instruction.{Instruction}
use Rattle.plan_model.specs.declared.instructions.Instruction.TheVariants.{Wait}
use Rattle.plan_model.specs.Turn as turn
use Rattle.sat_rows.specs.Rows.{IsRowOf}
use Rattle.wait_order.specs.Standing.{IsReached, with_left}
use Rattle.wait_order.proofs.Boards.{reached_same}
use Rattle.wait_order.proofs.Leading.{makes_none, makes_pass, makes_give}
use Rattle.plan_cert.specs.declared.events.Event.{Event}
use Rattle.plan_cert.specs.Broken.{IsBrokenAt}
use Rattle.plan_cert.specs.Events.{entry_of, order_item_of, IsEvent, AreEvents, lane_items, left_by, IsMade, IsStep}

pub items-next : (u : Universe) (is : List Instruction) (i : ℕ) (x : Instruction)
    → slice_get is i ≡ Some x → items u (take (i + 1) is) ≡ items u (take i is) ++ items_of u x
unfolding items
items-next u is i x at =
    ap (λ k. items u (take k is)) (let e : i + 1 ≡ suc i = omega arith in e)
    ∙ ap (items u) (take_some is i x at) ∙ flat_map-append (items_of u) (take i is) (x ∷ [])
    ∙ ap (λ xs. items u (take i is) ++ xs) (append-nil (items_of u x))

pub items-start : (u : Universe) (is : List Instruction) → [] ≡ items u (take 0 is)
unfolding items
items-start u is = refl

-- the outputs of a recipe behind some events
pub gives-each : (u : Universe) (p : Plan) (l r : ℕ) (events more : List Event) → IsUniverse u
    → All (IsEvent u p l) events → more ≡ events ++ map Event.Give (outputs u r)
    → All (IsEvent u p l) more
gives-each u p l r events more sound each is =
    subst (All (IsEvent u p l)) (sym is)
    (All-append (IsEvent u p l) events (map Event.Give (outputs u r)) each
    (All-map (IsEvent u p l) Event.Give (outputs u r) (sound.outputs_known r)))

gives : (p : Plan) (l : ℕ) (vs : List Variant)
    → map (order_item_of p l) (map Event.Give vs) ≡ map Give vs
gives p l [] = refl
gives p l (v ∷ vs) = ap (λ xs. Give v ∷ xs) (gives p l vs)

pub gives-items : (p : Plan) (l : ℕ) (vs : List Variant) (events more : List Event)
    → more ≡ events ++ map Event.Give vs
    → map (order_item_of p l) more ≡ map (order_item_of p l) events ++ map Give vs
gives-items p l vs events more is =
    ap (map (order_item_of p l)) is ∙ map-append (order_item_of p l) events (map Event.Give vs)
    ∙ ap (λ xs. map (order_item_of p l) events ++ xs) (gives p l vs)

pub pass-more : (u : Universe) (p : Plan) (l place : ℕ) (events : List Event) (x : Instruction)
    (e : Entry) → instruction_at p l place ≡ Some x → x ≡ Wait e
    → map (order_item_of p l) (events ++ Event.Pass place ∷ [])
    ≡ map (order_item_of p l) events ++ items_of u x
pass-more u p l place events x e at is =
    map-append (order_item_of p l) events (Event.Pass place ∷ [])
    ∙ ap (λ o. map (order_item_of p l) events ++ Pass (entry_of o) ∷ []) (at ∙ ap Some is)
    ∙ ap (λ y. map (order_item_of p l) events ++ items_of u y) (sym is)

-- a wait that is told by a hit
pub made-pass : (u : Universe) (p : Plan) (l place : ℕ) (e : Entry) (there : List ℕ) (hit : Bool)
    → instruction_at p l place ≡ Some (Wait e) → length there ≡ names u
    → ((test : Variant → Bool) → IsRowOf u test there → hit ≡ turn.passes u test e)
    → IsMade u l (order_item_of p l (Event.Pass place)) there there hit
made-pass u p l place e there hit at long passes =
    subst (λ (o : Option Instruction). IsMade u l (Pass (entry_of o)) there there hit) (sym at)
    (record {
      long = long;
      makes = λ t order. makes_pass u l e order there (λ test is. sym (passes test is) ∙ t);
      stops = λ f b more is. rw (sym (passes (on_board u b) is) ∙ f) refl;
    })

pub made-give : (u : Universe) (l : ℕ) (v : Variant) (there next_there : List ℕ) → IsKnown u v
    → AddsVariant (variants_of there) v.name v.bit (variants_of next_there)
    → length next_there ≡ names u → IsMade u l (Give v) there next_there true
made-give u l v there next_there known adds long =
    record {
      long = long;
      makes = λ t order. makes_give u l (v ∷ []) 0 v v order there order there next_there
          (omega arith) refl known adds long (makes_none u l order there);
      stops = λ f. absurd (false≢true (sym f));
    }

-- the items of a lane behind those that are made
module _ (u : Universe) (p : Plan) (l : ℕ) (events : List Event)
    (are : AreEvents u p l (length (lane p l).instructions) events) where
  all-items : map (order_item_of p l) events ≡ lane_items u p l
  all-items =
      are.items ∙ ap (items u)
      (take_all (length (lane p l).instructions) (lane p l).instructions (omega arith))

  pub items-long : length (lane_items u p l) ≡ length events
  items-long = ap length (sym all-items) ∙ length-map events (order_item_of p l)

  pub left-next : (n : ℕ) (d : Event) → n < length events
      → drop n (lane_items u p l) ≡ order_item_of p l (get_or events n d)
      ∷ drop (suc n) (lane_items u p l)
  left-next n d lt =
      ap (drop n) (sym all-items) ∙ drop-map (order_item_of p l) n events
      ∙ ap (map (order_item_of p l)) (drop-cons events n d lt)
      ∙ ap (λ xs. order_item_of p l (get_or events n d) ∷ xs)
      (sym (drop-map (order_item_of p l) (suc n) events) ∙ ap (drop (suc n)) all-items)

drop-some : {X : Type 0} (xs : List X) (i : ℕ) → i < length xs → drop i xs ≢ []
drop-some [] i lt e = absurd (omega arith)
drop-some (x ∷ xs) zero lt e = cc
drop-some (x ∷ xs) (suc i) lt e = drop-some xs i (omega arith) e

-- a lane that cannot step
pub stops-ended : (u : Universe) (p : Plan) (l : ℕ) (made there : List ℕ) → l < length p
    → length there ≡ names u → length (lane_items u p l) ≤ slice_index made l
    → IsStep u p l made made there there false
stops-ended u p l made there lt long past =
    record {
      long = long;
      lanes = refl;
      makes = λ t. absurd (false≢true t);
      stops = λ f order r. ap (board_after u r.board l)
          (r.rest l lt ∙ drop_of_length-le (lane_items u p l) past);
    }

pub stops-waits : (u : Universe) (p : Plan) (l : ℕ) (made there next_there : List ℕ)
    (item : OrderItem)
    (more : List OrderItem) → l < length p → left_by u p made l ≡ item ∷ more
    → IsMade u l item there next_there false → IsStep u p l made made there next_there false
stops-waits u p l made there next_there item more lt ahead is =
    record {
      long = is.long;
      lanes = refl;
      makes = λ t. absurd (false≢true t);
      stops = λ f order r. ap (board_after u r.board l) (r.rest l lt ∙ ahead)
          ∙ is.stops refl r.board more r.archive;
    }

-- and one that does
pub steps : (u : Universe) (p : Plan) (l : ℕ) (made there next_there : List ℕ) (item : OrderItem)
    → l < length p
    → l < length made
    → left_by u p made l ≡ item ∷ drop (suc (slice_index made l)) (lane_items u p l)
    → IsMade u l item there next_there true
    → IsStep u p l made (slice_set made l (slice_index made l + 1)) there next_there true
steps u p l made there next_there item lt lt2 ahead is =
    record {
      long = is.long;
      lanes = length-set made l (slice_index made l + 1);
      makes = λ t order r. reached_same u p (order ++ l ∷ []) next_there _ _
          (λ k k_lt. after k)
          (is.makes refl order p (left_by u p made)
          (drop (suc (slice_index made l)) (lane_items u p l)) lt r ahead);
      stops = λ f. absurd (false≢true (sym f));
    }
  where
    next : List ℕ
    next = slice_set made l (slice_index made l + 1)

    after : (k : ℕ) → with_left (left_by u p made) l
        (drop (suc (slice_index made l)) (lane_items u p l)) k
        ≡ left_by u p (slice_set made l (slice_index made l + 1)) k
    after k =
        elim (cases_eq k l) [
          | inl here ↦
              (rw (eq-eqb k l here) refl)
              ∙ ap (λ n. drop n (lane_items u p l))
              (sym (get_or-set_same made l (slice_index made l + 1) 0 lt2
              ∙ (let e : slice_index made l + 1 ≡ suc (slice_index made l) = omega arith in e)))
              ∙ ap (left_by u p (slice_set made l (slice_index made l + 1))) (sym here)
          | inr other ↦
              (rw (ne_eqb k l other) refl)
              ∙ ap (λ n. drop n (lane_items u p k))
              (sym (get_or-set_other made l k (slice_index made l + 1) 0 other))
        ]

-- ---- the list

pub broken-here : (u : Universe) (p : Plan) (order made there next next_there : List ℕ) (n l : ℕ)
    → n < length order → l ≡ slice_index order n
    → IsReached u p (take n order) there (left_by u p made)
    → IsStep u p l made next there next_there false → (item : ℕ) → item ≡ n + 1
    → IsBrokenAt u p order item
broken-here u p order made there next next_there n l lt is r step item numbered = (
  n,
  numbered,
  inl (record {
    board = r.board;
    within = lt;
    way = r.way;
    stops = subst (λ k. board_after u r.board k (rest_of r.board k) ≡ None) is
        (step.stops refl (take n order) r);
  }),
)

pub broken-end : (u : Universe) (p : Plan) (order made there : List ℕ) (l : ℕ) → l < length p
    → slice_index made l < length (lane_items u p l)
    → IsReached u p (take (length order) order) there (left_by u p made) → (item : ℕ)
    → item ≡ length order + 1 → IsBrokenAt u p order item
broken-end u p order made there l lt left r item numbered = (
  length order,
  numbered,
  inr (record {
    board = r.board;
    ended = refl;
    way = subst (λ xs. Reaches u (start_board u p) xs r.board)
        (take_all (length order) order (omega arith)) r.way;
    lane = l;
    left = λ none. drop-some (lane_items u p l) (slice_index made l) left
        (sym (r.rest l lt) ∙ none);
  }),
)

pub order-whole : (u : Universe) (p : Plan) (order made there : List ℕ) (n : ℕ) → length order ≤ n
    → ((l : ℕ) → l < length p → length (lane_items u p l) ≤ slice_index made l)
    → IsReached u p (take n order) there (left_by u p made) → IsOrder u p order
order-whole u p order made there n le none r =
    record {
      end = r.board;
      way = subst (λ xs. Reaches u (start_board u p) xs r.board) (take_all n order le) r.way;
      all_done = λ l. elim (cases_lt l (length p)) [
        | inl lt ↦ r.rest l lt ∙ drop_of_length-le (lane_items u p l) (none l lt)
        | inr past ↦ get_or_past r.board.rest l [] (omega (arith, past, r.long))
      ];
    }
