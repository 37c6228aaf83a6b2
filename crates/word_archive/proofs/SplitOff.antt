-- The seats of the first lanes, as they are split off.
use Rattle.std.proofs.Common.{List, Option, Some, [], ap, arith, false, length, length-append, map, refl, subst, suc, sym, take, zero, ℕ, ◌++◌, ◌+◌, ◌<◌, ◌∙◌, ◌∷◌, ◌≡◌}
use Rattle.std.specs.Prelude.{slice_index_or}
use Rattle.atomic_table.specs.Seated.{TableId}
use Rattle.atomic_table.specs.Table.{Me}
use Rattle.farm_model.specs.Packages.{same}
use Rattle.plan_model.specs.Common.{items, Plan, lane, no_lane}
use Rattle.archive_laws.specs.Records.{blank}
use Rattle.plan_verifier.specs.Accepted.{AcceptedPlan}
use Rattle.word_archive.specs.Seats.{LaneSeatOf, SeatsInPlace, blank_log, log_of, seat_of}
use Rattle.word_archive.specs.Views.{SeatView, base_view}
use Rattle.word_archive.proofs.SeatPlaces.{in_place_more, seats_of}

-- the first n lanes have their seats
pub record SplitOff (t : TableId) (p : AcceptedPlan) (n : ℕ)
    (items : List (Option LaneSeatOf)) : Type 0 where
  pub places : SeatsInPlace t p 0 items
  pub long : length items ≡ n
  pub logs : map log_of items ≡ map (blank_log p.universe) (take n p.plan)

-- at first no lane has
pub split_none : (t : TableId) (p : AcceptedPlan) (items : List (Option LaneSeatOf)) → items ≡ []
    → SplitOff t p 0 items
split_none t p items e =
    subst (SplitOff t p 0) (sym e) (record { places = tt; long = refl; logs = refl })

-- the first lanes and one more
take_more : (xs : Plan) (n : ℕ) → n < length xs
    → take (n + 1) xs ≡ take n xs ++ slice_index_or xs n no_lane ∷ []
take_more [] n lt = absurd (omega arith)
take_more (x ∷ xs) zero lt = refl
take_more (x ∷ xs) (suc n) lt =
    let e : suc n + 1 ≡ suc (n + 1) = omega arith in
    ap (λ m. take m (x ∷ xs)) e ∙ ap (λ l. x ∷ l) (take_more xs n (omega arith))

-- a map over one element more
map_more : {A B : Type 0} (f : A → B) (xs : List A) (y : A)
    → map f (xs ++ y ∷ []) ≡ map f xs ++ f y ∷ []
map_more f [] y = refl
map_more f (x ∷ xs) y = ap (λ l. f x ∷ l) (map_more f xs y)

-- one lane more has its seat
pub split_more : (t : TableId) (p : AcceptedPlan) (n : ℕ) (items more : List (Option LaneSeatOf))
    (q : LaneSeatOf) → n < length p.plan → q ≡ seat_of t p n (blank p.universe (lane p.plan n))
    → more ≡ items ++ Some q ∷ []
    → SplitOff t p n items → SplitOff t p (n + 1) more
split_more t p n items more q lt e is s =
    let z : n ≡ 0 + length items = let l = s.long in omega arith in
    let log : blank p.universe (lane p.plan n) ≡ q.log = sym (ap (λ y. y.log) e) in
    let f = blank_log p.universe in
    let all : SplitOff t p (n + 1) (items ++ Some q ∷ []) = record {
      places = in_place_more t p 0 items q (e ∙ (λ i. seat_of t p (z i) (log i))) s.places;
      long = let l = s.long in omega (arith, length-append items (Some q ∷ []));
      logs =
          map_more log_of items (Some q)
          ∙ (ap (λ l. l ++ Some q.log ∷ []) s.logs
          ∙ (ap (λ r. map f (take n p.plan) ++ Some r ∷ []) (sym log)
          ∙ sym (ap (map f) (take_more p.plan n lt)
          ∙ map_more f (take n p.plan) (slice_index_or p.plan n no_lane))));
    } in
    subst (SplitOff t p (n + 1)) (sym is) all

-- all lanes
take_whole : (xs : Plan) → take (length xs) xs ≡ xs
take_whole [] = refl
take_whole (x ∷ xs) = ap (λ l. x ∷ l) (take_whole xs)

-- once all have, the seats keep what they keep
pub seats_fit : {S : Type 0} (t u : TableId) (p : AcceptedPlan) (n : ℕ) (me : Me S SeatView)
    (items : List (Option LaneSeatOf)) → me ≡ (base_view p n false [], []) → n ≡ length p.plan
    → u ≡ t → SplitOff t p n items
    → (me ≡ (base_view me.0.about (length items) me.0.stopped [], []))
    × SeatsInPlace u me.0.about 0 items × (length items ≡ length me.0.about.plan)
seats_fit {S} t u p n me items is all same s =
    subst (λ (m : Me S SeatView). (m ≡ (base_view m.0.about (length items) m.0.stopped [], []))
    × SeatsInPlace u m.0.about 0 items × (length items ≡ length m.0.about.plan)) (sym is) (
      ap (λ k. (base_view p k false [], [])) (sym s.long),
      subst (λ x. SeatsInPlace x p 0 items) (sym same) s.places,
      s.long ∙ all,
    )

-- and are those of an archive that was opened
pub seats_shown : {S : Type 0} (t u : TableId) (p : AcceptedPlan) (n : ℕ) (me : Me S SeatView)
    (items : List (Option LaneSeatOf)) → me ≡ (base_view p n false [], []) → n ≡ length p.plan
    → u ≡ t → SplitOff t p n items
    → seats_of u me.0.about me.0.stopped (map log_of items)
    ≡ seats_of t p false (map (blank_log p.universe) p.plan)
seats_shown {S} t u p n me items is all same s =
    subst (λ (m : Me S SeatView). seats_of u m.0.about m.0.stopped (map log_of items)
    ≡ seats_of t p false (map (blank_log p.universe) p.plan)) (sym is)
    (λ i. seats_of (same i) p false ((s.logs ∙ ap (map (blank_log p.universe))
    (ap (λ k. take k p.plan) all ∙ take_whole p.plan)) i))
