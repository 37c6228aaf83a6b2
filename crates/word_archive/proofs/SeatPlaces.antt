-- Seats in their places, taken and given back.
use Rattle.std.proofs.Common.{Bool, IfSome, IsNone, List, None, Option, Some, [], ap, arith, length, map, set, slice_get, subst, suc, true≢false, zero, ℕ, ◌++◌, ◌+◌, ◌∙◌, ◌∷◌, ◌≡◌}
use Rattle.atomic_table.specs.Seated.{TableId}
use Rattle.plan_model.specs.Common.{items, lane}
use Rattle.archive_laws.specs.Records.{Record}
use Rattle.plan_verifier.specs.Accepted.{AcceptedPlan}
use Rattle.word_archive.specs.Seats.{LaneSeatOf, LaneSeatsOf, SeatsInPlace, log_of, seat_of}
use Rattle.word_archive.proofs.Lists.{get_map, map_set, set_same}

-- a seat that comes back to its place
pub in_place_put : (t : TableId) (p : AcceptedPlan) (n : ℕ) (xs : List (Option LaneSeatOf))
    (k : ℕ) (q : LaneSeatOf) → q ≡ seat_of t p (n + k) q.log → SeatsInPlace t p n xs
    → SeatsInPlace t p n (set xs k (Some q))
in_place_put t p n [] k q e h = tt
in_place_put t p n (None ∷ xs) zero q e h =
    let z : n + 0 ≡ n = omega arith in (e ∙ ap (λ l. seat_of t p l q.log) z, h)
in_place_put t p n (Some x ∷ xs) zero q e h =
    let z : n + 0 ≡ n = omega arith in (e ∙ ap (λ l. seat_of t p l q.log) z, h.1)
in_place_put t p n (None ∷ xs) (suc k) q e h =
    let z : n + suc k ≡ suc n + k = omega arith in
    in_place_put t p (suc n) xs k q (e ∙ ap (λ l. seat_of t p l q.log) z) h
in_place_put t p n (Some x ∷ xs) (suc k) q e h =
    let z : n + suc k ≡ suc n + k = omega arith in
    (h.0, in_place_put t p (suc n) xs k q (e ∙ ap (λ l. seat_of t p l q.log) z) h.1)

-- a seat that is taken
pub in_place_out : (t : TableId) (p : AcceptedPlan) (n : ℕ) (xs : List (Option LaneSeatOf))
    (k : ℕ) → SeatsInPlace t p n xs → SeatsInPlace t p n (set xs k None)
in_place_out t p n [] k h = tt
in_place_out t p n (None ∷ xs) zero h = h
in_place_out t p n (Some x ∷ xs) zero h = h.1
in_place_out t p n (None ∷ xs) (suc k) h = in_place_out t p (suc n) xs k h
in_place_out t p n (Some x ∷ xs) (suc k) h = (h.0, in_place_out t p (suc n) xs k h.1)

-- a seat that is in is its place's
pub in_place_at : (t : TableId) (p : AcceptedPlan) (n : ℕ) (xs : List (Option LaneSeatOf))
    (k : ℕ) (q : LaneSeatOf) → SeatsInPlace t p n xs → slice_get xs k ≡ Some (Some q)
    → q ≡ seat_of t p (n + k) q.log
in_place_at t p n [] k q h e = absurd (cc)
in_place_at t p n (None ∷ xs) zero q h e = absurd (cc)
in_place_at t p n (Some x ∷ xs) zero q h e =
    let s : x ≡ q = cc in let z : n ≡ n + 0 = omega arith in
    subst (λ y. y ≡ seat_of t p n y.log) s h.0 ∙ ap (λ l. seat_of t p l q.log) z
in_place_at t p n (None ∷ xs) (suc k) q h e =
    let z : suc n + k ≡ n + suc k = omega arith in
    in_place_at t p (suc n) xs k q h e ∙ ap (λ l. seat_of t p l q.log) z
in_place_at t p n (Some x ∷ xs) (suc k) q h e =
    let z : suc n + k ≡ n + suc k = omega arith in
    in_place_at t p (suc n) xs k q h.1 e ∙ ap (λ l. seat_of t p l q.log) z

-- one lane's seat more
pub in_place_more : (t : TableId) (p : AcceptedPlan) (n : ℕ) (xs : List (Option LaneSeatOf))
    (q : LaneSeatOf) → q ≡ seat_of t p (n + length xs) q.log → SeatsInPlace t p n xs
    → SeatsInPlace t p n (xs ++ Some q ∷ [])
in_place_more t p n [] q e h =
    let z : n + 0 ≡ n = omega arith in (e ∙ ap (λ l. seat_of t p l q.log) z, tt)
in_place_more t p n (None ∷ xs) q e h =
    let z : n + suc (length xs) ≡ suc n + length xs = omega arith in
    in_place_more t p (suc n) xs q (e ∙ ap (λ l. seat_of t p l q.log) z) h
in_place_more t p n (Some x ∷ xs) q e h =
    let z : n + suc (length xs) ≡ suc n + length xs = omega arith in
    (h.0, in_place_more t p (suc n) xs q (e ∙ ap (λ l. seat_of t p l q.log) z) h.1)

-- the seat at one place, alone
pub in_place_one : (t : TableId) (p : AcceptedPlan) (n : ℕ) (xs : List (Option LaneSeatOf))
    (k : ℕ) (o : Option LaneSeatOf) → SeatsInPlace t p n xs → slice_get xs k ≡ Some o
    → SeatsInPlace t p (n + k) (o ∷ [])
in_place_one t p n xs k None h e = tt
in_place_one t p n xs k (Some q) h e = (in_place_at t p n xs k q h e, tt)

-- all seats, as callers see them
abbrev pub seats_of : TableId → AcceptedPlan → Bool → List (Option Record) → LaneSeatsOf
seats_of t p stopped logs = record { table = t; about = p; stopped = stopped; logs = logs }

-- the seat that is taken, and those that stay
pub took : (t : TableId) (p : AcceptedPlan) (stopped : Bool) (items : List (Option LaneSeatOf))
    (lane : ℕ) (o new : Option LaneSeatOf) → SeatsInPlace t p 0 items
    → slice_get items lane ≡ Some o → new ≡ None
    → IfSome o (λ q. (q ≡ seat_of t p lane q.log)
    × (slice_get (map log_of items) lane ≡ Some (Some q.log))
    × (seats_of t p stopped (map log_of (set items lane new))
    ≡ seats_of t p stopped (set (map log_of items) lane None)))
took t p stopped items lane None new h e out = tt
took t p stopped items lane (Some q) new h e out =
    let z : 0 + lane ≡ lane = omega arith in (
      in_place_at t p 0 items lane q h e ∙ ap (λ l. seat_of t p l q.log) z,
      get_map log_of items lane (Some q) e,
      ap (seats_of t p stopped) (ap (λ n. map log_of (set items lane n)) out
          ∙ map_set log_of items lane None),
    )

-- where a seat is out, nothing changes
pub none_there : (t : TableId) (p : AcceptedPlan) (stopped : Bool)
    (items : List (Option LaneSeatOf)) (lane : ℕ) (o new : Option LaneSeatOf)
    → slice_get items lane ≡ Some o → new ≡ None → IsNone o
    → (seats_of t p stopped (map log_of (set items lane new))
    ≡ seats_of t p stopped (map log_of items))
    × (slice_get (map log_of items) lane ≡ Some None)
none_there t p stopped items lane (Some q) new e out is = absurd (true≢false is)
none_there t p stopped items lane None new e out is = (
  ap (λ xs. seats_of t p stopped (map log_of xs)) (ap (set items lane) out
      ∙ set_same items lane None e),
  get_map log_of items lane None e,
)

-- the seats with one that came back
pub gave : (t : TableId) (p : AcceptedPlan) (stopped : Bool) (items : List (Option LaneSeatOf))
    (lane : ℕ) (q : LaneSeatOf)
    → seats_of t p stopped (map log_of (set items lane (Some q)))
    ≡ seats_of t p stopped (set (map log_of items) lane (Some q.log))
gave t p stopped items lane q = ap (seats_of t p stopped) (map_set log_of items lane (Some q))
