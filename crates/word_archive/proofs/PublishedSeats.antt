-- What the lanes have published, as a loop over their seats finds it.
use Rattle.std.proofs.Common.{List, None, Option, Some, ap, append-nil, arith, get_or, length, map, slice_get, suc, sym, ℕ, ◌++◌, ◌+◌, ◌<◌, ◌∙◌, ◌≡◌}
use Rattle.atomic_table.specs.Seated.{TableId}
use Rattle.plan_model.specs.Order.{items}
use Rattle.farm_archive.specs.declared.publication.Publication.{Publication}
use Rattle.plan_verifier.specs.Accepted.{AcceptedPlan}
use Rattle.word_archive.specs.History.{lane_published, lanes_published}
use Rattle.word_archive.specs.Seats.{LaneSeatOf, SeatsInPlace, log_of, seat_of}
use Rattle.word_archive.proofs.Lists.{get_map, get_some}
use Rattle.word_archive.proofs.SeatPlaces.{in_place_at}

-- the seat of a lane, as the loop over the seats reads it
seat_there : (items : List (Option LaneSeatOf)) (k : ℕ) (o : Option LaneSeatOf) → k < length items
    → o ≡ get_or items k o → slice_get items k ≡ Some o
seat_there items k o lt e = get_some items k o lt ∙ ap (λ (x : Option LaneSeatOf). Some x) (sym e)

-- it is its place's
pub seat_is : (t : TableId) (a : AcceptedPlan) (items : List (Option LaneSeatOf)) (k : ℕ)
    (o : Option LaneSeatOf) (q : LaneSeatOf) → SeatsInPlace t a 0 items → k < length items
    → o ≡ get_or items k o → o ≡ Some q → q ≡ seat_of t a k q.log
seat_is t a items k o q h lt e is =
    let z : 0 + k ≡ k = omega arith in
    in_place_at t a 0 items k q h
    (seat_there items k o lt e ∙ ap (λ (x : Option LaneSeatOf). Some x) is)
    ∙ ap (λ l. seat_of t a l q.log) z

-- one lane more, whose seat is in
pub more_published : (t : TableId) (a : AcceptedPlan) (items : List (Option LaneSeatOf)) (k : ℕ)
    (o : Option LaneSeatOf) (q : LaneSeatOf) (old new : List Publication)
    → SeatsInPlace t a 0 items
    → k < length items → o ≡ get_or items k o → o ≡ Some q
    → old ≡ lanes_published a (map log_of items) k
    → new ≡ old ++ lane_published q.about q.lane (Some (Some q.log))
    → new ≡ lanes_published a (map log_of items) (k + 1)
more_published t a items k o q old new h lt e is was more =
    let all = map log_of items in
    let seat = seat_is t a items k o q h lt e is in
    let log : slice_get all k ≡ Some (Some q.log) =
    get_map log_of items k o (seat_there items k o lt e)
    ∙ ap (λ (x : Option LaneSeatOf). Some (log_of x)) is in
    let z : suc k ≡ k + 1 = omega arith in
    more
    ∙ ((λ i. was i ++ lane_published (seat i).about (seat i).lane (Some (Some q.log)))
    ∙ (ap (λ x. lanes_published a all k ++ lane_published a k x) (sym log)
    ∙ ap (lanes_published a all) z))

-- one lane more, whose seat is out
pub none_published : (a : AcceptedPlan) (items : List (Option LaneSeatOf)) (k : ℕ)
    (o : Option LaneSeatOf) (old : List Publication) → k < length items
    → o ≡ get_or items k o → o ≡ None → old ≡ lanes_published a (map log_of items) k
    → old ≡ lanes_published a (map log_of items) (k + 1)
none_published a items k o old lt e is was =
    let all = map log_of items in
    let log : slice_get all k ≡ Some None =
    get_map log_of items k o (seat_there items k o lt e)
    ∙ ap (λ (x : Option LaneSeatOf). Some (log_of x)) is in
    let z : suc k ≡ k + 1 = omega arith in
    was
    ∙ (sym (append-nil (lanes_published a all k))
    ∙ (ap (λ x. lanes_published a all k ++ lane_published a k x) (sym log)
    ∙ ap (lanes_published a all) z))
