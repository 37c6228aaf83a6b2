-- Desks behind calls.
use Rattle.std.proofs.Common.{◌≡◌, refl, sym, ap, ◌∙◌, arith, ℕ, zero, suc, ◌<◌, ◌≤◌, ◌≢◌, Bool, true, false, ◌&&◌, ◌==◌, max, nat_le, List, [], ◌∷◌, length, fold, slice_set, get_or-set_other, get_or-set_same}
use Rattle.std.specs.Prelude.{◌^◌, map, slice_index_or, if◌then◌else◌}
use Rattle.std.proofs.lemmas.Bool.{false≢true, lt-leb}
use Rattle.drive_replay.specs.LaneNotes.{LaneNotes}
use Rattle.drive_run.specs.DoneBefore.{AreBelow, AreNeverAsked, IsDoneBefore, leasts}
use Rattle.drive_run.specs.declared.known.LaneWords.{LaneWords}
use Rattle.drive_run.specs.declared.desk.LaneDesk.{LaneDesk}
use Rattle.drive_run.specs.declared.desk.Request.{Request}
use Rattle.drive_run.specs.declared.desk.Request.TheVariants.{Idle, Open, Answered}
use Rattle.drive_run.specs.LaneDesks.{Desks, idle, desk_at, request_at, is_idle, is_open_in, may_ask, with_request, asked, posted, read, taken, withdrawn, closed, stopped}
use Rattle.plan_model.specs.Plan.{Plan}
use Rattle.drive_run.specs.Laws.{Call, Asks, Posts, Takes, Withdraws, Stops, behind}

-- ---- the least number that a lane may ask for never falls

set_least : (d : Desks) (k l : ℕ) (x : LaneDesk) → (desk_at d k).least ≤ x.least
    → (desk_at d l).least ≤ (desk_at (slice_set d k x) l).least
set_least [] k l x more = omega arith
set_least (e ∷ d) zero zero x more = more
set_least (e ∷ d) zero (suc l) x more = omega arith
set_least (e ∷ d) (suc k) zero x more = omega arith
set_least (e ∷ d) (suc k) (suc l) x more = set_least d k l x more

request_least : (ok : Bool) (d : Desks) (k l : ℕ) (r : Request)
    → (desk_at d l).least ≤ (desk_at (if ok then with_request d k r else d) l).least
request_least true d k l r =
    set_least d k l (record (desk_at d k) { request = r }) (omega arith)
request_least false d k l r = omega arith

read_least : (e : LaneDesk) (r : Request) → e.least ≤ (read e r).least
read_least e Idle = omega arith
read_least e (Open n) = omega arith
read_least e (Answered n true) = omega arith
read_least e (Answered n false) = omega arith

closed_least : (d : Desks) (l : ℕ) → (desk_at d l).least ≤ (desk_at (stopped d) l).least
closed_least [] l = omega arith
closed_least (e ∷ d) zero = omega arith
closed_least (e ∷ d) (suc l) = closed_least d l

call_least : (d : Desks) (c : Call) (l : ℕ)
    → (desk_at d l).least ≤ (desk_at (behind d c) l).least
unfolding asked posted taken withdrawn
call_least d (Asks k n) l = request_least (may_ask d k n) d k l (Open n)
call_least d (Posts k n done) l =
    request_least (is_open_in (request_at d k) n) d k l (Answered n done)
call_least d (Takes k) l =
    set_least d k l (read (desk_at d k) (request_at d k))
    (read_least (desk_at d k) (request_at d k))
call_least d (Withdraws k) l = request_least true d k l Idle
call_least d Stops l = closed_least d l

calls_least : (calls : List Call) (d : Desks) (l : ℕ)
    → (desk_at d l).least ≤ (desk_at (fold behind d calls) l).least
calls_least [] d l = omega arith
calls_least (c ∷ calls) d l =
    omega (arith, call_least d c l, calls_least calls (behind d c) l)

-- ---- what is done

set_here : (d : Desks) (l n : ℕ) (x : LaneDesk) → request_at d l ≡ Answered n true
    → desk_at (slice_set d l x) l ≡ x
set_here [] l n x e = absurd (false≢true (sym (ap is_idle e)))
set_here (e ∷ d) zero n x is = refl
set_here (e ∷ d) (suc l) n x is = set_here d l n x is

taken_least : (d : Desks) (l n : ℕ) → request_at d l ≡ Answered n true
    → n < (desk_at (taken d l) l).least
unfolding taken
taken_least d l n is =
    let here = set_here d l n (read (desk_at d l) (request_at d l)) is in
    let at : (desk_at (slice_set d l (read (desk_at d l) (request_at d l))) l).least
    ≡ max (desk_at d l).least (suc n) =
    ap (λ (x : LaneDesk). x.least) (here ∙ ap (read (desk_at d l)) is) in
    omega (arith, at)

and_false : (x y : Bool) → y ≡ false → (x && y) ≡ false
and_false true y e = e
and_false false y e = refl

-- what is below the least number is not asked, whatever is called
below_not_asked : (d : Desks) (l n : ℕ) (calls : List Call) → n < (desk_at d l).least
    → may_ask (fold behind d calls) l n ≡ false
below_not_asked d l n calls below =
    let after = fold behind d calls in
    let lt : n < (desk_at after l).least = omega (arith, below, calls_least calls d l) in
    and_false (is_idle (request_at after l)) (nat_le (desk_at after l).least n) (lt-leb _ _ lt)

idle_least : (least : List ℕ) (l : ℕ)
    → (desk_at (map idle least) l).least ≡ slice_index_or least l 0
idle_least [] l = refl
idle_least (x ∷ least) zero = refl
idle_least (x ∷ least) (suc l) = idle_least least l

-- what an earlier run has done is below the least numbers of desks that are made of them
pub never_asked : (p : Plan) (notes : LaneNotes) (words : List LaneWords) (d : Desks)
    → d ≡ map idle (leasts words) → AreBelow p notes words → AreNeverAsked p notes d
never_asked p notes words d made below l n calls done =
    let least : (desk_at d l).least ≡ slice_index_or (leasts words) l 0 =
    ap (λ (x : Desks). (desk_at x l).least) made ∙ idle_least (leasts words) l in
    below_not_asked d l n calls (omega (arith, least, below l n done))

pub done_not_asked : (d : Desks) (l n m : ℕ) (calls : List Call)
    → request_at d l ≡ Answered n true → m ≤ n
    → may_ask (fold behind (taken d l) calls) l m ≡ false
done_not_asked d l n m calls is le =
    below_not_asked (taken d l) l m calls (omega (arith, le, taken_least d l n is))

stopped_least : (d : Desks) (l : ℕ) → l < length d → 2 ^ 32 ≤ (desk_at (stopped d) l).least
stopped_least [] l there = absurd (omega (arith, there))
stopped_least (e ∷ d) zero there = omega arith
stopped_least (e ∷ d) (suc l) there = stopped_least d l (omega (arith, there))

pub nothing_more : (d : Desks) (l n : ℕ) (calls : List Call) → l < length d → n < 2 ^ 32
    → may_ask (fold behind (stopped d) calls) l n ≡ false
nothing_more d l n calls there small =
    below_not_asked (stopped d) l n calls (omega (arith, small, stopped_least d l there))

-- ---- answers

other_lane : (ok : Bool) (d : Desks) (l k : ℕ) (r : Request) → k ≢ l
    → desk_at (if ok then with_request d l r else d) k ≡ desk_at d k
other_lane true d l k r ne = get_or-set_other d l k _ (idle 0) ne
other_lane false d l k r ne = refl

pub other_untouched : (d : Desks) (l n : ℕ) (done : Bool) (k : ℕ) → k ≢ l
    → desk_at (posted d l n done) k ≡ desk_at d k
unfolding posted
other_untouched d l n done k ne =
    other_lane (is_open_in (request_at d l) n) d l k (Answered n done) ne

open_is : (r : Request) (n : ℕ) → is_open_in r n ≡ true → r ≡ Open n
open_is Idle n e = absurd (false≢true e)
open_is (Open k) n e = grind arith
open_is (Answered k done) n e = absurd (false≢true e)

passed_by : (ok : Bool) (d x : Desks) → (ok ≡ true → x ≡ d) → (if ok then x else d) ≡ d
passed_by true d x same = same refl
passed_by false d x same = refl

pub passed_over : (d : Desks) (l n : ℕ) (done : Bool) → request_at d l ≢ Open n
    → posted d l n done ≡ d
unfolding posted
passed_over d l n done not_open =
    passed_by (is_open_in (request_at d l) n) d (with_request d l (Answered n done))
    (λ is. absurd (not_open (open_is (request_at d l) n is)))

same_number : (n : ℕ) → (n == n) ≡ true
same_number n = grind arith

pub reached : (d : Desks) (l n : ℕ) (done : Bool) → l < length d → request_at d l ≡ Open n
    → request_at (posted d l n done) l ≡ Answered n done
unfolding posted
reached d l n done there is =
    let asked_so : is_open_in (request_at d l) n ≡ true =
    ap (λ r. is_open_in r n) is ∙ same_number n in
    ap (λ ok. request_at (if ok then with_request d l (Answered n done) else d) l) asked_so
    ∙ ap (λ (x : LaneDesk). x.request)
    (get_or-set_same d l (record (desk_at d l) { request = Answered n done }) (idle 0) there)
