-- What holds of desks, whatever is called.
--
--   OneOfALane              at most one thing of a lane is open
--   AnswerReachesItsLane    an answer reaches the lane that asked under its number, and no other
--   DoneIsNotAsked          what is done is not asked again
--   StopAsksNothingMore     once a run stops no lane asks for anything
use Rattle.std.specs.Prelude.{◌≡◌, ℕ, ◌≤◌, ◌<◌, ◌≢◌, ◌^◌, Bool, true, false, List, length, fold}
use Rattle.drive_run.specs.declared.desk.Request.TheVariants.{Open, Answered}
use Rattle.drive_run.specs.LaneDesks.{Desks, desk_at, request_at, may_ask, asked, posted, taken, withdrawn, stopped}

pub data Call : Type 0 where
  Asks : ℕ → ℕ → Call
  Posts : ℕ → ℕ → Bool → Call
  Takes : ℕ → Call
  Withdraws : ℕ → Call
  Stops : Call

abbrev pub behind : Desks → Call → Desks
behind d (Asks l n) = asked d l n
behind d (Posts l n done) = posted d l n done
behind d (Takes l) = taken d l
behind d (Withdraws l) = withdrawn d l
behind d Stops = stopped d

-- the lane that waits for an answer asks for nothing else
abbrev pub OneOfALane : Type 0
OneOfALane = (d : Desks) (l n m : ℕ) → request_at d l ≡ Open n → may_ask d l m ≡ false

-- no other lane is told of an answer, and one under another number changes nothing
abbrev pub AnswerReachesItsLane : Type 0
AnswerReachesItsLane = (d : Desks) (l n : ℕ) (done : Bool)
    → ((k : ℕ) → k ≢ l → desk_at (posted d l n done) k ≡ desk_at d k)
    × (request_at d l ≢ Open n → posted d l n done ≡ d)
    × (l < length d → request_at d l ≡ Open n
    → request_at (posted d l n done) l ≡ Answered n done)

-- once the lane has read that an instruction is done, no call lets it ask for that one again
abbrev pub DoneIsNotAsked : Type 0
DoneIsNotAsked = (d : Desks) (l n m : ℕ) (calls : List Call)
    → request_at d l ≡ Answered n true → m ≤ n
    → may_ask (fold behind (taken d l) calls) l m ≡ false

-- once a run stops, no call lets a lane ask for anything again
abbrev pub StopAsksNothingMore : Type 0
StopAsksNothingMore = (d : Desks) (l n : ℕ) (calls : List Call)
    → l < length d → n < 2 ^ 32 → may_ask (fold behind (stopped d) calls) l n ≡ false
