-- The moments of events, as the code has them.
--
--   number_of        a moment as a number, as moment_of has it
--   IsNextTo         the lane that has the next event among the first n lanes, with its moment
use Rattle.std.specs.Prelude.{◌≡◌, ℕ, ◌+◌, ◌*◌, List, Option, Some, slice_get, if◌then◌else◌}
use Rattle.std.specs.Option.{option_map}
use Rattle.plan_model.specs.Common.{Plan, State}
use Rattle.timed_run.specs.Clocks.{moment_of, FoundTo}
use Rattle.timed_run.specs.declared.clock.Clock.{Clock}
use Rattle.timed_run.specs.declared.earliest.Moment.{Moment}
use Rattle.timed_run.specs.declared.earliest.Next.{Next}

abbrev pub number_of : Moment → ℕ
number_of m = 2 * m.time + (if m.begins then 1 else 0)

-- the lane alone
abbrev pub lane_of : Option Next → Option ℕ
lane_of found = option_map (λ (next : Next). next.lane) found

pub record IsNextTo (p : Plan) (s : State) (clocks : List Clock) (n : ℕ) (found : Option Next)
    : Type 0 where
  pub lane : FoundTo p s clocks n (lane_of found)
  pub moment : (next : Next) (c : Clock) → found ≡ Some next
      → slice_get clocks next.lane ≡ Some c
      → number_of next.moment ≡ moment_of p s next.lane c.next
