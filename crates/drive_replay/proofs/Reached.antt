-- What a journal and its waits lead to is reached by a run.
use Rattle.std.proofs.Common.{◌≡◌, refl, sym, subst, ℕ, zero, suc, Bool, true, false, List, ◌++◌, length, Option, Some, None}
use Rattle.std.specs.Prelude.{Ok, if◌then◌else◌}
use Rattle.std.specs.Option.{option_map, unwrap_or}
use Rattle.drive_journal.specs.Entries.{unended}
use Rattle.drive_replay.specs.Follow.{Life, life, followed_by}
use Rattle.drive_replay.specs.Following.{IsFollowed, IsFollowedToEnd, IsReached, first_life}
use Rattle.drive_replay.specs.Onward.{here, moved}
use Rattle.drive_replay.specs.Standings.{is_free, is_quiet, lane_rested, length_of, passed, rested, rested_from}
use Rattle.drive_replay.proofs.Lives.{IsOn, moved_on, on_on, on_self, replay_cores, run_append}
use Rattle.deb_text.specs.Lines.{lines_of}
use Rattle.farm_core.specs.Farm.{Farm, with_state}
use Rattle.farm_model.specs.Universe.{Universe}
use Rattle.plan_model.specs.Common.{start}
use Rattle.plan_reader.specs.CountedPlan.{CountedPlan}

lines_reached : (u : Universe) (p : CountedPlan) (first : ℕ) (lines : List (List ℕ)) (x : Life)
    → followed_by first (first_life u p) lines ≡ Ok x → IsReached u p x.farm
lines_reached u p first lines x e =
    let is = replay_cores u p first lines x e in (is.1, is.2, is.0.reached)

pub followed_reached : (u : Universe) (p : CountedPlan) (first : ℕ) (entries : List ℕ) (x : Life)
    → IsFollowed u p first entries x → IsReached u p x.farm
followed_reached u p first entries x e = lines_reached u p first (lines_of entries) x e

pub ended_reached : (u : Universe) (p : CountedPlan) (first : ℕ) (entries : List ℕ) (x : Life)
    → IsFollowedToEnd u p first entries x → IsReached u p x.farm
ended_reached u p first entries x e = lines_reached u p first (unended (lines_of entries)) x e

on_reached : (u : Universe) (p : CountedPlan) (f g : Farm) → IsOn f g → IsReached u p f
    → IsReached u p g
on_reached u p f g on is =
    subst (λ h. IsReached u p h) (sym on.3) (
      is.0,
      is.1,
      (
        is.2.0 ++ on.0,
        run_append f.universe f.plan.lanes is.2.0 on.0 (start f.universe f.plan.lanes) f.state on.1
            is.2.1 on.2,
      ),
    )

passed_by : (quiet : Bool) (o : Option Farm) (k : ℕ) (f : Farm) (l : ℕ) → moved f l ≡ o
    → ((g : Farm) → IsOn g (passed k g l))
    → IsOn f (if quiet then unwrap_or (option_map (λ g. passed k g l) o) f else f)
passed_by false o k f l e more = on_self f
passed_by true None k f l e more = on_self f
passed_by true (Some g) k f l e more = on_on f g (passed k g l) (moved_on f g l e) (more g)

passed_on : (k : ℕ) (f : Farm) (l : ℕ) → IsOn f (passed k f l)
passed_on zero f l = on_self f
passed_on (suc k) f l =
    passed_by (is_quiet (here f l)) (moved f l) k f l refl (λ g. passed_on k g l)

rested_if : (free : Bool) (x : Life) (g : Farm) → IsOn x.farm g
    → IsOn x.farm (if free then life g x.notes else x).farm
rested_if true x g on = on
rested_if false x g on = on_self x.farm

lane_rested_on : (x : Life) (l : ℕ) → IsOn x.farm (lane_rested x l).farm
lane_rested_on x l =
    rested_if (is_free x l) x (passed (length_of x.farm l) x.farm l)
    (passed_on (length_of x.farm l) x.farm l)

rested_from_on : (n l : ℕ) (x : Life) → IsOn x.farm (rested_from n l x).farm
rested_from_on zero l x = on_self x.farm
rested_from_on (suc n) l x =
    on_on x.farm (lane_rested x l).farm (rested_from n (suc l) (lane_rested x l)).farm
    (lane_rested_on x l) (rested_from_on n (suc l) (lane_rested x l))

pub rested_reached : (u : Universe) (p : CountedPlan) (x : Life) → IsReached u p x.farm
    → IsReached u p (rested x).farm
rested_reached u p x is =
    on_reached u p x.farm (rested x).farm (rested_from_on (length x.farm.plan.lanes) 0 x) is
