-- A follower as its calls see it, and what comes of a journal.
--
--   life_of                the life that a follower has come to
--   first_life             the life ahead of the first entry
--   IsFollowed, IsMisfit   the life that entries lead to; the line that does not fit
--   IsFollowedToEnd, IsMisfitBeforeEnd   the same of a journal that another run may have ended
--   end_by                 the run that a line names, with no lines behind it
--   IsReached              a core is of a plan, in a state that a run of it reaches
use Rattle.std.specs.Prelude.{◌≡◌, ℕ, List, [], ◌∷◌, Option, None, Ok, Err}
use Rattle.deb_text.specs.Lines.{lines_of}
use Rattle.drive_journal.specs.Entries.{next_of, unended}
use Rattle.drive_replay.specs.declared.follow.Follower.{Follower}
use Rattle.drive_replay.specs.declared.journal.ReplayFault.{ReplayFault}
use Rattle.drive_replay.specs.declared.journal.ReplayFault.TheVariants.{Misfit, Memory}
use Rattle.drive_replay.specs.Follow.{Life, followed_by}
use Rattle.drive_replay.specs.LaneNotes.{no_notes}
use Rattle.farm_model.specs.Universe.{Universe}
use Rattle.plan_reader.specs.CountedPlan.{CountedPlan}
use Rattle.farm_core.specs.Farm.{Farm}
use Rattle.plan_model.specs.Run.{Reachable, start}

abbrev pub life_of : Follower → Life
life_of f = record { farm = f.core; notes = f.notes }

-- the plan at its start, and nothing noted
abbrev pub first_life : Universe → CountedPlan → Life
first_life u p = record {
  farm = record { universe = u; plan = p; state = start u p.lanes };
  notes = no_notes p.lanes;
}

-- the life has followed all entries, the first of which stands in this line
abbrev pub IsFollowed : Universe → CountedPlan → ℕ → List ℕ → Life → Type 0
IsFollowed u p first entries x =
    followed_by first (first_life u p) (lines_of entries) ≡ Ok x

abbrev pub IsReached : Universe → CountedPlan → Farm → Type 0
IsReached u p f =
    (f.universe ≡ u) × (f.plan ≡ p) × Reachable f.universe f.plan.lanes f.state

-- the line is the first that no life could follow
abbrev pub IsMisfit : Universe → CountedPlan → ℕ → List ℕ → ReplayFault → Type 0
IsMisfit u p first entries (Misfit line) =
    followed_by first (first_life u p) (lines_of entries) ≡ Err line
IsMisfit u p first entries Memory = Unit {0}

-- ---- a journal that may have its end

abbrev pub IsFollowedToEnd : Universe → CountedPlan → ℕ → List ℕ → Life → Type 0
IsFollowedToEnd u p first entries x =
    followed_by first (first_life u p) (unended (lines_of entries)) ≡ Ok x

abbrev pub IsMisfitBeforeEnd : Universe → CountedPlan → ℕ → List ℕ → ReplayFault → Type 0
IsMisfitBeforeEnd u p first entries (Misfit line) =
    followed_by first (first_life u p) (unended (lines_of entries)) ≡ Err line
IsMisfitBeforeEnd u p first entries Memory = Unit {0}

abbrev pub end_by : List (List ℕ) → List ℕ → Option (List ℕ)
end_by [] line = next_of line
end_by (next ∷ lines) line = None
