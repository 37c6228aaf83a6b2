-- What the entries of a journal note.
use Rattle.std.proofs.Common.{ℕ, List, refl}
use Rattle.deb_text.specs.Lines.{lines_of}
use Rattle.drive_replay.specs.Follow.{Life}
use Rattle.drive_replay.specs.Following.{IsFollowed}
use Rattle.drive_replay.specs.Laws.{IsReplay}
use Rattle.drive_replay.proofs.Alike.{order_decides_picks}
use Rattle.drive_replay.proofs.Lives.{replay_cores}
use Rattle.farm_model.specs.Universe.{Universe}
use Rattle.plan_reader.specs.CountedPlan.{CountedPlan}

pub replayed : (u : Universe) (p : CountedPlan) (first : ℕ) (entries : List ℕ) (x : Life)
    → IsFollowed u p first entries x
    → IsReplay u p first entries x.notes
replayed u p first entries x e =
    let is = replay_cores u p first (lines_of entries) x e in
    record {
      life = x;
      followed = e;
      noted = refl;
      of_plan = (is.1, is.2);
      cores = is.0;
      order = order_decides_picks x.farm;
    }
