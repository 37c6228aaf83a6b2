-- Legs as the code has them.
--
--   text_of      the texts of a leg
--   run_of       what a leg stands for that is read
--   IsPlanned    a farm and a plan are those of four texts
--   IsSaid       this is what the texts of a leg say beside these
--   IsRead       a leg is what texts stand for
use Rattle.std.specs.Prelude.{◌≡◌, ℕ, List, codes, Ok}
use Rattle.std.specs.Option.{option_map}
use Rattle.std.specs.String.{string_bytes}
use Rattle.deb_stanza.specs.Stanza.{paragraphs_at}
use Rattle.drive_journal.specs.HeadText.{run_name}
use Rattle.drive_replay.specs.Following.{life_of}
use Rattle.leg_runs.specs.declared.leg.Leg.{Leg}
use Rattle.leg_runs.specs.declared.leg.LegTexts.{LegTexts}
use Rattle.leg_runs.specs.declared.leg.Said.{Said}
use Rattle.leg_runs.specs.Legs.{IsRunOf, LegRun, LegText, field_in, head_value, journal_sum, paragraphs_in, sums_in}
use Rattle.plan_model.specs.Common.{IsSound}
use Rattle.plan_model.specs.Plan.{count}
use Rattle.plan_reader.specs.Input.{Texts}
use Rattle.plan_reader.specs.Planned.{planned_of}
use Rattle.plan_reader.specs.TextsView.{texts_view}
use Rattle.plan_reader.specs.declared.planned.Planned.{Planned}
use Rattle.leg_runs.specs.Listed.{listed_items}

abbrev pub text_of : LegTexts → LegText
text_of of = record { texts = texts_view of.texts; journal = of.journal.now }

abbrev pub run_of : Leg → LegRun
run_of leg = record {
  life = life_of leg.follower;
  name = leg.said.name.items;
  sum = string_bytes leg.said.sum;
  next = option_map (λ run. run.now) leg.next_run;
  after = head_value leg.said.farm (codes "After");
  gone = leg.said.gone;
}

pub record IsPlanned (texts : Texts) (planned : Planned) : Type 0 where
  pub read : planned_of texts.packages texts.sources texts.farm texts.plan
      ≡ Ok (record { universe = planned.universe; plan = planned.plan.lanes })
  pub counted : planned.plan.count ≡ count planned.universe planned.plan.lanes
  pub sound : IsSound planned.universe planned.plan.lanes

-- the stamp is that of the run
pub record IsSaid (text : LegText) (stamp : List ℕ) (said : Said) : Type 0 where
  pub name : said.name.items ≡ run_name (sums_in text.texts) stamp
  pub sum : string_bytes said.sum ≡ journal_sum text.journal
  pub farm : said.farm ≡ paragraphs_in (paragraphs_at text.texts.farm)
  pub gone : said.gone ≡ listed_items (field_in text.texts.farm (codes "Withdrawn"))

abbrev pub IsRead : LegText → Leg → Type 0
IsRead text leg = IsRunOf text (run_of leg)
