-- A leg of a chain: a run over texts of its own, as far as its journal leads. The project's own
-- rules.
--
--   LegText        its four texts, and the text of its journal
--   journal_sum    the digest of the lines of a journal, but for the one that ends it
--   field_in       a field of the first paragraph of a farm text
--   LegRun         what the texts stand for: the farm and the plan in the state that the journal
--                  leads to, the name of the run and the digest of its lines, the run that goes on
--                  from there, the field `After` of its farm text, and what that withdraws
--   IsRunOf        texts stand for it
use Rattle.std.specs.Prelude.{◌≡◌, ℕ, ◌==◌, List, [], ◌∷◌, ◌++◌, codes, length, Option, None, Result, Ok, Err, if◌then◌else◌}
use Rattle.deb_stanza.specs.Stanza.{Paragraph, paragraph_at, paragraphs_at, value_of}
use Rattle.deb_text.specs.Common.{lines_of}
use Rattle.deb_text.specs.Words.{text_of}
use Rattle.deb_text.specs.declared.fault.Fault.{Fault}
use Rattle.drive_journal.specs.Entries.{next_run, unended, whole}
use Rattle.drive_journal.specs.HeadText.{IsKnown, TextSums, finding, head_text, run_name, sum_of, sums_of}
use Rattle.drive_replay.specs.Follow.{Life, followed_by}
use Rattle.drive_replay.specs.Following.{IsReached, first_life}
use Rattle.farm_model.specs.Common.{Universe}
use Rattle.leg_laws.specs.Named.{Item}
use Rattle.plan_model.specs.Common.{IsSound}
use Rattle.plan_model.specs.Plan.{count}
use Rattle.plan_reader.specs.CountedPlan.{CountedPlan}
use Rattle.plan_reader.specs.Input.{Texts}
use Rattle.plan_reader.specs.Planned.{planned_of}
use Rattle.leg_runs.specs.Listed.{listed_items}
use Rattle.leg_runs.specs.declared.leg.TheConstants.{FIRST_ENTRY}

pub record LegText : Type 0 where
  pub texts : Texts
  pub journal : List ℕ

abbrev pub sums_in : Texts → TextSums
sums_in texts = sums_of texts.packages texts.sources texts.farm texts.plan

-- ---- the digest of a journal

-- a line with its end
abbrev pub with_end : List ℕ → List ℕ
with_end line = line ++ 10 ∷ []

-- of its whole lines
abbrev pub journal_sum : List ℕ → List ℕ
journal_sum journal = sum_of (text_of (unended (lines_of (whole journal))))

-- ---- the farm text

abbrev pub paragraphs_in : Result (List Paragraph) Fault → List Paragraph
paragraphs_in (Ok farm) = farm
paragraphs_in (Err fault) = []

-- of the first paragraph, if there is one
abbrev pub head_value : List Paragraph → List ℕ → Option (List ℕ)
head_value farm name = if length farm == 0 then None else value_of (paragraph_at farm 0) name

abbrev pub field_in : List ℕ → List ℕ → Option (List ℕ)
field_in farm name = head_value (paragraphs_in (paragraphs_at farm)) name

-- ---- what they stand for

pub record LegRun : Type 0 where
  pub life : Life
  pub name : List ℕ
  pub sum : List ℕ
  pub next : Option (List ℕ)
  pub after : Option (List ℕ)
  pub gone : List Item

-- The four texts stand for a universe and a plan;
pub record IsRunOf (text : LegText) (run : LegRun) : Type 0 where
  pub universe : Universe
  pub plan : CountedPlan
  pub read : planned_of text.texts.packages text.texts.sources text.texts.farm text.texts.plan
      ≡ Ok (record { universe = universe; plan = plan.lanes })
  pub counted : plan.count ≡ count universe plan.lanes
  pub sound : IsSound universe plan.lanes
  -- the journal is of them, and its entries are these lines,
  pub stamp : List ℕ
  pub lines : List (List ℕ)
  pub found : finding (head_text (sums_in text.texts)) text.journal ≡ IsKnown stamp lines
  -- which lead the core of the plan to this life, in a state that a run of it reaches;
  pub followed : followed_by FIRST_ENTRY (first_life universe plan) (unended lines) ≡ Ok run.life
  pub reached : IsReached universe plan run.life.farm
  -- the run has this name, and the journal this digest; another run may have ended it;
  pub name_is : run.name ≡ run_name (sums_in text.texts) stamp
  pub sum_is : run.sum ≡ journal_sum text.journal
  pub next_is : run.next ≡ next_run lines
  -- and its farm text says these.
  pub after_is : run.after ≡ field_in text.texts.farm (codes "After")
  pub gone_is : run.gone ≡ listed_items (field_in text.texts.farm (codes "Withdrawn"))
