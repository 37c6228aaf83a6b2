-- Runs that go on by a journal. Parameters: head the head of a journal of these texts, kept what the
-- journal has, where that is known.
--
--   IsKeptRun    a run goes on by what the journal has
--   IsWhyNone    why none does
use Rattle.std.specs.Prelude.{◌≡◌, ◌⊎◌, ℕ, List, Option, Some, IfSome, ⊤}
use Rattle.drive_answers.specs.declared.kept.NoRun.{NoRun}
use Rattle.drive_answers.specs.declared.kept.NoRun.TheVariants.{Unopened, Unkept}
use Rattle.drive_journal.specs.Resuming.{IsRefused, IsResumed}
use Rattle.drive_journal.specs.declared.start.Resumed.{Resumed}
use Rattle.drive_journal.specs.declared.start.StoreFault.TheVariants.{Memory}
use Rattle.report_sink.specs.Sinks.{SinkState}

abbrev pub IsKeptRun : (head : List ℕ) (kept : Option (List ℕ)) → Resumed → Type 0
IsKeptRun head kept run =
    (stamp : List ℕ) × (journal later : SinkState)
    × IfSome kept (λ bytes. journal.contents ≡ Some bytes)
    × IsResumed head stamp journal later run

-- it is not opened, memory ran out, or the journal is refused
abbrev pub IsWhyNone : (head : List ℕ) (kept : Option (List ℕ)) → NoRun → Type 0
IsWhyNone head kept (Unopened fault) = ⊤
IsWhyNone head kept (Unkept fault) =
    (fault ≡ Memory) ⊎ ((stamp : List ℕ) × (journal later : SinkState)
    × IfSome kept (λ bytes. journal.contents ≡ Some bytes)
    × IsRefused head stamp journal later fault)
