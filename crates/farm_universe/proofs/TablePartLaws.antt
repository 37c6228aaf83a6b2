-- A table that is read part by part.
use Rattle.std.proofs.Common.{◌≡◌, ℕ, ◌≤◌, List, [], length, drop, Result, Ok, Err, IfOk, IfErr, ap, ◌∙◌}
use Rattle.deb_text.specs.Common.{Fails, Gives, refusal_of, steps}
use Rattle.deb_text.specs.declared.fault.Fault.{Fault}
use Rattle.deb_text.proofs.StepLaws.{place-ends}
use Rattle.deb_stanza.specs.Stanza.{Paragraph}
use Rattle.farm_universe.specs.declared.package_table.PackageTable.{PackageTable}
use Rattle.farm_universe.specs.PackagesText.{packages_of, table_of}
use Rattle.farm_universe.specs.TableParts.{IsReadTo}
use Rattle.farm_universe.specs.TableSteps.{tell_paragraph}
use Rattle.farm_universe.specs.TableView.{table_view, IsFit}
use Rattle.farm_universe.proofs.TableLaws.{steps-packages_of}

-- an empty table is read up to the first paragraph
pub read_to_first : (ps : List Paragraph) (number : ℕ) (table : PackageTable) → number ≡ 0
    → table_view table ≡ table_of [] → IsFit (table_view table) → IsReadTo ps number table
read_to_first ps number table first empty fit = record {
  so_far =
      ap (λ t. steps tell_paragraph t (drop number ps)) empty
      ∙ ap (λ n. steps tell_paragraph (table_of []) (drop n ps)) first
      ∙ steps-packages_of ps;
  fit = fit;
}

-- a table that is read to the end is what the text says
pub read_to_last : (ps : List Paragraph) (number : ℕ) → length ps ≤ number
    → (read : Result PackageTable Fault) → IfOk read (IsReadTo ps number)
    → IfErr read (λ e. Fails refusal_of e (packages_of ps))
    → Gives refusal_of table_view read (packages_of ps)
read_to_last ps number all (Ok table) is fails =
    place-ends tell_paragraph ps number (table_view table) (packages_of ps) all is.so_far
read_to_last ps number all (Err e) is fails = fails
