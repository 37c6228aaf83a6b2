-- What was written of what was taken.
--
--   ArePackagesOf read text    a text is made of paragraphs of the Packages indexes that were read
--   AreSourcesOf read text     the same of the Sources indexes
--   OnTexts P drawn            where there are texts, P holds of them
use Rattle.std.specs.Prelude.{ℕ, List}
use Rattle.import_farm.specs.Made.{IsMadeOf, IsOneOf, IsWhole, IsWholeOrAnew}
use Rattle.import_farm.specs.declared.imported.ImportedTexts.{ImportedTexts}
use Rattle.import_farm.specs.declared.imported.TheConstants.{HEAD}
use Rattle.import_farm.specs.declared.taken.Read.{Read}
use Rattle.import_farm.specs.declared.written.Drawn.{Drawn}
use Rattle.import_farm.specs.declared.written.Drawn.TheVariants.{Texts, Over}

abbrev pub ArePackagesOf : Read → List ℕ → Type 0
ArePackagesOf read text =
    IsMadeOf (IsWholeOrAnew (IsOneOf read.of.packages.now.blocks.items)) HEAD.now text

abbrev pub AreSourcesOf : Read → List ℕ → Type 0
AreSourcesOf read text = IsMadeOf (IsWhole (IsOneOf read.sources.now)) HEAD.now text

abbrev pub OnTexts : (ImportedTexts → Type 0) → Drawn → Type 0
OnTexts P (Texts written) = P written.texts
OnTexts P (Over counts) = Unit {0}
