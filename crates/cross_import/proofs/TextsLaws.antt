-- What holds of the texts of an answer, if there are any.
use Rattle.import_farm.specs.declared.imported.Imported.{Imported}
use Rattle.import_farm.specs.declared.imported.Imported.TheVariants.{Texts, Refused, Wrong}
use Rattle.import_farm.specs.declared.imported.ImportedTexts.{ImportedTexts}
use Rattle.cross_import.specs.CrossImport.{HasNone, OnTexts}

pub on-weaker : (P Q : ImportedTexts → Type 0) → ((texts : ImportedTexts) → P texts → Q texts)
    → (answer : Imported) → OnTexts P answer → OnTexts Q answer
on-weaker P Q so (Texts texts unmet lines) is = so texts is
on-weaker P Q so (Refused lines) is = tt
on-weaker P Q so Wrong is = tt

pub none-on : (P : ImportedTexts → Type 0) (answer : Imported) → HasNone answer → OnTexts P answer
none-on P (Texts texts unmet lines) is = absurd is
none-on P (Refused lines) is = tt
none-on P Wrong is = tt
