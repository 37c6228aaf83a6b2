use Rattle.std.proofs.Common.{subst}
use Rattle.import_farm.specs.Imported.{AreImported}
use Rattle.cross_import.proofs.import.import_encoded.Goals as goal

pub returns-in_ok-finished-in-Texts : goal.returns-in_ok-finished-in-Texts
returns-in_ok-finished-in-Texts g c = record {
  made = c.in-Texts.made;
  unmet = c.in-Texts.unmet;
  told = c.in-Texts.lines;
  imported = subst (AreImported c.args.encoded) c.in-Texts.is c.in_ok-imported.ensures;
  finished = c.in_ok-finished-in-Texts.ensures.finished;
  clear = c.in_ok-finished-in-Texts.ensures.clear;
  farm = c.in_ok-finished-in-Texts.ensures.farm;
}
