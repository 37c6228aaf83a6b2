-- The names of the four texts; no text has another number.
use Rattle.std.specs.Prelude.{ℕ, ◌==◌, List, [], codes, if◌then◌else◌}
use Rattle.deb_text.specs.declared.files.TheConstants.{PACKAGES, SOURCES, FARM, PLAN}

abbrev pub file_name : ℕ → List ℕ
file_name file =
    if file == PACKAGES then codes "packages" else if file == SOURCES then codes "sources"
    else if file == FARM then codes "farm" else if file == PLAN then codes "plan" else []
