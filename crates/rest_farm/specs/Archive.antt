-- The archive of a farm that goes on where a run has stopped, as a list. The project's own rules.
--
--   kept_items          the items of a list that another one does not have
--   brought_items       what came into the archive by hand
--   archive_items       what the farm has in its archive
use Rattle.std.specs.Prelude.{not, List, ◌++◌, filter}
use Rattle.leg_laws.specs.Named.{Item, is_listed}

abbrev pub kept_items : (out items : List Item) → List Item
kept_items out items = filter (λ i. not (is_listed out i)) items

-- the archive of the given farm has it, the run has not left it, and it is not withdrawn
abbrev pub brought_items : (left gone given : List Item) → List Item
brought_items left gone given = kept_items gone (kept_items left given)

-- what the run has left, and what came by hand, without what is withdrawn
abbrev pub archive_items : (left brought gone : List Item) → List Item
archive_items left brought gone = kept_items gone (left ++ brought)
