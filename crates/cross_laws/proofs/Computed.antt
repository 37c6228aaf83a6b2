-- The words that a row opens to compute.
use Rattle.deb_text.specs.Common.{traverse, words}
use Rattle.deb_version.specs.Order.{runs_of, part_cmp, version_cmp}
use Rattle.deb_version.specs.Grammar.{version_at}
use Rattle.deb_relation.specs.Grammar.{name_at, qualifier_at, operator_at, version_in, relation_at}
use Rattle.deb_relation.specs.Restrictions.{arch_at, items_in, item_at}
use Rattle.deb_relation.specs.Common.{archs_at, profiles_at, lists_at, atom_at, alternative_at, entry_at, entries_left, relations_at}
use Rattle.cross_laws.specs.Binary.{asked}
use Rattle.cross_laws.specs.Names.{encoded, decoded, is_taken, is_mark}

-- whoever unfolds this word unfolds all of these
unfoldable pub by_computation : Unit {0}
unfolding traverse words runs_of part_cmp version_cmp version_at name_at qualifier_at operator_at
    version_in relation_at arch_at archs_at item_at items_in profiles_at lists_at atom_at
    alternative_at entry_at entries_left relations_at asked encoded decoded is_taken is_mark
by_computation = tt
