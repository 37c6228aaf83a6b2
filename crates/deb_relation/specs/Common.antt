-- The names of this crate that others cite, passed on from one place. Declares nothing.
pub use Rattle.deb_relation.specs.Relations.{ArchList, Atom, Entry, Item, Relations}
pub use Rattle.deb_relation.specs.Marks.{bar, comma}
pub use Rattle.deb_relation.specs.Bare.{is_bare_atom}
unfoldable pub use Rattle.deb_relation.specs.Restrictions.{archs_at, lists_at, profiles_at}
pub use Rattle.deb_relation.specs.Field.{is_empty_text, only_judged}
unfoldable pub use Rattle.deb_relation.specs.Field.{alternative_at, atom_at, entries_left, entry_at, first_relations_at, relations_at}
pub use Rattle.deb_relation.specs.Holding.{item_holds, left_for, stays, unrestricted}
pub use Rattle.deb_relation.specs.Satisfaction.{admits, is_its_own, is_provided, package_satisfies, provides_it}
pub use Rattle.deb_relation.specs.Spelling.{entry_text, relation_text}
unfoldable pub use Rattle.deb_relation.specs.Spelling.{atom_text}
pub use Rattle.deb_relation.specs.View.{facts_of, refusal_of}
