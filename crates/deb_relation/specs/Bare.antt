-- Alternatives that have a name and a relation alone, as most have (Debian Policy 7.1).
--
--   is_bare_atom   an alternative has no more
--   plain          what an alternative is without the rest
use Rattle.std.specs.Prelude.{Bool, ◌&&◌, [], None}
use Rattle.std.specs.Option.{is_none}
use Rattle.deb_text.specs.Cuts.{is_nil}
use Rattle.deb_relation.specs.Relations.{Atom}

-- no qualifier and no restriction
abbrev pub is_bare_atom : Atom → Bool
is_bare_atom atom = is_none atom.qualifier && is_none atom.archs && is_nil atom.profiles

abbrev pub plain : Atom → Atom
plain atom = record {
  name = atom.name;
  qualifier = None;
  relation = atom.relation;
  archs = None;
  profiles = [];
}
