-- Whether the restrictions of an alternative hold for a host (Debian Policy 7.1, BuildProfileSpec).
-- A host is known by two tests: which names are its architecture's, and which profiles are active.
--
--   archs_hold is_arch archs             the architecture list lets the alternative stay
--   profiles_hold is_active lists        the profile lists let it stay
--   stays is_arch is_active atom         both do
--   left_for is_arch is_active atom      the alternative without restrictions, if it stays
--   told make read                       what is made of what is read, or its fault
use Rattle.std.specs.Prelude.{ℕ, Bool, true, not, ◌&&◌, List, [], ◌∷◌, Option, Some, None, Result, Ok, if◌then◌else◌}
use Rattle.std.specs.List.{list_any, list_all}
use Rattle.deb_text.specs.Steps.{◌>>=◌}
use Rattle.deb_relation.specs.Relations.{Item, ArchList, Atom}

-- "If the current Debian host architecture is not in this list and there are no exclamation marks
-- in the list, or it is in the list with a prepended exclamation mark, the package name and the
-- associated version specification are ignored completely" (Policy 7.1)
abbrev pub names_hold : (List ℕ → Bool) → ArchList → Bool
names_hold is_arch list =
    if list.negated then not (list_any is_arch list.names) else list_any is_arch list.names

abbrev pub archs_hold : (List ℕ → Bool) → Option ArchList → Bool
archs_hold is_arch None = true
archs_hold is_arch (Some list) = names_hold is_arch list

-- the same, with the text behind the list
abbrev pub archs_part : (List ℕ → Bool) → Option ArchList × List ℕ → Bool × List ℕ
archs_part is_arch part = (archs_hold is_arch part.0, part.1)

-- a profile is active; with `!`, it is not
abbrev pub item_holds : (List ℕ → Bool) → Item → Bool
item_holds is_active item = if item.negated then not (is_active item.word) else is_active item.word

-- the items of a list are joined by AND, the lists by OR (BuildProfileSpec, "restriction formulas")
abbrev pub list_holds : (List ℕ → Bool) → List Item → Bool
list_holds is_active list = list_all (item_holds is_active) list

abbrev pub profiles_hold : (List ℕ → Bool) → List (List Item) → Bool
profiles_hold is_active [] = true
profiles_hold is_active (list ∷ lists) = list_any (list_holds is_active) (list ∷ lists)

abbrev pub limits_hold : (List ℕ → Bool) → (List ℕ → Bool)
    → Option ArchList × List (List Item) → Bool
limits_hold is_arch is_active limits =
    archs_hold is_arch limits.0 && profiles_hold is_active limits.1

abbrev pub stays : (List ℕ → Bool) → (List ℕ → Bool) → Atom → Bool
stays is_arch is_active atom = limits_hold is_arch is_active (atom.archs, atom.profiles)

abbrev pub unrestricted : Atom → Atom
unrestricted atom = record {
  name = atom.name;
  qualifier = atom.qualifier;
  relation = atom.relation;
  archs = None;
  profiles = [];
}

abbrev pub left_for : (List ℕ → Bool) → (List ℕ → Bool) → Atom → Option Atom
left_for is_arch is_active atom =
    if stays is_arch is_active atom then Some (unrestricted atom) else None

abbrev pub told : {A B F : Type 0} → (A → B) → Result A F → Result B F
told make read = read >>= λ x. Ok (make x)
