-- The parts of texts that may have a fault: what has one has no part.
--
--   paragraphs_read text         the paragraphs of a text
--   paragraph_place ps line      the place of the paragraph whose first line this is
--   entries_of kind texts        the entries that texts spell
--   relations_in kind value      the entries of a relation field
use Rattle.std.specs.Prelude.{ℕ, ◌+◌, ◌==◌, Bool, List, [], ◌∷◌, codes, is_some, if◌then◌else◌, Option, Some, None, Result, Ok, Err}
use Rattle.deb_text.specs.Steps.{traverse}
use Rattle.deb_stanza.specs.Stanza as stanza
use Rattle.deb_stanza.specs.Stanza.{paragraphs_at, value_of}
use Rattle.deb_relation.specs.Common.{entry_at, relations_at, Relations}
use Rattle.deb_relation.specs.declared.kind.Kind.{Kind}
use Rattle.explain_faults.specs.declared.paragraph.Paragraph.{Paragraph}

-- what a paragraph among others stands for
abbrev pub viewed : Paragraph → stanza.Paragraph
viewed p = stanza.paragraph_at p.among.now p.place

abbrev pub is_recipe : stanza.Paragraph → Bool
is_recipe p = is_some (value_of p (codes "Recipe"))

-- what was read; nothing of what has a fault
abbrev pub read_or_none : {X E : Type 0} → Result (List X) E → List X
read_or_none (Ok xs) = xs
read_or_none (Err e) = []

abbrev pub paragraphs_read : List ℕ → List stanza.Paragraph
paragraphs_read text = read_or_none (paragraphs_at text)

-- the place of the first element that passes, where the first of all has this place
abbrev pub place_from : {X : Type 0} → (X → Bool) → ℕ → List X → Option ℕ
place_from passes place [] = None
place_from passes place (x ∷ xs) =
    if passes x then Some place else place_from passes (place + 1) xs

abbrev pub paragraph_place : List stanza.Paragraph → ℕ → Option ℕ
paragraph_place ps line = place_from (λ (p : stanza.Paragraph). p.line == line) 0 ps

abbrev pub entries_of : Kind → List (List ℕ) → Relations
entries_of kind texts = read_or_none (traverse (entry_at kind) texts)

-- none of a field that is absent
abbrev pub relations_in : Kind → Option (List ℕ) → Relations
relations_in kind None = []
relations_in kind (Some text) = read_or_none (relations_at kind text)
