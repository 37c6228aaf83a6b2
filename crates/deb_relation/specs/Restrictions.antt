-- The lists that restrict an alternative: architectures (Debian Policy 7.1) and profiles
-- (BuildProfileSpec).
--
--   archs_at kind text      perhaps `[name name]` or `[!name !name]`, and the text behind it
--   profiles_at kind text   the lists `<word !word> <word> ..` up to the end of the text
use Rattle.std.specs.Prelude.{ℕ, Bool, true, false, not, ◌==◌, ◌&&◌, List, [], ◌∷◌, Option, Some, None, Result, Ok, Err, if◌then◌else◌}
use Rattle.std.specs.List.{list_any, slice_split}
use Rattle.deb_text.specs.Common.{is_byte, is_blank, is_nil, first_is, before, after, behind, ◌>>=◌, then_all, traverse, words, is_word}
use Rattle.deb_relation.specs.declared.error.TheConstants.{BAD_NAME, BAD_ARCHITECTURES, NOT_CLOSED, RESTRICTION, BAD_PROFILES}
use Rattle.deb_relation.specs.declared.kind.Kind.{Kind}
use Rattle.deb_relation.specs.Grammar.{Part}
use Rattle.deb_relation.specs.Kinds.{has_restrictions}
use Rattle.deb_relation.specs.Marks.{bang, less, greater, open_square, close_square}
use Rattle.deb_relation.specs.Relations.{Item, ArchList}

-- ---- architectures

-- a name, with `!` before it where its list has that
unfoldable pub arch_at : Bool → List ℕ → Result (List ℕ) ℕ
arch_at negated [] = Err BAD_ARCHITECTURES
arch_at true (b ∷ bs) = if b == bang && is_word bs then Ok bs else Err BAD_ARCHITECTURES
arch_at false (b ∷ bs) = if is_word (b ∷ bs) then Ok (b ∷ bs) else Err BAD_ARCHITECTURES

-- "It is not permitted for some names to be prepended with exclamation marks while others aren't":
-- the first name tells whether the list has `!`
abbrev pub arch_list_of : List (List ℕ) → Result ArchList ℕ
arch_list_of [] = Err BAD_ARCHITECTURES
arch_list_of (name ∷ names) = do
  read ← traverse (arch_at (first_is (is_byte bang) name)) (name ∷ names)
  Ok (record { negated = first_is (is_byte bang) name; names = read })

-- the names in the brackets, and the text behind them
abbrev pub archs_of : List ℕ → List ℕ → Part (Option ArchList)
archs_of inside rest = do
  list ← arch_list_of (words inside)
  Ok (Some list, rest)

-- behind the `[`: the closing bracket is looked for before the names are read
abbrev pub archs_in : List ℕ → Part (Option ArchList)
archs_in text =
    if list_any (is_byte close_square) text
    then archs_of (before (is_byte close_square) text) (after (is_byte close_square) text)
    else Err NOT_CLOSED

-- in a kind without restrictions the bracket itself is refused
unfoldable pub archs_at : Kind → List ℕ → Part (Option ArchList)
archs_at kind [] = Ok (None, [])
archs_at kind (b ∷ bs) =
    if b == open_square then (if has_restrictions kind then archs_in bs else Err RESTRICTION)
    else Ok (None, b ∷ bs)

-- ---- profiles

-- a profile as a word
abbrev pub profile_of : Bool → List ℕ → Result Item ℕ
profile_of negated text =
    if is_word text then Ok (record { word = text; negated = negated }) else Err BAD_PROFILES

-- a word, perhaps with one `!` before it
unfoldable pub item_at : List ℕ → Result Item ℕ
item_at [] = Err BAD_PROFILES
item_at (b ∷ bs) =
    if b == bang then profile_of true bs else profile_of false (b ∷ bs)

-- the items between `<` and `>`
unfoldable pub items_in : List ℕ → Result (List Item) ℕ
items_in text = if is_nil (words text) then Err BAD_PROFILES else traverse item_at (words text)

-- a profile list, less its `>`
abbrev pub list_in : List ℕ → Result (List Item) ℕ
list_in [] = Err BAD_NAME
list_in (b ∷ bs) = if b == less then items_in bs else Err BAD_NAME

-- what may stand behind the last `>`
abbrev pub end_in : List ℕ → Result (List (List Item)) ℕ
end_in [] = Ok []
end_in (b ∷ bs) = if b == less then Err NOT_CLOSED else Err BAD_NAME

-- the lists that end at each `>`, and what stands behind the last
abbrev pub lists_of : List (List ℕ) → Result (List (List Item)) ℕ
lists_of [] = Ok []
lists_of (last ∷ []) = end_in (behind is_blank last)
lists_of (list ∷ next ∷ others) =
    then_all (list_in (behind is_blank list)) (lists_of (next ∷ others))

-- "<list> <list> ..", up to the end
unfoldable pub lists_at : List ℕ → Result (List (List Item)) ℕ
lists_at text = lists_of (slice_split (is_byte greater) text)

-- in a kind without restrictions the first `<` is refused
unfoldable pub profiles_at : Kind → List ℕ → Result (List (List Item)) ℕ
profiles_at kind text =
    if not (has_restrictions kind) && first_is (is_byte less) (behind is_blank text)
    then Err RESTRICTION
    else lists_at text
