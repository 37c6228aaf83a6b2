use Rattle.std.proofs.Common.{◌≡◌, ◌++◌, map, filter, drop}
use Rattle.deb_text.specs.Lists.{lists}
use Rattle.drive_protocol.specs.RecipeWords.{is_recipe, recipe_words, words_in}
use Rattle.drive_protocol.proofs.texts.words_of.Given as goal

abbrev pub invariant-loop-place : goal.invariant-loop-place
invariant-loop-place l =
    lists l.all.items ++ map recipe_words (filter is_recipe (drop l.place l.paragraphs))
    ≡ words_in l.paragraphs
