use Rattle.std.proofs.Common.{◌≡◌, rules, false, true, Ok, sym, ap, ◌∙◌}
use Rattle.deb_text.specs.Words.{words}
use Rattle.deb_profile.proofs.WordLaws.{words-read, words-refused}
use Rattle.deb_profile.proofs.word_list.keep_words.Goals as goal

pub returns-then-not-are_words : goal.returns-then-not-are_words
returns-then-not-are_words c =
    let no : c.are_words.result ≡ false = search rules in
    words-refused (words c.args.text.now) (sym c.are_words.ensures ∙ no)

pub returns : goal.returns
returns c =
    let yes : c.are_words.result ≡ true = search rules in
    words-read (words c.args.text.now) (sym c.are_words.ensures ∙ yes)
    ∙ ap (λ text. Ok (words text)) (sym c.in_ok-from_slice.ensures.items)
