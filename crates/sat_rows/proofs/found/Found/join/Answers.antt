use Rattle.std.proofs.Common.{◌≡◌, ◌-◌, ◌<◌, ◌&&◌, ◌||◌, ◌==◌, ◌∙◌, length, slice_set, bit_or, ap, sym, subst, arith}
use Rattle.std.proofs.lemmas.List.{get_or_default}
use Rattle.clause_kernel.specs.Rows.{word_has}
use Rattle.sat_rows.specs.declared.found.NumberWord.{NumberWord}
use Rattle.sat_rows.specs.Found.{among}
use Rattle.sat_rows.proofs.FoundLaws.{no_word, puts_joined}
use Rattle.sat_rows.proofs.found.Found.join.Goals as goal

pub returns-clause-joined : goal.returns-clause-joined
returns-clause-joined c held n b =
    let vs = c.self.inside.words.items in
    let i = c.len-count.result - 1 in
    let lt : i < length vs = omega arith in
    let same = ap (λ (w : NumberWord). w.number)
    (c.index.ensures ∙ get_or_default vs i _ no_word lt) in
    let here = c.index-2.ensures ∙ get_or_default vs i _ no_word lt in
    let number = c.args.number in
    let word = c.args.word in
    subst
    (λ (w : NumberWord). among
    (slice_set vs i (record { number = number; word = bit_or w.word word })) n b
    ≡ (among c.args.self.now n b || ((n == number) && word_has word b)))
    (sym here)
    (puts_joined vs i number word lt (sym same ∙ c.if-index-number.false) n b
    ∙ ap (λ ws. among ws n b || ((n == number) && word_has word b)) c.self.view_is)
