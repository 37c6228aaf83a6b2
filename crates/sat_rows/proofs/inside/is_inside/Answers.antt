use Rattle.std.proofs.Common.{◌≡◌, sym, ap, ◌∙◌}
use Rattle.std.specs.Prelude.{slice_index}
use Rattle.clause_kernel.specs.Kernels.{meets}
use Rattle.sat_rows.proofs.InsideLaws.{inside_word}
use Rattle.sat_rows.proofs.inside.is_inside.Goals as goal

pub returns-then-word-ne0 : goal.returns-then-word-ne0
returns-then-word-ne0 c =
    let words = c.args.words.now in
    let name = c.args.name in
    let told = inside_word c.args.universe.now c.args.atom.now words name c.word_for.result
    c.word_for.ensures in
    let is : c.meets.result ≡ meets (slice_index words name) c.word_for.result =
    c.meets.ensures ∙ ap (λ w. meets w c.word_for.result) c.word_of-word.ensures in
    (λ yes. told.0 (sym is ∙ yes), λ inside. is ∙ told.1 inside)
