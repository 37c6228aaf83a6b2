use Rattle.word_archive.proofs.shared.SharedArchive.open.Goals as goal
use Rattle.std.proofs.Common.{[], ap, arith, length, length-append, ◌+◌, ◌∙◌, ◌∷◌, ◌≡◌}
use Rattle.farm_model.specs.Packages.{names}
use Rattle.word_archive.proofs.Opens.{long_initial, opens}
use Rattle.word_archive.proofs.SerialsFit.{is_small}

pub opening_words-requires : goal.opening_words-requires
opening_words-requires c = long_initial c.args.accepted.now c.keeps.ensures.sound

pub of_words-requires : goal.of_words-requires
of_words-requires c =
    opens (Unit {0}) c.args.accepted.now c.as_slice.result.now c.keeps.ensures.sound
    (c.as_slice.ensures.value ∙ c.in_ok-words.ensures)

pub invariant_of-archive-clause-wide : goal.invariant_of-archive-clause-wide
invariant_of-archive-clause-wide c =
    let u = c.args.accepted.now.universe in
    let long : length c.as_slice.result.now ≡ names u + 2 =
    omega (
      arith,
      ap length (c.as_slice.ensures.value ∙ c.in_ok-words.ensures),
      length-append u.initial (0 ∷ 0 ∷ []),
      long_initial c.args.accepted.now c.keeps.ensures.sound,
    ) in
    c.in_ok-table.ensures.0 ∙ long

pub invariant_of-archive-clause-small : goal.invariant_of-archive-clause-small
invariant_of-archive-clause-small c =
    is_small c.args.accepted.now c.keeps.ensures.sound.plan
    (omega (arith, c.plan.ensures.counted))
