use Rattle.std.proofs.Common.{◌≡◌, ◌==◌, false, sym, ap, ◌∙◌, if◌then◌else◌}
use Rattle.farm_universe.proofs.PlaceLaws.{named}
use Rattle.farm_model.specs.Packages.{variants}
use Rattle.plan_model.specs.May.{MayConfigured, is_surely_present}
use Rattle.may_rows.specs.Words.{may_of, with_slot}
use Rattle.may_rows.proofs.BaseMaps.{single-words, single-slot}
use Rattle.may_rows.proofs.state.MayHold.add.Goals as goal

pub put-requires-clause-named : goal.put-requires-clause-named
put-requires-clause-named c =
    named c.args.universe.now c.args.variant.name c.args.variant.bit c.requires.known

pub put-requires-clause-words : goal.put-requires-clause-words
put-requires-clause-words c =
    single-words (variants c.args.universe.now c.args.variant.name) c.args.variant.bit
    c.single-word.result c.single-word.ensures c.requires.known

pub returns-then-not-is_present-clause-map : goal.returns-then-not-is_present-clause-map
returns-then-not-is_present-clause-map c =
    let m = may_of c.args.self.now in
    let absent : is_surely_present (m.slots c.args.variant.name) ≡ false =
    sym c.is_present.ensures ∙ c.if-not-is_present.true in
    c.put.ensures.map
    ∙ ap (with_slot m c.args.variant.name)
    (single-slot c.args.variant.bit c.single-word.result c.single-word.ensures)
    ∙ sym (ap (λ t. if t then m
    else with_slot m c.args.variant.name (MayConfigured (λ b. b == c.args.variant.bit))) absent)
