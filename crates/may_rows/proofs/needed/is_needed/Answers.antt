use Rattle.std.proofs.Common.{◌≡◌, ◌↔◌, length, get_or, true, sym, ap, subst, ◌∙◌}
use Rattle.farm_model.specs.Common.{names, Universe}
use Rattle.sat_rows.specs.Served.{IsMissed}
use Rattle.may_rows.specs.Words.{Words}
use Rattle.may_rows.proofs.NeededNames.{needed_is}
use Rattle.may_rows.proofs.needed.is_needed.Goals as goal

pub is_missed-requires : goal.is_missed-requires
is_missed-requires c =
    let words : c.deref.result.now ≡ c.args.state.now.ready =
    cc (ap (λ (x : Words). x.ready) c.state.view_is, c.deref.ensures.value) in
    ap length words ∙ c.requires.ready_long ∙ sym (ap names c.args.of.tables_are)

pub returns : goal.returns
returns c =
    let w = c.args.state.now in
    let k = c.args.member in
    let t = c.is_missed.result in
    let words : c.deref.result.now ≡ w.ready =
    cc (ap (λ (x : Words). x.ready) c.state.view_is, c.deref.ensures.value) in
    needed_is c.args.of.universe.now w c.requires k t
    (subst (λ (u : Universe). (t ≡ true) ↔ IsMissed u k (get_or w.last k 0) w.ready)
    c.args.of.tables_are
    (subst (λ ws. (t ≡ true) ↔ IsMissed c.args.of.tables.now k (get_or w.last k 0) ws) words
    (subst (λ word. (t ≡ true) ↔ IsMissed c.args.of.tables.now k word c.deref.result.now)
    c.last_word.ensures c.is_missed.ensures)))
