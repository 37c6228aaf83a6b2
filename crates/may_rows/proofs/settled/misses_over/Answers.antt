use Rattle.std.proofs.Common.{◌≡◌, ◌↔◌, ℕ, Bool, true, List, length, sym, ap, subst, ◌∙◌}
use Rattle.farm_model.specs.Common.{names, Universe}
use Rattle.sat_rows.specs.Served.{IsMissed}
use Rattle.may_rows.specs.Words.{Words}
use Rattle.may_rows.proofs.MissedNames.{over-some, over-none}
use Rattle.may_rows.proofs.settled.misses_over.Goals as goal

-- told of these words by tables of the same universe
told : (u from : Universe) (k word : ℕ) (words ready : List ℕ) (t : Bool) → from ≡ u → ready ≡ words
    → (t ≡ true) ↔ IsMissed from k word ready → (t ≡ true) ↔ IsMissed u k word words
told u from k word words ready t universe same is =
    subst (λ v. (t ≡ true) ↔ IsMissed v k word words) universe
    (subst (λ ws. (t ≡ true) ↔ IsMissed from k word ws) same is)

pub is_missed-requires : goal.is_missed-requires
is_missed-requires c =
    let words : c.deref.result.now ≡ c.args.state.now.ready =
    cc (ap (λ (x : Words). x.ready) c.state.view_is, c.deref.ensures.value) in
    ap length words ∙ c.requires.state.ready_long ∙ sym (ap names c.requires.same)

pub returns-clause-some : goal.returns-clause-some
returns-clause-some c is =
    let u = c.args.universe.now in
    let w = c.args.state.now in
    let k = c.args.over in
    let word = c.mask-all.result in
    let t = c.is_missed.result in
    let words : c.deref.result.now ≡ w.ready =
    cc (ap (λ (x : Words). x.ready) c.state.view_is, c.deref.ensures.value) in
    over-some u w c.requires.state k word c.mask-all.ensures t
    (told u c.args.tables.now k word w.ready c.deref.result.now t c.requires.same words
    c.is_missed.ensures) is

pub returns-clause-none : goal.returns-clause-none
returns-clause-none c is =
    let u = c.args.universe.now in
    let w = c.args.state.now in
    let k = c.args.over in
    let word = c.mask-all.result in
    let t = c.is_missed.result in
    let words : c.deref.result.now ≡ w.ready =
    cc (ap (λ (x : Words). x.ready) c.state.view_is, c.deref.ensures.value) in
    over-none u w c.requires.state k word c.mask-all.ensures t
    (told u c.args.tables.now k word w.ready c.deref.result.now t c.requires.same words
    c.is_missed.ensures) is
