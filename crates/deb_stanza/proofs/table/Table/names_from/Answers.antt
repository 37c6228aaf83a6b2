use Rattle.std.proofs.Common.{◌≡◌, ◌+◌, ◌-◌, ◌∷◌, List, ℕ, map, sym, ap, subst, ◌∙◌, arith}
use Rattle.std.specs.List.{list_all}
use Rattle.std.proofs.lemmas.Bool.{and_from}
use Rattle.deb_stanza.specs.Draft.{names_from}
use Rattle.deb_stanza.specs.Names.{HasNames, has, lowered}
use Rattle.deb_stanza.specs.Stanza.{name_of}
use Rattle.deb_stanza.proofs.LastLaws.{drop-texts, names-cons}
use Rattle.deb_stanza.proofs.NameLaws.{names-before}
use Rattle.deb_stanza.proofs.table.Table.names_from.Goals as goal

pub loop-field-init : goal.loop-field-init
loop-field-init c =
    let t = c.args.self.now in
    let names = c.new-names.result in
    let none = drop-texts t.bytes.items t.fields.items c.len-field.result
    (omega (arith, c.len-field.ensures)) in
    record {
      names =
          ap (λ (ts : List (List ℕ)). list_all (λ name. has names (lowered name)) (map name_of ts))
          none;
      within = omega (arith, c.len-field.ensures, c.requires.within);
      there = omega (arith, c.len-field.ensures);
    }

pub loop-field-preserved : goal.loop-field-preserved
loop-field-preserved c =
    let t = c.args.self.now in
    let field = c.loop-field.field in
    let old = c.loop-field.names in
    let new = c.insert.new.self in
    let name = c.name.result.now in
    let inv = c.loop-field.invariant in
    let next : field - 1 + 1 ≡ field = omega (arith, c.loop-field-test.true, inv.within) in
    let first : names_from t (field - 1) ≡ name ∷ names_from t field =
    names-cons t.bytes.items t.fields.items (field - 1)
    (omega (arith, inv.there, c.loop-field-test.true, inv.within))
    ∙ ap (λ n. n ∷ names_from t (field - 1 + 1)) (sym c.name.ensures)
    ∙ ap (λ (i : ℕ). name ∷ names_from t i) next in
    record {
      names =
          subst (HasNames new) (sym first)
          (and_from _ _ c.in_ok-insert.ensures.there
          (names-before old new (names_from t field) inv.names c.in_ok-insert.ensures.kept));
      within = omega (arith, c.loop-field-test.true, inv.within);
      there = omega (arith, inv.there);
    }
