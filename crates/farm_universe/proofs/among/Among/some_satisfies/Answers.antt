use Rattle.std.proofs.Common.{◌≡◌, ◌∙◌, ◌&&◌, ◌||◌, Bool, List, sym}
use Rattle.std.specs.List.{list_any}
use Rattle.std.specs.Option.{is_none}
use Rattle.deb_relation.specs.Common.{Atom, is_its_own, is_provided}
use Rattle.farm_universe.specs.Among.{is_another_member}
use Rattle.farm_universe.specs.BaseText.{Member, member_facts}
use Rattle.farm_universe.proofs.AmongLaws.{any-either, by_name, by_item, by_none}
use Rattle.farm_universe.proofs.among.Among.some_satisfies.Goals as goal

module _ (o : Member → Bool) (ms : List Member) (a : Atom) where
  abbrev named : Bool
  named = list_any (λ m. o m && is_its_own (member_facts m) a) ms

  abbrev provided : Bool
  provided = list_any (λ m. o m && is_provided m.binary.provides a) ms

  either : (is_none a.qualifier && (named || provided))
      ≡ list_any (λ m. o m && (is_none a.qualifier
      && (is_its_own (member_facts m) a || is_provided m.binary.provides a))) ms
  either =
      sym (any-either o (is_none a.qualifier) (λ m. is_its_own (member_facts m) a)
      (λ m. is_provided m.binary.provides a) ms)

pub returns-then-some_named : goal.returns-then-some_named
returns-then-some_named c =
    let a = c.args.atom.now in
    let ms = c.args.self.now in
    let o = is_another_member c.args.besides in
    by_name (is_none a.qualifier) (named o ms a) c.some_named.result (provided o ms a)
    (sym c.is_bare.ensures ∙ c.if-is_bare.true) (sym c.some_named.ensures ∙ c.if-some_named.true)
    c.some_named.ensures
    ∙ either o ms a

pub returns-else-some_named : goal.returns-else-some_named
returns-else-some_named c =
    let a = c.args.atom.now in
    let ms = c.args.self.now in
    let o = is_another_member c.args.besides in
    by_item (is_none a.qualifier) (named o ms a) c.some_provides.result (provided o ms a)
    (sym c.is_bare.ensures ∙ c.if-is_bare.true) (sym c.some_named.ensures ∙ c.if-some_named.false)
    c.some_provides.ensures
    ∙ either o ms a

pub returns-else-is_bare : goal.returns-else-is_bare
returns-else-is_bare c =
    let a = c.args.atom.now in
    let ms = c.args.self.now in
    let o = is_another_member c.args.besides in
    by_none (is_none a.qualifier) c.is_bare.result (named o ms a || provided o ms a)
    (sym c.is_bare.ensures ∙ c.if-is_bare.false) c.is_bare.ensures
    ∙ either o ms a
