use Rattle.std.proofs.Common.{sym, ◌∙◌, ◌≡◌, ◌++◌, ◌∷◌, [], refl}
use Rattle.deb_text.proofs.ListLaws.{lists-push, any-lists}
use Rattle.farm_universe.proofs.keyed.put_new.Goals as goal

pub returns-clause-keys : goal.returns-clause-keys
returns-clause-keys g c =
    let none = sym (any-lists c.args.keys.now.keys c.args.key.items) ∙ c.requires in
    let keys : c.insert.new.self.keys ≡ c.args.keys.now.keys ++ c.args.key ∷ [] =
    rw none at c.in_ok-insert.ensures.keys in
    rw (keys, lists-push c.args.keys.now.keys c.args.key) refl

pub returns-clause-groups : goal.returns-clause-groups
returns-clause-groups g c =
    rw (
      c.in_ok-push-2.ensures.items,
      lists-push c.args.groups.now.items c.push.new.self,
      c.in_ok-push.ensures.items,
      c.in_ok-group.ensures.items,
    ) refl
