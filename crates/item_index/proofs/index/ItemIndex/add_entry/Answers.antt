use Rattle.std.proofs.Common.{◌≡◌, ◌∙◌, ℕ, ◌<◌, Some, length, get_or, ap, sym, subst, arith}
use Rattle.std.proofs.lemmas.Option.{slice_get_within, slice_get-get_or}
use Rattle.deb_relation.specs.Relations.{Atom, Entry}
use Rattle.item_index.specs.Items.{item, IsListed}
use Rattle.item_index.proofs.IndexLaws.{before_next}
use Rattle.item_index.proofs.index.ItemIndex.add_entry.Goals as goal

pub loop-alternative-preserved : goal.loop-alternative-preserved
loop-alternative-preserved g c =
    let so_far = c.loop-alternative.invariant in
    let owner = c.args.owner in
    let number = c.args.number in
    let e = c.args.entry.now in
    let j = c.loop-alternative.alternative in
    let a = c.index-atoms-alternative.result in
    let long = c.alternatives-atoms.ensures in
    let lt : j < length e = omega (arith, ap length long) in
    let there = slice_get-get_or e j a lt
    ∙ ap Some (sym (c.index-atoms-alternative.is ∙ ap (λ (e : Entry). get_or e j a) long)) in
    let text : c.name.result.now ≡ a.name = c.name.ensures in
    let step = c.in_ok-add.ensures in
    record {
      kept = λ text at is. step.kept text at (so_far.kept text at is);
      names = before_next
          (λ (j : ℕ) (a : Atom). IsListed c.loop-alternative.self a.name (item owner number j))
          (λ (j : ℕ) (a : Atom). IsListed c.add.new.self a.name (item owner number j)) e j a there
          (λ j a is. step.kept a.name (item owner number j) is) so_far.names
          (subst (λ text. IsListed c.add.new.self text (item owner number j)) text step.there);
    }

pub returns-clause-names : goal.returns-clause-names
returns-clause-names g c j a is =
    let within = slice_get_within c.args.entry.now j a is in
    let long = ap length c.alternatives-atoms.ensures in
    c.loop-alternative.invariant.names j a (omega (arith, within, long)) is
