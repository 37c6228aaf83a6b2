use Rattle.std.proofs.Common.{◌∙◌, ℕ, ◌<◌, Some, length, get_or, ap, sym, arith}
use Rattle.std.proofs.lemmas.Option.{slice_get_within, slice_get-get_or}
use Rattle.deb_relation.specs.Relations.{Entry, Relations}
use Rattle.item_index.specs.Items.{item, IsListedEntry}
use Rattle.item_index.proofs.IndexLaws.{before_next}
use Rattle.item_index.proofs.index.ItemIndex.add_field.Goals as goal

pub loop-number-preserved : goal.loop-number-preserved
loop-number-preserved g c =
    let so_far = c.loop-number.invariant in
    let owner = c.args.owner in
    let field = c.args.field.now in
    let i = c.loop-number.number in
    let e = c.index-entries-number.result in
    let long = c.entries-entries.ensures in
    let lt : i < length field = omega (arith, ap length long) in
    let there = slice_get-get_or field i e lt
    ∙ ap Some (sym (c.index-entries-number.is ∙ ap (λ (field : Relations). get_or field i e) long))
    in
    let step = c.in_ok-add_entry.ensures in
    record {
      kept = λ text at is. step.kept text at (so_far.kept text at is);
      names = before_next
          (λ (i : ℕ) (e : Entry). IsListedEntry c.loop-number.self owner i e)
          (λ (i : ℕ) (e : Entry). IsListedEntry c.add_entry.new.self owner i e) field i e there
          (λ i e is j a at. step.kept a.name (item owner i j) (is j a at)) so_far.names
          step.names;
    }

pub returns-clause-names : goal.returns-clause-names
returns-clause-names g c i e is =
    let within = slice_get_within c.args.field.now i e is in
    let long = ap length c.entries-entries.ensures in
    c.loop-number.invariant.names i e (omega (arith, within, long)) is
