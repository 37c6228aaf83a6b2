use Rattle.std.proofs.Common.{sym, ◌∙◌, subst, ◌≡◌}
use Rattle.indexmap.proofs.CallerLemmas.{insert_entry-new}
use Rattle.std.specs.Map.{lookup}
use Rattle.std.specs.Str.{bytes_eq}
use Rattle.std.specs.Prelude.{None}
use Rattle.plan_reader.proofs.RecipeLaws.{firsts-old, firsts-put}
use Rattle.plan_reader.proofs.WriteLaws.{lookup-none}
use Rattle.plan_reader.proofs.recipe_numbers.put_name.Goals as goal

pub returns-then-contains_key : goal.returns-then-contains_key
returns-then-contains_key c before number are =
    firsts-old before c.args.numbers.now.entries are c.args.name.now
    (sym c.contains_key.ensures ∙ c.if-contains_key.true)

pub returns : goal.returns
returns c before number are =
    let key = c.in_ok-from_slice.field-0 in
    let same = c.in_ok-from_slice.ensures.items in
    let new : lookup (λ k. bytes_eq key.items k.items) c.args.numbers.now.entries ≡ None =
    subst (λ z. lookup (λ k. bytes_eq z k.items) c.args.numbers.now.entries ≡ None) (sym same)
    (lookup-none _ (sym c.contains_key.ensures ∙ c.if-contains_key.false)) in
    firsts-put before c.args.numbers.now.entries are _ key c.args.name.now c.args.number same number
    (c.in_ok-insert.ensures.entries ∙ insert_entry-new _ c.args.numbers.now key _ new)
