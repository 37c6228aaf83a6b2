use Rattle.std.proofs.Common.{◌≡◌, sym, ◌∙◌, None}
use Rattle.std.specs.Map.{lookup}
use Rattle.std.specs.Str.{bytes_eq}
use Rattle.indexmap.proofs.CallerLemmas.{insert_entry-new}
use Rattle.plan_reader.proofs.WriteLaws.{lookup-none}
use Rattle.cert_text.proofs.ItemLaws.{said-put}
use Rattle.cert_text.proofs.spelled.put.Goals as goal

pub returns : goal.returns
returns c u are is =
    let key = c.args.text in
    let new : lookup (λ k. bytes_eq key.items k.items) c.args.variants.now.entries ≡ None =
    lookup-none _ (rw c.as_slice.ensures.value at
    (sym c.contains_key.ensures ∙ c.if-contains_key.false))
    in
    said-put u c.args.variants.now.entries are key c.args.variant is _
    (c.in_ok-insert.ensures.entries ∙ insert_entry-new _ c.args.variants.now key _ new)
