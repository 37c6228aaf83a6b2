use Rattle.std.proofs.Common.{◌++◌, ◌∙◌, ap, sym, arith, List}
use Rattle.std.proofs.lemmas.List.{append-nil}
use Rattle.std.proofs.lemmas.List.Elements.{All-same}
use Rattle.std.specs.List.{flat_map, range_with_len}
use Rattle.clause_kernel.specs.Rows.{word_has}
use Rattle.farm_model.specs.Packages.{variants}
use Rattle.farm_model.specs.declared.types.Variant.{Variant}
use Rattle.cert_text.specs.Rows.{IsOfUniverse, named_in_row, row_variants}
use Rattle.cert_text.proofs.RowLists.{row_variants-in, in_row-none, names-more}
use Rattle.cert_text.proofs.printer.row_variants.Goals as goal
use Rattle.cert_text.proofs.printer.row_variants.Goals.{then-word-ne0+in_ok-push_named, else-word-ne0}

pub loop-name-preserved : goal.loop-name-preserved
loop-name-preserved c =
    let u = c.args.universe.now in
    let row = c.args.row.now in
    let n = c.loop-name.name in
    let before = flat_map (named_in_row u row) (range_with_len 0 n) in
    elim c.if-word-ne0.branch [
      | then-word-ne0+in_ok-push_named w ↦
          rw (w.found-is, w.in_ok-push_named.ensures, c.loop-name.invariant)
          (sym (names-more (named_in_row u row) n))
      | else-word-ne0 w ↦
          let none = in_row-none row n (variants u n)
          (λ b. c.word.ensures.set b ∙ ap (λ word. word_has word b) w.if-word-ne0.false) in
          rw (w.found-is, c.loop-name.invariant)
          (sym (names-more (named_in_row u row) n
          ∙ ap (λ (vs : List Variant). before ++ vs) none ∙ append-nil before))
    ]

pub returns-clause-known : goal.returns-clause-known
returns-clause-known c =
    All-same (IsOfUniverse c.args.universe.now) c.loop-name.found.items
    (row_variants c.args.universe.now c.args.row.now)
    (c.loop-name.invariant
    ∙ ap (λ k. flat_map (named_in_row c.args.universe.now c.args.row.now) (range_with_len 0 k))
    (omega (arith, c.names-name-end.ensures.number)))
    (row_variants-in c.args.universe.now c.args.row.now)
