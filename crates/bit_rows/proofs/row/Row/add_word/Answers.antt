use Rattle.std.proofs.Common.{◌≡◌, ◌/◌, ◌%◌, length, get_or, bit_or, sym, subst, ap, ◌∙◌}
use Rattle.bit_rows.specs.Sets.{variants_of, AddsWord}
use Rattle.bit_rows.specs.Blocks.{block_words_at, words_of, AreRowBlocks}
use Rattle.bit_rows.proofs.RowWords.{length-words_of, words_of_any}
use Rattle.bit_rows.proofs.Writes.{after_write, on_ok, adds-set}
use Rattle.bit_rows.proofs.Written.{written}
use Rattle.bit_rows.proofs.row.Row.add_word.Goals as goal

pub invariant_of-self : goal.invariant_of-self
invariant_of-self g c =
    let row = c.self.inside in
    let word = bit_or (get_or c.words_there.result.now (c.args.name % 4) 0) c.args.word in
    let is = written row.count c.find-at.result c.args.name word row.blocks.items
    c.deref-2.result.now c.deref.result.now c.words_there.result.now c.args.self.now
    c.self.invariant c.self.view_is c.requires c.deref-2.ensures c.deref.ensures
    c.find-at.ensures c.words_there.ensures in
    after_write (AreRowBlocks row.count) c.put.result _ _ _ c.put.ensures.placed
    c.put.ensures.unchanged is.are c.self.invariant

pub returns-clause-set : goal.returns-clause-set
returns-clause-set g c =
    let row = c.self.inside in
    let name = c.args.name in
    let before = get_or c.words_there.result.now (name % 4) 0 in
    let is = written row.count c.find-at.result name (bit_or before c.args.word) row.blocks.items
    c.deref-2.result.now c.deref.result.now c.words_there.result.now c.args.self.now
    c.self.invariant c.self.view_is c.requires c.deref-2.ensures c.deref.ensures
    c.find-at.ensures c.words_there.ensures in
    let found : before ≡ get_or c.args.self.now name 0 =
    ap (λ ws. get_or ws (name % 4) 0)
    (c.words_there.ensures ∙ ap (λ bs. block_words_at bs (name / 4)) c.deref-2.ensures)
    ∙ (sym (words_of_any row.count row.blocks.items name c.self.invariant.each)
    ∙ ap (λ words. get_or words name 0) c.self.view_is) in
    on_ok c.put.result
    (λ e. subst (λ r. AddsWord (variants_of c.args.self.now) name c.args.word (variants_of r))
    (sym (ap (words_of row.count) e ∙ is.words))
    (adds-set c.args.self.now name before c.args.word c.requires found))
    c.put.ensures.placed

pub returns-clause-len : goal.returns-clause-len
returns-clause-len g c =
    length-words_of c.self.inside.count _
    ∙ (sym (length-words_of c.self.inside.count c.self.inside.blocks.items)
    ∙ ap length c.self.view_is)
