use Rattle.std.proofs.Common.{◌≡◌, ◌++◌, ◌&&◌, List, subst, ◌∙◌, ap, sym}
use Rattle.bit_rows.specs.Sets.{variants_of, IsWordOf}
use Rattle.cert_text.specs.Printed.{list_text}
use Rattle.cert_text.specs.Rows.{named_variants}
use Rattle.farm_model.specs.Universe.{Universe}
use Rattle.farm_model.specs.declared.types.Variant.{Variant}
use Rattle.plan_verifier.specs.Accepted.{known_rows}
use Rattle.sat_rows.specs.Rows.{IsRowOf}
use Rattle.cert_writer.proofs.ListParts.{list-more, first-more, none-more}
use Rattle.cert_writer.proofs.Spellings.{spelled-set}
use Rattle.cert_writer.proofs.spelling.push_list.Goals as goal
use Rattle.cert_writer.proofs.spelling.push_list.Goals.{then-word-ne0+in_ok-is_first, else-word-ne0}
use Rattle.cert_writer.specs.Carried.{IsSpelled}
use Rattle.cert_writer.specs.Lines.{in_word, is_none, part_text}
use Rattle.cert_writer.specs.NewRows.{new_row}

pub loop-name-preserved : goal.loop-name-preserved
loop-name-preserved c =
    let u = c.args.accepted.now.universe in
    let known = known_rows c.args.accepted.now in
    let l = c.args.number in
    let i = c.args.place in
    let row = new_row u known l i in
    let n = c.loop-name.name in
    let word = c.new_word-word.result in
    let is_word : IsWordOf (variants_of row) n word =
    subst (λ (v : Universe). IsWordOf (variants_of (new_row v known l i)) n word)
    c.universe-universe.ensures (c.new_word-word.ensures known l i
    (subst (λ (v : Universe). IsRowOf v (known l i) c.args.words.now)
    (sym c.universe-universe.ensures) c.requires.words)) in
    elim c.if-word-ne0.branch [
      | then-word-ne0+in_ok-is_first w ↦
          record {
            text = list-more u row n word is_word c.args.text.now.items
                c.loop-name.text.items c.if-word-ne0.text.items c.loop-name.is_first
                c.loop-name.invariant.text c.loop-name.invariant.first
                (rw w.text-is (subst (λ (v : Universe). w.push_named.new.text.items
                ≡ c.loop-name.text.items ++ part_text v c.loop-name.is_first
                (in_word word (named_variants v n)))
                c.universe-universe.ensures w.in_ok-is_first.ensures.text));
            first = first-more u row n word is_word c.loop-name.is_first
                c.if-word-ne0.is_first c.loop-name.invariant.first
                (w.is_first-is ∙ subst (λ (v : Universe). w.in_ok-is_first.is_first
                ≡ (c.loop-name.is_first && is_none (in_word word (named_variants v n))))
                c.universe-universe.ensures w.in_ok-is_first.ensures.first);
            spelled = rw w.spelled-is (spelled-set u c.loop-name.spelled n w.push_named.new.spelled
                c.loop-name.invariant.spelled (subst (λ (v : Universe). IsSpelled v n
                w.push_named.new.spelled) c.universe-universe.ensures
                w.in_ok-is_first.ensures.spelled));
          }
      | else-word-ne0 w ↦
          let none : IsWordOf (variants_of row) n 0 =
          subst (IsWordOf (variants_of row) n) w.if-word-ne0.false is_word in
          record {
            text = rw w.text-is (subst (λ (vs : List Variant). c.loop-name.text.items
                ≡ c.args.text.now.items ++ list_text u vs) (sym (none-more u row n none))
                c.loop-name.invariant.text);
            first = w.is_first-is ∙ c.loop-name.invariant.first
                ∙ ap is_none (sym (none-more u row n none));
            spelled = rw w.spelled-is c.loop-name.invariant.spelled;
          }
    ]
