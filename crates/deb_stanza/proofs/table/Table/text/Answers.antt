use Rattle.std.proofs.Common.{◌≡◌, ℕ, List, [], length, ap, sym, ◌∙◌, arith}
use Rattle.deb_stanza.specs.Cut.{end_at}
use Rattle.deb_stanza.specs.View.{own}
use Rattle.deb_stanza.proofs.CutLaws.{end_at-after, end_at-within, end_at-same, get_or-cut, range-same}
use Rattle.deb_stanza.proofs.table.Table.text.Goals as goal

pub part-requires-clause-ascends : goal.part-requires-clause-ascends
part-requires-clause-ascends c =
    let t = c.args.self.now in
    let i = c.args.field in
    let bytes : c.len.result ≡ length t.bytes.items = omega (arith, c.len.ensures, t.bytes.ok.0) in
    let ends : c.field_end.result ≡ end_at own (length t.bytes.items) t.fields.items i =
    c.field_end.ensures ∙ end_at-same own _ _ _ _ i bytes c.deref-2.ensures.value in
    omega (
      arith,
      ends,
      c.index.ensures,
      end_at-after own (length t.bytes.items) t.fields.items i c.index.result.now
          c.requires.sound.fields c.requires.within,
    )

pub part-requires-clause-within : goal.part-requires-clause-within
part-requires-clause-within c =
    let t = c.args.self.now in
    let i = c.args.field in
    let bytes : c.len.result ≡ length t.bytes.items = omega (arith, c.len.ensures, t.bytes.ok.0) in
    let ends : c.field_end.result ≡ end_at own (length t.bytes.items) t.fields.items i =
    c.field_end.ensures ∙ end_at-same own _ _ _ _ i bytes c.deref-2.ensures.value in
    omega (
      arith,
      ends,
      ap length c.deref.ensures.value,
      end_at-within own
          (length t.bytes.items) t.fields.items i c.requires.sound.fields c.requires.within,
    )

pub returns : goal.returns
returns c =
    let t = c.args.self.now in
    let i = c.args.field in
    let bytes : c.len.result ≡ length t.bytes.items = omega (arith, c.len.ensures, t.bytes.ok.0) in
    let ends : c.field_end.result ≡ end_at own (length t.bytes.items) t.fields.items i =
    c.field_end.ensures ∙ end_at-same own _ _ _ _ i bytes c.deref-2.ensures.value in
    c.part.ensures
    ∙ range-same _ _ _ _ _ _ c.deref.ensures.value c.index.ensures ends
    ∙ sym (get_or-cut own (λ (start : ℕ) (text : List ℕ). text) t.bytes.items t.fields.items i
    c.index.result.now [] c.requires.within)
