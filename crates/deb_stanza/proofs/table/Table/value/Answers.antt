use Rattle.std.proofs.Common.{◌≡◌, length, ap, refl, sym, ◌∙◌, arith}
use Rattle.deb_stanza.specs.declared.table.Start.{Start}
use Rattle.deb_stanza.specs.Cut.{end_at}
use Rattle.deb_stanza.specs.View.{first_of_start, value_among}
use Rattle.deb_stanza.proofs.CutLaws.{end_at-within, end_at-same, range-same}
use Rattle.deb_stanza.proofs.PlainLaws.{value_of-among}
use Rattle.deb_stanza.proofs.table.Table.value.Goals as goal

pub value_among-requires-clause-within : goal.value_among-requires-clause-within
value_among-requires-clause-within c =
    let t = c.args.self.now in
    let i = c.args.paragraph in
    let fields : c.len.result ≡ length t.fields.items =
    omega (arith, c.len.ensures, t.fields.ok.0) in
    let ends : c.start_end-end.result
    ≡ end_at first_of_start (length t.fields.items) t.paragraphs.items i =
    c.start_end-end.ensures ∙ end_at-same first_of_start _ _ _ _ i fields c.deref.ensures.value in
    omega (
      arith,
      ends,
      end_at-within first_of_start (length t.fields.items) t.paragraphs.items i
          c.requires.sound.paragraphs c.requires.within,
    )

pub returns : goal.returns
returns c =
    let t = c.args.self.now in
    let i = c.args.paragraph in
    let fields : c.len.result ≡ length t.fields.items =
    omega (arith, c.len.ensures, t.fields.ok.0) in
    let ends : c.start_end-end.result
    ≡ end_at first_of_start (length t.fields.items) t.paragraphs.items i =
    c.start_end-end.ensures ∙ end_at-same first_of_start _ _ _ _ i fields c.deref.ensures.value in
    c.value_among.ensures
    ∙ ap (value_among c.args.name.now)
    (range-same _ _ _ _ _ _ refl (ap (λ (s : Start). s.first) c.index.ensures) ends)
    ∙ sym (value_of-among t.bytes.items t.fields.items t.paragraphs.items i c.index.result.now
    c.args.name.now c.requires.within)
