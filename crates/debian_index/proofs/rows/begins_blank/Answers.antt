use Rattle.std.proofs.Common.{sym, ap, ◌∙◌, take}
use Rattle.std.specs.List.{list_all}
use Rattle.deb_text.specs.Bytes.{is_blank}
use Rattle.debian_index.proofs.RowLaws.{row-blank}
use Rattle.debian_index.proofs.rows.begins_blank.Goals as goal

pub returns : goal.returns
returns c =
    c.all_in.ensures ∙ ap (λ n. list_all is_blank (take n c.args.text.now)) c.row_size.ensures.size
    ∙ sym (row-blank c.args.text.now)
