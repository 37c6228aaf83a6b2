use Rattle.std.proofs.Common.{Some, ap, sym, ◌∙◌}
use Rattle.std.proofs.lemmas.Option.{slice_get-map}
use Rattle.std.specs.Option.{option_copied, option_map}
use Rattle.deb_text.proofs.ListLaws.{bytes-same}
use Rattle.command_line.proofs.named.is_named.Goals as goal

pub returns-in-Some-Some : goal.returns-in-Some-Some
returns-in-Some-Some g c h =
    let text_of = g.S.AsStr.text in
    slice_get-map text_of c.args.words.now 0
    ∙ ap (option_map text_of) (sym c.first.ensures.value ∙ ap option_copied c.in-Some-Some.is-0)
    ∙ ap Some (bytes-same _ _ (sym c.is_text.ensures ∙ h))
    ∙ sym (ap (option_map (λ text. text.now)) c.in-Some-Some.is-1)
