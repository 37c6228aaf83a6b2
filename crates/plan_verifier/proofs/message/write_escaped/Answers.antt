use Rattle.std.proofs.Common.{◌≡◌, true, false, ◌<◌, rules}
use Rattle.std.proofs.Output.{has_written_append, has_written_of_eq}
use Rattle.std.specs.Result.{IsOk}
use Rattle.plan_verifier.specs.Messages.{is_plain}
use Rattle.plan_verifier.proofs.Messages.{plain_is, escaped_is}
use Rattle.plan_verifier.proofs.message.write_escaped.Goals as goal

pub returns-then-is_plain : goal.returns-then-is_plain
returns-then-is_plain g c = λ plain ok.
    let is : is_plain c.args.byte ≡ true = search rules in
    let ascii : c.args.byte < 128 = search rules in
    has_written_of_eq _ _ _ _ _ (plain_is c.args.byte ascii is)
    (c.write_char.ensures.writes plain ok)

pub returns : goal.returns
returns g c = λ plain ok.
    let is : is_plain c.args.byte ≡ false = search rules in
    let ok-1 : IsOk c.write_str.result = search rules in
    let ok-2 : IsOk c.write_char-2.result = search rules in
    let first = c.write_str.ensures.writes plain ok-1 in
    let second = c.write_char-2.ensures.writes first.plain ok-2 in
    let third = c.write_char-3.ensures.writes second.plain ok in
    has_written_of_eq _ _ _ _ _
    (escaped_is c.args.byte c.hex_digit.result c.hex_digit-2.result c.hex_digit.ensures.digit
    c.hex_digit-2.ensures.digit c.hex_digit.ensures.ascii c.hex_digit-2.ensures.ascii is)
    (has_written_append _ _ _ _ _ _ (has_written_append _ _ _ _ _ _ first second) third)
