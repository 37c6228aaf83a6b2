use Rattle.std.proofs.Common.{◌≡◌, ◌+◌, ◌-◌, ◌*◌, ◌%◌, ◌^◌, length, take, drop, get_or, subst, sym, ◌∙◌}
use Rattle.std.specs.Char.{to_ascii_lowercase}
use Rattle.deb_stanza.specs.Names.{lowered, packed, packed_behind}
use Rattle.deb_stanza.proofs.PackedLaws.{packed_step, packed_end}
use Rattle.deb_stanza.proofs.names.packed.Goals as goal

pub loop-left-preserved : goal.loop-left-preserved
loop-left-preserved c =
    let left = c.loop-left.left.now in
    let number = c.loop-left.number in
    let low : c.from.result ≡ to_ascii_lowercase (get_or left 0 0) =
    c.from.ensures ∙ c.to_ascii_lowercase.ensures.value in
    subst (λ b. packed_behind (number % 2 ^ 120 * 128 + b)
    (lowered (take (length left - 1) (drop 1 left))) ≡ packed (lowered c.args.name.now))
    (sym low) (packed_step number left c.in-len1-up.len_at_least ∙ c.loop-left.invariant)

pub returns : goal.returns
returns c =
    sym (packed_end c.loop-left.number c.loop-left.left.now c.in_default.len_below)
    ∙ c.loop-left.invariant
