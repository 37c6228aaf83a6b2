use Rattle.std.proofs.Common.{◌≡◌, ℕ, ◌<◌, true, get_or}
use Rattle.deb_stanza.specs.Keys.{is_name_byte}
use Rattle.deb_stanza.proofs.fields.split_name.Given as goal

-- all bytes so far may stand in a name
abbrev pub invariant-loop-place : goal.invariant-loop-place
invariant-loop-place l = (k : ℕ) → k < l.place → is_name_byte (get_or l.text k 0) ≡ true
