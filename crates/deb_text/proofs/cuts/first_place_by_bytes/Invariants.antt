use Rattle.std.proofs.Common.{◌≢◌, ℕ, ◌<◌, get_or}
use Rattle.deb_text.proofs.cuts.first_place_by_bytes.Given as goal

-- the byte does not stand before
abbrev pub invariant-loop-place : goal.invariant-loop-place
invariant-loop-place l = (k : ℕ) → k < l.place → get_or l.text k 0 ≢ l.byte
