-- The messages of refusals. The project's own format.
--
--   escaped            a name, as messages write it
--   escaped_names      names, each behind a space
--   refusal_message    the message of a refusal
use Rattle.std.specs.Prelude.{ℕ, ◌/◌, ◌%◌, Bool, not, ◌&&◌, ◌==◌, nat_le, if◌then◌else◌, List, [], ◌∷◌, ◌++◌, codes, decimal, Option, Some, None}
use Rattle.std.specs.Char.{digit_char}
use Rattle.std.specs.List.{flat_map}
use Rattle.deb_text.specs.Lists.{lists}
use Rattle.farm_model.specs.TrapText.{trap_text}
use Rattle.plan_verifier.specs.declared.refusal.Refusal.{Refusal}
use Rattle.plan_verifier.specs.declared.refusal.Refusal.TheVariants.{Text, Unsafe, Uneven, Stuck, Memory}

-- printable ASCII but the backslash
abbrev pub is_plain : ℕ → Bool
is_plain byte = nat_le 32 byte && nat_le byte 126 && not (byte == 92)

-- a plain byte as it is, and another as `\x` and two hexadecimal digits
unfoldable pub escaped_byte : ℕ → List ℕ
escaped_byte byte =
    if is_plain byte then byte ∷ []
    else 92 ∷ 120 ∷ digit_char (byte / 16) ∷ digit_char (byte % 16) ∷ []

abbrev pub escaped : List ℕ → List ℕ
escaped name = flat_map escaped_byte name

-- names, each behind a space
abbrev pub escaped_names : List (List ℕ) → List ℕ
escaped_names names = flat_map (λ name. 32 ∷ escaped name) names

-- nothing is said of how a fault is told
abbrev pub refusal_message : Refusal → Option (List ℕ)
refusal_message (Text fault) = None
refusal_message (Unsafe lane instruction trap) =
    Some (codes "instruction " ++ (decimal instruction ++ (codes " of lane " ++ (escaped lane.items
    ++ (codes " may meet " ++ trap_text trap)))))
refusal_message (Uneven lane instruction) =
    Some (codes "the branches of instruction " ++ (decimal instruction ++ (codes " of lane "
    ++ (escaped lane.items ++ codes " end in different phases"))))
refusal_message (Stuck lanes) = Some (codes "stuck lanes:" ++ escaped_names (lists lanes.items))
refusal_message Memory = Some (codes "out of memory")
