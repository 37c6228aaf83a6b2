-- The words of the rows of a certificate.
use Rattle.std.proofs.Common.{◌≡◌, ℕ, ◌^◌, ◌<◌, Bool, true, false, not, ◌&&◌, nat_lt, refl, sym, ap, ◌∙◌, slice_index}
use mir.Syntax.{w64}
use Rattle.std.specs.Int.{bit_not}
use Rattle.std.specs.Prelude.{bit_and}
use Rattle.bit_rows.specs.Sets.{variants_of, IsWordOf}
use Rattle.clause_kernel.proofs.Words.{and_not, word_has-left}
use Rattle.clause_kernel.specs.Rows.{word_has}
use Rattle.farm_model.specs.Common.{variant, variants, initial, IsUniverse, Universe}
use Rattle.plan_model.specs.Known.{Rows}
use Rattle.sat_rows.specs.Rows.{variant_passes, IsWordFor}
use Rattle.known_rows.proofs.InitialRow.{initial_word}
use Rattle.cert_writer.proofs.TestRows.{test-row}
use Rattle.cert_writer.specs.NewRows.{new_at, new_row}

-- known and not from the start, of those that there are
both : (t k s : Bool) → (t && (k && not s)) ≡ ((t && k) && not (t && s))
both true k s = refl
both false k s = refl

-- what is known of a name, less its word of the initial archive
pub new-word : (u : Universe) (known : Rows) (l i n word start new : ℕ) → IsUniverse u
    → IsWordFor u (known l i) n word → start ≡ slice_index u.initial n → word < 2 ^ 64
    → start < 2 ^ 64 → new ≡ bit_and word (bit_not w64 start)
    → IsWordOf (variants_of (new_row u known l i)) n new
new-word u known l i n word start new sound is from small_word small_start rest b =
    (test-row u (new_at u known l i)).set n b
    ∙ both (nat_lt b (variants u n)) (known l i (variant n b)) (initial u (variant n b))
    ∙ ap (λ t. t && not (variant_passes u (initial u) n b)) (sym (is b))
    ∙ ap (λ t. word_has word b && not t)
    (sym (initial_word u n b sound) ∙ ap (λ w. word_has w b) (sym from))
    ∙ sym (word_has-left word start b)
    ∙ ap (λ w. word_has w b) (sym (and_not word start small_word small_start) ∙ sym rest)
