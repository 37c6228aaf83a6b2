-- Items of lists by their texts, as the reader keeps them. Only the contracts of private functions
-- cite this file. Parameters: u the universe.
--
--   said_variant u text  the variant that an item says, if it says one
--   AreSaid u es     each text says the variant that is noted beside it
--   EachIsSaid u xs  each of these texts says its variant
use Rattle.std.specs.Prelude.{◌≡◌, ℕ, List, All, Option, Some, None, Result, Ok, Err}
use Rattle.std.specs.Global.{Vec}
use Rattle.std.specs.Map.{lookup}
use Rattle.std.specs.Str.{bytes_eq}
use Rattle.deb_relation.specs.Common.{entry_at, Entry}
use Rattle.deb_relation.specs.declared.kind.Kind.TheVariants.{Provide}
use Rattle.farm_model.specs.Universe.{Universe}
use Rattle.farm_model.specs.declared.types.Variant.{Variant}
use Rattle.farm_universe.specs.Items.{item_variant}
use Rattle.cert_text.specs.Rows.{IsOfUniverse}

abbrev pub said_by : Universe → Result Entry ℕ → Option Variant
said_by u (Ok item) = item_variant u item
said_by u (Err code) = None

-- the variant of an item of a list, which is written as a Provides field is
unfoldable pub said_variant : Universe → List ℕ → Option Variant
said_variant u text = said_by u (entry_at Provide text)

-- the text says this variant, one of the universe
pub record IsSaid (u : Universe) (text : List ℕ) (v : Variant) : Type 0 where
  pub is : said_variant u text ≡ Some v
  pub known : IsOfUniverse u v

abbrev pub AreSaid : Universe → List (Vec ℕ × Variant) → Type 0
AreSaid u es =
    (text : List ℕ) (v : Variant) → lookup (λ k. bytes_eq text k.items) es ≡ Some v
    → IsSaid u text v

-- an item by its text, and a variant
pub record SaidText : Type 0 where
  pub text : List ℕ
  pub variant : Variant

abbrev pub EachIsSaid : Universe → List SaidText → Type 0
EachIsSaid u items = All (λ (item : SaidText). IsSaid u item.text item.variant) items
