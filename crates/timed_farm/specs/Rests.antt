-- Lanes that rest on. The project's own rules.
--
--   RestsBehind      what a lane that rests stands at, where a variant does not let it go on
use Rattle.std.specs.Prelude.{◌≡◌, false, Option, Some, None}
use Rattle.farm_model.specs.Common.{Universe, satisfies_entry}
use Rattle.farm_model.specs.declared.types.Variant.{Variant}
use Rattle.plan_model.specs.declared.instructions.Instruction.{Instruction}
use Rattle.plan_model.specs.declared.instructions.Instruction.TheVariants.{Wait}

-- its end, or a wait that the variant does not satisfy
abbrev pub RestsBehind : Universe → Option Instruction → Variant → Type 0
RestsBehind u None v = Unit {0}
RestsBehind u (Some (Wait e)) v = satisfies_entry u e v ≡ false
RestsBehind u (Some _) v = ⊥
