-- The may map at each place of a lane. The project's own rules: it changes as the chroot does, and
-- two branches are joined. Parameters as in May; p a plan, l a lane, i a place.
--
--   may_base, may_after       the map of a base chroot, and after an instruction of the chroot
--   Maps, maps_behind         the maps that a place needs; those behind any instruction
--   may_at, lane_cost         the map at a place; the most that the lane spends
use Rattle.std.specs.Prelude.{ℕ, zero, suc, ◌+◌, Bool, false, ◌==◌, List, length, Option, Some, None, if◌then◌else◌}
use Rattle.std.specs.List.{find}
use Rattle.deb_relation.specs.declared.operator.Op.{Op}
use Rattle.farm_model.specs.Common.{Universe, recipe, base, member}
use Rattle.farm_model.specs.declared.types.Variant.{Variant}
use Rattle.plan_model.specs.declared.instructions.Instruction.{Instruction}
use Rattle.plan_model.specs.declared.instructions.Instruction.TheVariants.{Unpack, Configure, Deconfigure, Remove, Build, Publish, When, Otherwise, EndWhen}
use Rattle.plan_model.specs.Plan.{Lane, Plan, lane, instruction_at, set_cost, build_cost, publish_cost}
use Rattle.plan_model.specs.Turn.{no_builds, with_built, newest}
use Rattle.plan_model.specs.Known.{Rows, possible}
use Rattle.plan_model.specs.May.{Bits, MaySlot, MayAbsent, MayUnpacked, MayConfigured, May}
use Rattle.plan_model.specs.Join.{joined_may}
use Rattle.plan_model.specs.Risk.{candidates, greatest_cost}

-- the variants that may be the last configured one
abbrev pub may_be_last : MaySlot → Bits
may_be_last MayAbsent = λ b. false
may_be_last (MayUnpacked current last) = last
may_be_last (MayConfigured current) = current

-- the map after an unpack, where the highest known variant that is wanted is this, or there is none
abbrev pub may_unpack : Universe → (Variant → Bool) → May → ℕ → Option (Op × List ℕ) → Option ℕ
    → May
may_unpack u there m name wanted None = m
may_unpack u there m name wanted (Some highest) =
    let set = candidates u there name wanted highest in
    record m {
      slots = λ n. if n == name then MayUnpacked set (may_be_last (m.slots n)) else m.slots n;
      cost = m.cost + greatest_cost u name set;
    }

-- a slot after its variant is configured
abbrev pub may_be_configured : MaySlot → MaySlot
may_be_configured MayAbsent = MayAbsent
may_be_configured (MayUnpacked current last) = MayConfigured current
may_be_configured (MayConfigured current) = MayConfigured current

-- a slot after its variant is unpacked again: it was configured last
abbrev pub may_be_deconfigured : MaySlot → MaySlot
may_be_deconfigured MayAbsent = MayAbsent
may_be_deconfigured (MayUnpacked current last) = MayUnpacked current last
may_be_deconfigured (MayConfigured current) = MayUnpacked current current

-- each member's slot changed
abbrev pub may_change : (MaySlot → MaySlot) → May → List ℕ → May
may_change f m members = record m {
  slots = λ n. if member members n then f (m.slots n) else m.slots n;
  cost = m.cost + set_cost members;
}

-- the map after an instruction
abbrev pub may_after : Universe → (Variant → Bool) → (Variant → Bool) → May → Instruction → May
may_after u known there m (Unpack name wanted) =
    may_unpack u there m name wanted (newest u known name wanted)
may_after u known there m (Configure members) = may_change may_be_configured m members
may_after u known there m (Deconfigure members) = may_change may_be_deconfigured m members
may_after u known there m (Remove members) = may_change (λ s. MayAbsent) m members
may_after u known there m (Build r) =
    record m { cost = m.cost + build_cost (recipe u r); built = with_built m.built r }
may_after u known there m (Publish r) =
    record m { cost = m.cost + publish_cost u r }
may_after u known there m _ = m

-- a slot of a base chroot: the package found, and no other
abbrev pub may_base_slot : Option Variant → MaySlot
may_base_slot None = MayAbsent
may_base_slot (Some v) = MayConfigured (λ b. b == v.bit)

-- the map of a base chroot: just what it holds
abbrev pub may_base : Universe → Lane → May
may_base u of = record {
  slots =
      λ n. may_base_slot (find (λ v. v.name == n) (base u of.base).packages);
  cost = 0;
  built =
      no_builds u;
}

-- the maps at a place: its own, that ahead of the open `when`, and that at the end of its first
-- branch
pub record Maps : Type 0 where
  pub here : May
  pub ahead : May
  pub first : May

-- behind an instruction: both branches begin with the map ahead of their `when`
abbrev pub maps_behind : Universe → (Variant → Bool) → (Variant → Bool) → Maps → Instruction → Maps
maps_behind u known there m (When name wanted) =
    record m { ahead = m.here }
maps_behind u known there m Otherwise =
    record m { here = m.ahead; first = m.here }
maps_behind u known there m EndWhen =
    record m { here = joined_may u m.first m.here }
maps_behind u known there m x =
    record m { here = may_after u known there m.here x }

-- behind the instruction that is there, if any
abbrev pub maps_behind_some : Universe → (Variant → Bool) → (Variant → Bool) → Maps
    → Option Instruction → Maps
maps_behind_some u known there m None = m
maps_behind_some u known there m (Some x) = maps_behind u known there m x

-- at a lane's beginning
abbrev pub start_maps : Universe → Lane → Maps
start_maps u of = record { here = may_base u of; ahead = may_base u of; first = may_base u of }

-- those of lane l when i instructions are done
abbrev pub maps_at : Universe → Plan → Rows → ℕ → ℕ → Maps
maps_at u p rows l zero = start_maps u (lane p l)
maps_at u p rows l (suc i) = maps_behind_some u (rows l i) (possible u p l i)
    (maps_at u p rows l i) (instruction_at p l i)

-- the map of the place itself
abbrev pub may_at : Universe → Plan → Rows → ℕ → ℕ → May
may_at u p rows l i = (maps_at u p rows l i).here

-- the most that a lane may spend
unfoldable pub lane_cost : Universe → Plan → Rows → ℕ → ℕ
lane_cost u p rows l = (may_at u p rows l (length (lane p l).instructions)).cost
