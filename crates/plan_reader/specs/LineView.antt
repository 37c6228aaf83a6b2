-- What the code keeps of the lines of a plan, and what it stands for. Only the contracts of private
-- functions cite this file.
use Rattle.std.specs.Prelude.{◌≡◌, ℕ, Bool, true, false, List, []}
use Rattle.std.specs.List.{list_any}
use Rattle.std.specs.Str.{bytes_eq}
use Rattle.plan_reader.specs.BlockTable.{BlockList}
use Rattle.plan_reader.specs.declared.line_reading.LineKind.{LineKind}
use Rattle.plan_reader.specs.declared.line_reading.LineKind.TheVariants as kind
use Rattle.plan_reader.specs.declared.line_reading.Opened.{Opened}
use Rattle.plan_reader.specs.declared.line_reading.Opened.TheVariants.{Block, Lane, Nothing}
use Rattle.plan_reader.specs.declared.said.Standing.{Standing}
use Rattle.plan_reader.specs.declared.said.Standing.TheVariants.{OpensBranches}
use Rattle.plan_reader.specs.Drafts.{BlockOf}
use Rattle.plan_reader.specs.PlanLines as spec
use Rattle.plan_reader.specs.Said.{Said, BlockSaid, LaneSaid, EndSaid, UseSaid, InstructionSaid}

abbrev pub kind_view : LineKind → spec.Kind
kind_view (kind.OpensBlock name) = spec.OpensBlock name.now
kind_view kind.OpensLane = spec.OpensLane
kind_view kind.Ends = spec.Ends
kind_view (kind.Uses name) = spec.Uses name.now
kind_view (kind.Says opens) = spec.Says opens

abbrev pub opens : Standing → Bool
opens OpensBranches = true
opens standing = false

-- what a line does that says this
abbrev pub kind_said : Said → spec.Kind
kind_said (BlockSaid name) = spec.OpensBlock name
kind_said (LaneSaid name chroot budget) = spec.OpensLane
kind_said EndSaid = spec.Ends
kind_said (UseSaid block) = spec.Uses block
kind_said (InstructionSaid standing named) = spec.Says (opens standing)

-- what is open, where the open block has these lines
abbrev pub opened : List ℕ → Opened → spec.Open
opened ns Nothing = spec.Nothing
opened ns (Block name) = spec.InBlock name.items ns
opened ns (Lane head origins) = spec.InLane head origins.items

-- an open block has a new name, and where none is open nothing is written
abbrev pub Suits : BlockList ℕ → Opened → Type 0
Suits blocks Nothing = blocks.written ≡ []
Suits blocks (Block name) =
    list_any (λ (b : BlockOf ℕ). bytes_eq name.items b.name) blocks.ended ≡ false
Suits blocks (Lane head origins) = blocks.written ≡ []
