-- What the types of the crate stand for.
use Rattle.std.specs.Prelude.{ℕ, Result, Ok, Err}
use Rattle.deb_text.specs.Words.{words}
use Rattle.plan_reader.specs.declared.error.LineError.{LineError}
use Rattle.plan_reader.specs.declared.form.Form.{Form}
use Rattle.plan_reader.specs.declared.form.Form.TheVariants.{Block, Lane, End, Use, Instruction}
use Rattle.plan_reader.specs.declared.form.Wording.{Wording}
use Rattle.plan_reader.specs.declared.form.Wording.TheVariants.{Unpack, Configure, Deconfigure, Remove, Build, Publish, Wait, When, Else}
use Rattle.plan_reader.specs.declared.said.Said.{Said}
use Rattle.plan_reader.specs.declared.said.Said.TheVariants as said
use Rattle.plan_reader.specs.declared.side.Side.{Side}
use Rattle.plan_reader.specs.declared.side.Side.TheVariants.{Outside, First, Second}
use Rattle.plan_reader.specs.Forms as spec
use Rattle.plan_reader.specs.LineErrors.{code_of_line}
use Rattle.plan_reader.specs.Said as saying
use Rattle.plan_model.specs.Branches as branches
use Rattle.plan_model.specs.declared.instructions.Instruction as model

abbrev pub wording_of : Wording → spec.Wording
wording_of (Unpack name relation) = spec.UnpackForm name.items relation
wording_of (Configure names) = spec.ConfigureForm (words names.now)
wording_of (Deconfigure names) = spec.DeconfigureForm (words names.now)
wording_of (Remove names) = spec.RemoveForm (words names.now)
wording_of (Build recipe) = spec.BuildForm recipe.now
wording_of (Publish recipe) = spec.PublishForm recipe.now
wording_of (Wait entry) = spec.WaitForm entry
wording_of (When name relation) = spec.WhenForm name.items relation
wording_of Else = spec.ElseForm

abbrev pub form_of : Form → spec.Form
form_of (Block name) = spec.BlockForm name.now
form_of (Lane head) = spec.LaneForm head.name.now head.chroot.now head.budget
form_of End = spec.EndForm
form_of (Use block) = spec.UseForm block.now
form_of (Instruction wording) = spec.InstructionForm (wording_of wording)

-- the side, its place being the line of its `when`
abbrev pub side_of : Side → branches.Side
side_of Outside = branches.Outside
side_of (First line) = branches.InFirst line
side_of (Second line) = branches.InSecond line

-- an instruction, or the code of what is wrong with its names
abbrev pub named_of : Result model.Instruction LineError → Result model.Instruction ℕ
named_of (Ok instruction) = Ok instruction
named_of (Err error) = Err (code_of_line error)

abbrev pub said_of : Said → saying.Said
said_of (said.Block name) = saying.BlockSaid name.now
said_of (said.Lane head) = saying.LaneSaid head.name.now head.chroot.now head.budget
said_of said.End = saying.EndSaid
said_of (said.Use block) = saying.UseSaid block.now
said_of (said.Instruction standing named) = saying.InstructionSaid standing (named_of named)
