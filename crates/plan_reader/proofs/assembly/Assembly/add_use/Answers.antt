use Rattle.plan_reader.proofs.assembly.Assembly.add_use.Goals as goal

pub returns : goal.returns
returns c = rw (← c.replace-before.ensures.value) c.in_ok-self.ensures
