use Rattle.drive_run.proofs.lanes.DrivenLanes.go_on.Goals as goal

pub unpack-requires : goal.unpack-requires
unpack-requires g c = record {
  picked = (c.requires.staged.0, c.requires.staged.1 _ _ c.in-Unpacked.is);
}
