-- What reading does to the bytes that a reader has left, where they are known, and to those read so
-- far.
--
--   IsReadOn      bytes were taken from the one and put behind the others
use Rattle.std.specs.Prelude.{◌≡◌, ℕ, List, ◌++◌, Option}
use Rattle.std.specs.Io.KnownBytes.{Consumes}

pub record IsReadOn (left left_now : Option (List ℕ)) (read read_now : List ℕ) : Type 0 where
  pub bytes : List ℕ
  pub taken : Consumes left left_now bytes
  pub put : read_now ≡ read ++ bytes
