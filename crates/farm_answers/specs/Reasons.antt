-- Why a file cannot be read. The causes are spelled as POSIX spells the errors of a system's calls
-- (strerror).
--
--   unreadable_of kind   the cause that an error of this kind tells
--   words_of cause       what is said of it behind the name of the file
use Rattle.std.specs.Prelude.{ℕ, List, [], codes}
use Rattle.std.specs.declared.io.ErrorKind.{ErrorKind}
use Rattle.std.specs.declared.io.ErrorKind.TheVariants.{NotFound, PermissionDenied, IsADirectory}
use Rattle.farm_answers.specs.declared.why.Unreadable.{Unreadable}
use Rattle.farm_answers.specs.declared.why.Unreadable.TheVariants.{Missing, Closed, Folder, TooLong, Otherwise}

abbrev pub unreadable_of : ErrorKind → Unreadable
unreadable_of NotFound = Missing
unreadable_of PermissionDenied = Closed
unreadable_of IsADirectory = Folder
unreadable_of kind = Otherwise

abbrev pub words_of : Unreadable → List ℕ
words_of Missing = codes ": No such file or directory"
words_of Closed = codes ": Permission denied"
words_of Folder = codes ": Is a directory"
words_of TooLong = codes ": over 300,000,000 bytes"
words_of Otherwise = []
