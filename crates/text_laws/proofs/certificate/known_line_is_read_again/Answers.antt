use Rattle.text_laws.proofs.KnownLines.{known-again}
use Rattle.text_laws.proofs.certificate.known_line_is_read_again.Goals as goal

pub returns : goal.returns
returns c u name number row spelled new run small =
    known-again u spelled row new number small name run
