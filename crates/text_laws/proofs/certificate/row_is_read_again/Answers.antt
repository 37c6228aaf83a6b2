use Rattle.text_laws.proofs.RowAgain.{row_is_read_again}
use Rattle.text_laws.proofs.certificate.row_is_read_again.Goals as goal

pub returns : goal.returns
returns c = row_is_read_again
