use Rattle.text_laws.proofs.SpelledUniverse.{universe_is_spelled}
use Rattle.text_laws.proofs.certificate.universe_is_spelled.Goals as goal

pub returns : goal.returns
returns c = universe_is_spelled
