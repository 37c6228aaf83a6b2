use Rattle.text_laws.proofs.CertAgain.{certificate-again}
use Rattle.text_laws.proofs.ReadPlans.{plan-read}
use Rattle.text_laws.proofs.SpelledUniverse.{universe_is_spelled}
use Rattle.text_laws.proofs.certificate.certificate_is_read_again.Goals as goal

pub returns : goal.returns
returns c packages sources farm text u p certificate read planned is within =
    certificate-again u p certificate (universe_is_spelled packages sources farm u read)
    (plan-read u text p planned) is within
