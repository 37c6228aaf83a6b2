use Rattle.text_laws.proofs.RoundTrip.{listing_is_read_again as law}
use Rattle.text_laws.proofs.listing.listing_is_read_again.Goals as goal

pub returns : goal.returns
returns c = law
