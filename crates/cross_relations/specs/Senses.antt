-- What the code calls a sense, an asker, what is asked for and a standing, as the laws have them.
use Rattle.std.specs.Prelude.{List, [], ◌∷◌, Option, Some, None}
use Rattle.cross_laws.specs.Binary as binary
use Rattle.cross_laws.specs.Meets as meets
use Rattle.cross_laws.specs.Names as names
use Rattle.cross_relations.specs.declared.names.Sense.{Sense}
use Rattle.cross_relations.specs.declared.names.Sense.TheVariants.{Of, ForAny, One}
use Rattle.cross_relations.specs.declared.asked.Asked.{Asked}
use Rattle.cross_relations.specs.declared.asked.Asked.TheVariants.{Unsaid, Any, Native, Named, Elsewhere}
use Rattle.cross_relations.specs.declared.asked.Asker.{Asker}
use Rattle.cross_relations.specs.declared.provides.Standing.{Standing}

abbrev pub sense_of : Sense → names.Sense
sense_of (Of side) = names.Of side
sense_of (ForAny side) = names.ForAny side
sense_of One = names.One

-- one sense, or none
abbrev pub senses_of : Option Sense → List names.Sense
senses_of None = []
senses_of (Some sense) = sense_of sense ∷ []

abbrev pub asked_of : Asked → binary.Asked
asked_of Unsaid = binary.Unsaid
asked_of Any = binary.Any
asked_of Native = binary.Native
asked_of (Named side) = binary.Named side
asked_of Elsewhere = binary.Elsewhere

abbrev pub asker_of : Asker → meets.Asker
asker_of at = record { side = at.side; is_build = at.is_build }

abbrev pub standing_of : Standing → binary.Standing
standing_of own = record { side = own.side; multi_arch = own.multi_arch }
