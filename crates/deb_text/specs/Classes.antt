-- The test that each class of bytes stands for.
use Rattle.std.specs.Prelude.{ℕ, Bool}
use Rattle.deb_text.specs.declared.classes.Class.{Class}
use Rattle.deb_text.specs.declared.classes.Class.TheVariants.{Space, Blank, Solid, Digit, Lower, Name, Qualifier, Operator, Version, Word}
use Rattle.deb_text.specs.Bytes.{is_space, is_blank, is_solid, is_digit, is_lower, is_name_byte, is_qualifier_byte, is_operator_byte, is_version_byte, is_word_byte}

abbrev pub in_class : Class → ℕ → Bool
in_class Space = is_space
in_class Blank = is_blank
in_class Solid = is_solid
in_class Digit = is_digit
in_class Lower = is_lower
in_class Name = is_name_byte
in_class Qualifier = is_qualifier_byte
in_class Operator = is_operator_byte
in_class Version = is_version_byte
in_class Word = is_word_byte
