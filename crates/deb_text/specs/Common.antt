-- The names of this crate that others cite, passed on from one place. Declares nothing.
pub use Rattle.deb_text.specs.Answers.{Fails, Gives, fault_at, is_memory, placed, refusal_code, refusal_of}
pub use Rattle.deb_text.specs.Bytes.{is_blank, is_byte, is_digit, is_lower, is_name_byte, is_newline, is_operator_byte, is_qualifier_byte, is_solid, is_space, is_version_byte, is_word_byte}
pub use Rattle.deb_text.specs.Classes.{in_class}
pub use Rattle.deb_text.specs.Cuts.{after, after_last, before, before_last, behind, first_is, front, is_nil, length_left, parts_left, trimmed}
pub use Rattle.deb_text.specs.Groups.{AllDistinct, distinct, in_order, place_in, sorted, with_key}
pub use Rattle.deb_text.specs.Lines.{Line, control_lines, is_blank_line, is_comment, is_skipped, plain_lines}
unfoldable pub use Rattle.deb_text.specs.Lines.{lines_of}
pub use Rattle.deb_text.specs.Lists.{lists}
pub use Rattle.deb_text.specs.Numbers.{is_number, number, number_at}
pub use Rattle.deb_text.specs.Steps.{answer, first_fault, goods, item_fault, or_else, own_or, read_step, then_all, with_front, ◌>>=◌}
unfoldable pub use Rattle.deb_text.specs.Steps.{judged, steps, traverse}
pub use Rattle.deb_text.specs.Words.{is_name, is_run, is_word, spaced, text_of}
unfoldable pub use Rattle.deb_text.specs.Words.{is_head, words}
