use Rattle.std.proofs.Common.{ap, ◌∙◌}
use Rattle.std.specs.List.{list_all}
use Rattle.deb_text.proofs.CutLaws.{front-passes}
use Rattle.deb_text.specs.Bytes.{is_name_byte}
use Rattle.deb_relation.proofs.grammar.read_name.Goals as goal

pub make_name-requires : goal.make_name-requires
make_name-requires c =
    ap (list_all is_name_byte) c.split_front.ensures.front
    ∙ front-passes is_name_byte c.args.text.now
