use Rattle.std.proofs.Common.{[], refl, sym, subst, inl, inr}
use Rattle.std.proofs.lemmas.List.{append-nil}
use Rattle.cross_index.specs.EncodedIndex.{IsKeptAs}
use Rattle.cross_index.proofs.index.push_paragraph.Goals as goal

pub returns-in_default : goal.returns-in_default
returns-in_default c = (
  [],
  sym (append-nil c.args.text.now.items),
  inl (rw c.in_default.is at c.in_ok-made.ensures, refl),
)

pub returns : goal.returns
returns c = (
  c.deref.result.now,
  c.in_ok-extend_from_slice.ensures.items,
  inr (subst (IsKeptAs c.args.sides.now c.args.is_archive c.args.paragraph.now)
      (sym c.deref.ensures.value) (rw c.in-Some.is at c.in_ok-made.ensures)),
)
