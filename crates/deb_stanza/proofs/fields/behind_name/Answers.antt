use Rattle.std.proofs.Common.{◌≡◌, ◌++◌, List, ℕ, length, take, drop, refl, sym, ◌∙◌}
use Rattle.std.proofs.lemmas.List.{take-append-drop}
use Rattle.deb_stanza.proofs.HeadLaws.{other-short, other-colon, other-long, other-name, this-name}
use Rattle.deb_stanza.proofs.fields.behind_name.Goals.{else-is_same_name-via-then-is_same_name+else-not-contains, else-is_same_name-via-else-is_same_name}
use Rattle.deb_stanza.proofs.fields.behind_name.Goals as goal

-- the two parts of a text
whole : (text given rest : List ℕ) (n : ℕ) → given ≡ take n text → rest ≡ drop n text
    → given ++ rest ≡ text
whole text given rest n front back = rw (front, back) (take-append-drop n text)

pub returns-in_err-given : goal.returns-in_err-given
returns-in_err-given c =
    rw (
      c.from_residual.ensures,
      other-short c.args.name.now c.args.text.now c.in_err-given.ensures.cases,
    ) refl

pub returns-in_err-rest : goal.returns-in_err-rest
returns-in_err-rest c =
    let cut = c.in_ok-given.ensures.cases in
    let all = whole c.args.text.now _ _ (length c.args.name.now) cut.1 cut.2 in
    rw (
      c.from_residual-in_err-rest.ensures,
      other-long c.args.name.now c.args.text.now _ _ all cut.3 c.in_err-rest.ensures.none,
    ) refl

pub returns-then-not-contains : goal.returns-then-not-contains
returns-then-not-contains c =
    let cut = c.in_ok-given.ensures.cases in
    let all = whole c.args.text.now _ _ (length c.args.name.now) cut.1 cut.2 in
    rw c.in_ok-rest.ensures.behind
    (sym (this-name c.args.name.now c.args.text.now _ _ all cut.3 c.in_ok-rest.ensures.colon
    (sym c.contains.ensures.value ∙ c.if-not-contains.true)
    (sym c.is_same_name.ensures ∙ c.if-is_same_name.true)))

pub returns-else-is_same_name : goal.returns-else-is_same_name
returns-else-is_same_name c =
    let cut = c.in_ok-given.ensures.cases in
    let all = whole c.args.text.now _ _ (length c.args.name.now) cut.1 cut.2 in
    elim c.else-is_same_name.branch [
      | else-is_same_name-via-then-is_same_name+else-not-contains w ↦
          rw (other-colon c.args.name.now c.args.text.now _ _ all cut.3
          (sym w.contains.ensures.value ∙ w.if-not-contains.false)) refl
      | else-is_same_name-via-else-is_same_name w ↦
          rw (other-name c.args.name.now c.args.text.now _ _ all cut.3
          c.in_ok-rest.ensures.colon (sym c.is_same_name.ensures ∙ w.if-is_same_name.false)) refl
    ]
