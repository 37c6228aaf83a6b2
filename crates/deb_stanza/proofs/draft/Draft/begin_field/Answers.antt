use Rattle.std.proofs.Common.{◌≡◌, Bool, true, false, not, [], ◌∷◌, ◌++◌, IfSome, Ok, List, ℕ, sym, ap, subst, ◌∙◌}
use Rattle.std.specs.List.{list_any}
use Rattle.deb_stanza.specs.Draft.{State, draft_state, open_names, with_head}
use Rattle.deb_stanza.specs.Names.{HasNames}
use Rattle.deb_stanza.specs.Stanza.{name_fault, name_of, same_name}
use Rattle.deb_stanza.specs.View.{line_of}
use Rattle.deb_stanza.proofs.NameLaws.{head-fine, known-head, told-ok}
use Rattle.deb_stanza.proofs.draft.Draft.begin_field.Goals as goal

not-swap : (a b : Bool) (c : Bool) → a ≡ not b → a ≡ c → b ≡ not c
not-swap a true c e is = sym (ap not (sym is ∙ e))
not-swap a false c e is = sym (ap not (sym is ∙ e))

pub returns-clause-state : goal.returns-clause-state
returns-clause-state c =
    let s = draft_state c.args.self.now in
    let line = c.args.line.bytes.now in
    let name = c.in_ok-name.name.now in
    let named =
    told-ok c.args.line.number (name_fault line) (name_of line) name c.in_ok-name.ensures.name in
    let kept = c.in_ok-keep_names.ensures.state in
    let new : list_any (same_name (name_of line)) (open_names s) ≡ false =
    ap (λ (n : List ℕ). list_any (same_name n) (open_names s)) named.1
    ∙ ap (λ (t : State). list_any (same_name name) (open_names t)) (sym kept)
    ∙ not-swap _ _ _ c.in_ok-takes_name.ensures.new c.if-not-branch.false in
    rw (head-fine (open_names s) line named.0 new)
    (ap Ok
    (sym (c.in_ok-add_head.ensures.state
    ∙ ap (λ (t : State). with_head t (line_of c.args.line))
    (c.in_ok-takes_name.ensures.state ∙ kept))))

pub returns-clause-fit : goal.returns-clause-fit
returns-clause-fit c =
    let d = c.args.self.now in
    let line = c.args.line.bytes.now in
    let name = c.in_ok-name.name.now in
    let named =
    told-ok c.args.line.number (name_fault line) (name_of line) name c.in_ok-name.ensures.name in
    let kept = c.in_ok-keep_names.ensures.state in
    let names = c.takes_name.new.self.names in
    let has =
    subst (λ (t : State). IfSome names (λ set. HasNames set (open_names t ++ name ∷ []))) kept
    c.in_ok-takes_name.ensures.names in
    record {
      table = c.in_ok-add_head.ensures.sound;
      known =
          rw c.in_ok-add_head.ensures.names
          (known-head d names _ (line_of c.args.line) name c.requires.fit
          (c.in_ok-add_head.ensures.state
          ∙ ap (λ (t : State). with_head t (line_of c.args.line))
          (c.in_ok-takes_name.ensures.state ∙ kept))
          (sym named.1) c.in_ok-name.ensures.colon has);
      some = λ _. c.in_ok-add_head.ensures.some;
      latest = c.in_ok-add_head.ensures.latest;
    }
