-- Names, one after the other.
use Rattle.std.proofs.Common.{◌≡◌, ℕ, ◌+◌, ◌<◌, ◌≤◌, false, true, List, [], ◌∷◌, ◌++◌, length, drop, get_or, Some, None, Ok, Err, refl, sym, ap, ◌∙◌}
use Rattle.std.specs.Global.{Vec}
use Rattle.std.specs.List.{list_any}
use Rattle.std.specs.Str.{bytes_eq}
use Rattle.std.proofs.lemmas.List.{at_drop_more, drop_all}
use Rattle.deb_text.specs.Lists.{lists}
use Rattle.deb_text.proofs.ListLaws.{any-lists}
use Rattle.deb_relation.specs.Relations.{Entry}
use Rattle.import_wish.specs.declared.error.TheConstants.{TWICE, UNKNOWN_OUTPUT}
use Rattle.import_wish.specs.Lists.{bare_name, is_among, names_from}

pub any_lists : (vs : List (Vec ℕ)) (key : List ℕ)
    → list_any (λ v. bytes_eq key v.items) vs ≡ list_any (bytes_eq key) (lists vs)
any_lists vs key = sym (any-lists vs key)

next : (entries : List Entry) (i : ℕ) (entry : Entry) → i < length entries
    → entry ≡ get_or entries i entry → drop i entries ≡ entry ∷ drop (i + 1) entries
next entries i entry lt is =
    at_drop_more (λ (es : List Entry). es) entries i entry lt
    ∙ ap (λ (e : Entry). e ∷ drop (i + 1) entries) (sym is)

pub names-unknown : (done : List (List ℕ)) (entries : List Entry) (i : ℕ) (entry : Entry)
    → i < length entries → entry ≡ get_or entries i entry → bare_name entry ≡ None
    → names_from done (drop i entries) ≡ Err UNKNOWN_OUTPUT
unfolding names_from
names-unknown done entries i entry lt is none =
    ap (names_from done) (next entries i entry lt is) ∙ rw none refl

pub names-twice : (done : List (List ℕ)) (entries : List Entry) (i : ℕ) (entry : Entry)
    (name : List ℕ) → i < length entries → entry ≡ get_or entries i entry
    → bare_name entry ≡ Some name → is_among done name ≡ true
    → names_from done (drop i entries) ≡ Err TWICE
unfolding names_from
names-twice done entries i entry name lt is some there =
    ap (names_from done) (next entries i entry lt is) ∙ rw (some, there) refl

pub names-goes : (done : List (List ℕ)) (entries : List Entry) (i : ℕ) (entry : Entry)
    (name : List ℕ) → i < length entries → entry ≡ get_or entries i entry
    → bare_name entry ≡ Some name → is_among done name ≡ false
    → names_from done (drop i entries) ≡ names_from (done ++ name ∷ []) (drop (i + 1) entries)
unfolding names_from
names-goes done entries i entry name lt is some new =
    ap (names_from done) (next entries i entry lt is) ∙ rw (some, new) refl

pub names-end : (done : List (List ℕ)) (entries : List Entry) (i : ℕ) → length entries ≤ i
    → names_from done (drop i entries) ≡ Ok done
unfolding names_from
names-end done entries i all = ap (names_from done) (drop_all i entries all)
