-- Lists of the same entries.
use Rattle.std.proofs.Common.{◌≡◌, ℕ, ◌+◌, ◌<◌, ◌≤◌, Bool, true, false, ◌||◌, List, Option, length, take, get_or, refl, sym, ap, ◌∙◌}
use Rattle.std.proofs.lemmas.List.{take_all}
use Rattle.std.proofs.lemmas.List.Folds.{list_any_more}
use Rattle.std.specs.List.{Contains, list_any}
use Rattle.deb_relation.specs.Common.{Atom, Entry, Item, ArchList}
use Rattle.deb_relation.specs.declared.operator.Op.{Op}
use Rattle.cross_laws.specs.Laws.{HaveSame}
use Rattle.cross_laws.proofs.Lists.{any-contains}

-- alternatives of the same parts
pub same_atom : (a b : Atom) → a.name ≡ b.name → a.qualifier ≡ b.qualifier
    → a.relation ≡ b.relation → a.archs ≡ b.archs → a.profiles ≡ b.profiles → a ≡ b
same_atom a b n q r l p =
    ap (λ (it : List ℕ). record {
      name = it;
      qualifier = a.qualifier;
      relation = a.relation;
      archs = a.archs;
      profiles = a.profiles;
    }) n
    ∙ ap (λ (it : Option (List ℕ)). record {
      name = b.name;
      qualifier = it;
      relation = a.relation;
      archs = a.archs;
      profiles = a.profiles;
    }) q
    ∙ ap (λ (it : Option (Op × List ℕ)). record {
      name = b.name;
      qualifier = b.qualifier;
      relation = it;
      archs = a.archs;
      profiles = a.profiles;
    }) r
    ∙ ap (λ (it : Option ArchList). record {
      name = b.name;
      qualifier = b.qualifier;
      relation = b.relation;
      archs = it;
      profiles = a.profiles;
    }) l
    ∙ ap (λ (it : List (List Item)). record {
      name = b.name;
      qualifier = b.qualifier;
      relation = b.relation;
      archs = b.archs;
      profiles = it;
    }) p

-- ---- one entry more is behind us

or-known : (a b : Bool) → (b ≡ true → a ≡ true) → a ≡ (a || b)
or-known true b known = refl
or-known false true known = known refl
or-known false false known = refl

-- it was there
pub known-before : (seen : List Entry) (entry : Entry) → Contains seen entry
    → (test : Entry → Bool) → list_any test seen ≡ (list_any test seen || test entry)
known-before seen entry here test =
    or-known (list_any test seen) (test entry) (any-contains test seen entry here)

-- it is the next one
pub known-next : (given : List Entry) (next : ℕ) (entry : Entry) → next < length given
    → get_or given next entry ≡ entry → (test : Entry → Bool)
    → list_any test (take (next + 1) given) ≡ (list_any test (take next given) || test entry)
known-next given next entry below is test =
    list_any_more test given next entry below
    ∙ ap (λ (e : Entry). list_any test (take next given) || test e) is

-- ---- all of them

pub all-known : (given made : List Entry) (next i : ℕ) → length given ≤ next → length made ≤ i
    → ((test : Entry → Bool) → list_any test (take next given) ≡ list_any test (take i made))
    → HaveSame given made
all-known given made next i all every so_far = λ test.
    ap (list_any test) (sym (take_all next given all)) ∙ so_far test
    ∙ ap (list_any test) (take_all i made every)

pub more-known : (given made : List Entry) (next after i : ℕ) (entry : Entry) → i < length made
    → entry ≡ get_or made i entry
    → ((test : Entry → Bool) → list_any test (take next given) ≡ list_any test (take i made))
    → ((test : Entry → Bool)
    → list_any test (take after given) ≡ (list_any test (take next given) || test entry))
    → (test : Entry → Bool)
    → list_any test (take after given) ≡ list_any test (take (i + 1) made)
more-known given made next after i entry below at so_far found test =
    found test
    ∙ ap (λ (b : Bool). b || test entry) (so_far test)
    ∙ ap (λ (e : Entry). list_any test (take i made) || test e) at
    ∙ sym (list_any_more test made i entry below)
