-- What the line of an instruction says keeps: names are names, and words are words.
use Rattle.std.proofs.Common.{◌≡◌, ℕ, true, not, ◌&&◌, List, [], ◌∷◌, Result, Ok, Err, IfOk, All}
use Rattle.std.specs.List.{list_all}
use Rattle.std.specs.Option.{is_none}
use Rattle.std.specs.Prelude.{codes}
use Rattle.std.specs.Str.{bytes_eq}
use Rattle.deb_text.proofs.CarriedLaws.{if-has, then-has}
use Rattle.deb_text.specs.Common.{is_nil, ◌>>=◌, words, is_word, is_name}
use Rattle.deb_relation.specs.Field.{alternative_at, entry_at}
use Rattle.deb_relation.specs.declared.kind.Kind.TheVariants.{Need}
use Rattle.deb_relation.proofs.ReadLaws.{is_spelled_relation, IsSpelled, alternative-has, entry-has}
use Rattle.deb_relation.proofs.EntryLaws.{entry-some}
use Rattle.plan_reader.specs.Forms.{Wording, UnpackForm, ConfigureForm, DeconfigureForm, RemoveForm, BuildForm, PublishForm, WaitForm, WhenForm, ElseForm, in_line, piece_at, unpack_form, when_form, else_form, some_words, one_word, wording_by}
use Rattle.text_laws.proofs.Names.{both-have}

abbrev pub AreWords : List (List ℕ) → Type 0
AreWords ws = (not (is_nil ws) && list_all is_word ws) ≡ true

abbrev pub IsWording : Wording → Type 0
IsWording (UnpackForm name relation) =
    (is_name name ≡ true) × (is_spelled_relation relation ≡ true)
IsWording (ConfigureForm ws) = AreWords ws
IsWording (DeconfigureForm ws) = AreWords ws
IsWording (RemoveForm ws) = AreWords ws
IsWording (BuildForm word) = is_word word ≡ true
IsWording (PublishForm word) = is_word word ≡ true
IsWording (WaitForm entry) = All IsSpelled entry × (not (is_nil entry) ≡ true)
IsWording (WhenForm name relation) =
    (is_name name ≡ true) × (is_spelled_relation relation ≡ true)
IsWording ElseForm = Unit {0}

in_line-has : {X : Type 0} (P : X → Type 0) (r : Result X ℕ) → IfOk r P → IfOk (in_line r) P
in_line-has P (Ok x) has = has
in_line-has P (Err code) has = tt

some-has : (ws : List (List ℕ)) → IfOk (some_words ws) AreWords
some-has ws =
    if-has AreWords (not (is_nil ws) && list_all is_word ws) _ _ (λ are. are) (λ _. tt)

one-has : (ws : List (List ℕ)) → IfOk (one_word ws) (λ word. is_word word ≡ true)
one-has [] = tt
one-has (w ∷ []) = if-has (λ word. is_word word ≡ true) (is_word w) _ _ (λ is. is) (λ _. tt)
one-has (w ∷ v ∷ ws) = tt

piece-has : (rest : List ℕ) → IfOk (piece_at rest) IsSpelled
piece-has rest =
    then-has IsSpelled IsSpelled (in_line (alternative_at Need rest)) _
    (in_line-has IsSpelled (alternative_at Need rest) (alternative-has rest))
    (λ atom is. if-has IsSpelled (is_none atom.qualifier) _ _ (λ _. is) (λ _. tt))

unpack-has : (rest : List ℕ) → IfOk (unpack_form rest) IsWording
unpack-has rest =
    then-has IsSpelled IsWording (piece_at rest) _ (piece-has rest)
    (λ piece is. (is.name, is.relation))

when-has : (rest : List ℕ) → IfOk (when_form rest) IsWording
when-has rest =
    then-has IsSpelled IsWording (piece_at rest) _ (piece-has rest)
    (λ piece is. (is.name, is.relation))

else-has : (ws : List (List ℕ)) → IfOk (else_form ws) IsWording
else-has ws = if-has IsWording (is_nil ws) _ _ (λ _. tt) (λ _. tt)

wait-has : (rest : List ℕ)
    → IfOk (in_line (entry_at Need rest) >>= λ entry. Ok (WaitForm entry)) IsWording
wait-has rest =
    then-has (λ entry. All IsSpelled entry × (not (is_nil entry) ≡ true)) IsWording
    (in_line (entry_at Need rest)) _
    (in_line-has (λ entry. All IsSpelled entry × (not (is_nil entry) ≡ true)) (entry_at Need rest)
    (both-have (All IsSpelled) (λ entry. not (is_nil entry) ≡ true) (entry_at Need rest)
    (entry-has rest) (entry-some rest)))
    (λ entry is. is)

pub wording-has : (word rest : List ℕ) → IfOk (wording_by word rest) IsWording
wording-has word rest =
    if-has IsWording (bytes_eq word (codes "unpack")) _ _ (λ _. unpack-has rest)
    (λ _. if-has IsWording (bytes_eq word (codes "configure")) _ _
    (λ _. then-has AreWords IsWording (some_words (words rest)) _ (some-has (words rest))
    (λ ws are. are))
    (λ _. if-has IsWording (bytes_eq word (codes "deconfigure")) _ _
    (λ _. then-has AreWords IsWording (some_words (words rest)) _ (some-has (words rest))
    (λ ws are. are))
    (λ _. if-has IsWording (bytes_eq word (codes "remove")) _ _
    (λ _. then-has AreWords IsWording (some_words (words rest)) _ (some-has (words rest))
    (λ ws are. are))
    (λ _. if-has IsWording (bytes_eq word (codes "build")) _ _
    (λ _. then-has (λ w. is_word w ≡ true) IsWording (one_word (words rest)) _
    (one-has (words rest)) (λ w is. is))
    (λ _. if-has IsWording (bytes_eq word (codes "publish")) _ _
    (λ _. then-has (λ w. is_word w ≡ true) IsWording (one_word (words rest)) _
    (one-has (words rest)) (λ w is. is))
    (λ _. if-has IsWording (bytes_eq word (codes "wait")) _ _ (λ _. wait-has rest)
    (λ _. if-has IsWording (bytes_eq word (codes "when")) _ _ (λ _. when-has rest)
    (λ _. if-has IsWording (bytes_eq word (codes "else")) _ _ (λ _. else-has (words rest))
    (λ _. tt)))))))))
