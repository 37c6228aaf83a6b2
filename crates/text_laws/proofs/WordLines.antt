-- The lines of sets and of recipes, and of an `else`, are read again.
use Rattle.std.proofs.Common.{◌≡◌, ℕ, true, false, not, List, [], ◌∷◌, ◌++◌, map, refl, sym, ap, subst, ◌∙◌, Ok, true≢false}
use Rattle.std.proofs.lemmas.Bool.{and_parts}
use Rattle.std.proofs.lemmas.List.{append-nil}
use Rattle.std.specs.List.{list_all}
use Rattle.std.specs.Prelude.{codes}
use Rattle.deb_text.proofs.AgainLaws.{is_inner, spaced-again, spaced-line}
use Rattle.deb_text.specs.Common.{is_nil, is_skipped, words, is_word, spaced}
use Rattle.farm_model.specs.Common.{recipe, Universe}
use Rattle.plan_reader.specs.Drafts.{known_recipe, set_of, instruction_of}
use Rattle.plan_reader.specs.Forms.{Wording, ConfigureForm, DeconfigureForm, RemoveForm, BuildForm, PublishForm, ElseForm, InstructionForm, some_words, one_word, form_at}
use Rattle.plan_reader.specs.Listing.{name_of_number, names_text, instruction_text}
use Rattle.plan_model.specs.declared.instructions.Instruction.{Instruction}
use Rattle.plan_model.specs.declared.instructions.Instruction.TheVariants.{Configure, Deconfigure, Remove, Build, Publish, Otherwise, EndWhen}
use Rattle.text_laws.proofs.Names.{words-run}
use Rattle.text_laws.proofs.Wordings.{AreWords}

-- a line that is kept, and that says this instruction
pub record IsLineOf (u : Universe) (x : Instruction) (line : List ℕ) : Type 0 where
  pub wording : Wording
  pub read : form_at line ≡ Ok (InstructionForm wording)
  pub meant : instruction_of u wording ≡ Ok x
  pub inner : list_all is_inner line ≡ true
  pub kept : is_skipped line ≡ false

-- the line of the listing, less its end
abbrev pub line_of : Universe → Instruction → List ℕ
line_of u x = codes "  " ++ instruction_text u x

-- the line is read again; that of an `end` is no instruction's alone
abbrev pub IsListed : Universe → Instruction → Type 0
IsListed u EndWhen = Unit {0}
IsListed u x = IsLineOf u x (line_of u x)

names-spaced : (u : Universe) (members : List ℕ)
    → names_text u members ≡ spaced (map (name_of_number u) members)
names-spaced u [] = refl
names-spaced u (n ∷ ns) = ap (λ text. 32 ∷ (name_of_number u n ++ text)) (names-spaced u ns)

names-are : (u : Universe) (members : List ℕ) (ws : List (List ℕ))
    → map (name_of_number u) members ≡ ws → names_text u members ≡ spaced ws
names-are u members ws named = names-spaced u members ∙ ap spaced named

some-again : (ws : List (List ℕ)) → AreWords ws → some_words (words (spaced ws)) ≡ Ok ws
some-again ws are =
    let both = and_parts (not (is_nil ws)) (list_all is_word ws) are in
    rw (spaced-again ws (words-run ws both.1), are) refl

one-again : (word : List ℕ) → is_word word ≡ true
    → one_word (words (spaced (word ∷ []))) ≡ Ok word
one-again word is =
    rw (spaced-again (word ∷ []) (words-run (word ∷ []) (rw is refl)), is) refl

set-inner : (ws : List (List ℕ)) → AreWords ws → list_all is_inner (spaced ws) ≡ true
set-inner ws are =
    spaced-line ws (words-run ws (and_parts (not (is_nil ws)) (list_all is_word ws) are).1)

word-inner : (word : List ℕ) → is_word word ≡ true → list_all is_inner (spaced (word ∷ [])) ≡ true
word-inner word is = spaced-line (word ∷ []) (words-run (word ∷ []) (rw is refl))

module _ (u : Universe) where
  -- ---- sets

  configure-line : (members : List ℕ) (w : List ℕ) (ws : List (List ℕ)) → AreWords (w ∷ ws)
      → set_of u (w ∷ ws) ≡ Ok members
      → IsLineOf u (Configure members) (codes "  configure" ++ spaced (w ∷ ws))
  unfolding form_at instruction_of
  configure-line members w ws are known = record {
    wording = ConfigureForm (w ∷ ws);
    read = rw (some-again (w ∷ ws) are) refl;
    meant = rw known refl;
    inner = set-inner (w ∷ ws) are;
    kept = refl;
  }

  pub configure-listed : (members : List ℕ) (ws : List (List ℕ)) → AreWords ws
      → (map (name_of_number u) members ≡ ws) × (set_of u ws ≡ Ok members)
      → IsListed u (Configure members)
  unfolding instruction_text
  configure-listed members [] are is = absurd (true≢false (sym are))
  configure-listed members (w ∷ ws) are is =
      subst (IsLineOf u (Configure members))
      (ap (λ text. codes "  configure" ++ text) (sym (names-are u members (w ∷ ws) is.0)))
      (configure-line members w ws are is.1)

  deconfigure-line : (members : List ℕ) (w : List ℕ) (ws : List (List ℕ)) → AreWords (w ∷ ws)
      → set_of u (w ∷ ws) ≡ Ok members
      → IsLineOf u (Deconfigure members) (codes "  deconfigure" ++ spaced (w ∷ ws))
  unfolding form_at instruction_of
  deconfigure-line members w ws are known = record {
    wording = DeconfigureForm (w ∷ ws);
    read = rw (some-again (w ∷ ws) are) refl;
    meant = rw known refl;
    inner = set-inner (w ∷ ws) are;
    kept = refl;
  }

  pub deconfigure-listed : (members : List ℕ) (ws : List (List ℕ)) → AreWords ws
      → (map (name_of_number u) members ≡ ws) × (set_of u ws ≡ Ok members)
      → IsListed u (Deconfigure members)
  unfolding instruction_text
  deconfigure-listed members [] are is = absurd (true≢false (sym are))
  deconfigure-listed members (w ∷ ws) are is =
      subst (IsLineOf u (Deconfigure members))
      (ap (λ text. codes "  deconfigure" ++ text) (sym (names-are u members (w ∷ ws) is.0)))
      (deconfigure-line members w ws are is.1)

  remove-line : (members : List ℕ) (w : List ℕ) (ws : List (List ℕ)) → AreWords (w ∷ ws)
      → set_of u (w ∷ ws) ≡ Ok members
      → IsLineOf u (Remove members) (codes "  remove" ++ spaced (w ∷ ws))
  unfolding form_at instruction_of
  remove-line members w ws are known = record {
    wording = RemoveForm (w ∷ ws);
    read = rw (some-again (w ∷ ws) are) refl;
    meant = rw known refl;
    inner = set-inner (w ∷ ws) are;
    kept = refl;
  }

  pub remove-listed : (members : List ℕ) (ws : List (List ℕ)) → AreWords ws
      → (map (name_of_number u) members ≡ ws) × (set_of u ws ≡ Ok members)
      → IsListed u (Remove members)
  unfolding instruction_text
  remove-listed members [] are is = absurd (true≢false (sym are))
  remove-listed members (w ∷ ws) are is =
      subst (IsLineOf u (Remove members))
      (ap (λ text. codes "  remove" ++ text) (sym (names-are u members (w ∷ ws) is.0)))
      (remove-line members w ws are is.1)

  -- ---- recipes

  build-line : (r : ℕ) (word : List ℕ) → is_word word ≡ true → known_recipe u word ≡ Ok r
      → IsLineOf u (Build r) (codes "  build" ++ spaced (word ∷ []))
  unfolding form_at instruction_of
  build-line r word is known = record {
    wording = BuildForm word;
    read = rw (one-again word is) refl;
    meant = rw known refl;
    inner = word-inner word is;
    kept = refl;
  }

  pub build-listed : (r : ℕ) (word : List ℕ) → is_word word ≡ true
      → ((recipe u r).name ≡ word) × (known_recipe u word ≡ Ok r) → IsListed u (Build r)
  unfolding instruction_text
  build-listed r word is known =
      subst (IsLineOf u (Build r))
      (ap (λ text. codes "  build " ++ text) (append-nil word ∙ sym known.0))
      (build-line r word is known.1)

  publish-line : (r : ℕ) (word : List ℕ) → is_word word ≡ true → known_recipe u word ≡ Ok r
      → IsLineOf u (Publish r) (codes "  publish" ++ spaced (word ∷ []))
  unfolding form_at instruction_of
  publish-line r word is known = record {
    wording = PublishForm word;
    read = rw (one-again word is) refl;
    meant = rw known refl;
    inner = word-inner word is;
    kept = refl;
  }

  pub publish-listed : (r : ℕ) (word : List ℕ) → is_word word ≡ true
      → ((recipe u r).name ≡ word) × (known_recipe u word ≡ Ok r) → IsListed u (Publish r)
  unfolding instruction_text
  publish-listed r word is known =
      subst (IsLineOf u (Publish r))
      (ap (λ text. codes "  publish " ++ text) (append-nil word ∙ sym known.0))
      (publish-line r word is known.1)

  -- ---- branches

  pub else-listed : IsListed u Otherwise
  unfolding form_at instruction_of instruction_text words
  else-listed =
      record { wording = ElseForm; read = refl; meant = refl; inner = refl; kept = refl }
