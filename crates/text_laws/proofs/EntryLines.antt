-- The lines of an unpack, of a wait and of a `when` are read again.
use Rattle.std.proofs.Common.{◌≡◌, ℕ, true, not, List, [], ◌∷◌, ◌++◌, refl, sym, ap, subst, ◌∙◌, Option, None, Ok, All}
use Rattle.std.proofs.lemmas.Bool.{not_from_false}
use Rattle.std.proofs.lemmas.List.{append-nil}
use Rattle.std.specs.List.{list_all}
use Rattle.std.specs.Prelude.{codes, ◌==◌}
use Rattle.deb_text.proofs.AgainLaws.{is_inner}
use Rattle.deb_text.proofs.TestLaws.{all-weaker, other-byte}
use Rattle.deb_text.specs.Common.{is_nil, is_name}
use Rattle.deb_relation.specs.Common.{alternative_at, Atom, Entry, relation_text, atom_text, entry_text}
use Rattle.deb_relation.specs.declared.kind.Kind.TheVariants.{Need}
use Rattle.deb_relation.specs.declared.operator.Op.{Op}
use Rattle.deb_relation.proofs.ReadLaws.{is_spelled_relation, IsSpelled}
use Rattle.deb_relation.proofs.SpellingLaws.{alternative-again}
use Rattle.deb_relation.proofs.EntryLaws.{is_atom_byte, atom-text-bytes, is_entry_byte, entry-text-bytes, entry-again}
use Rattle.deb_profile.proofs.ReductionLaws.{reduced-again}
use Rattle.deb_profile.specs.Reduction.{reduced_entry}
use Rattle.farm_model.specs.Universe.{Universe}
use Rattle.plan_reader.specs.Drafts.{known_name, instruction_of}
use Rattle.plan_reader.specs.Forms.{UnpackForm, WaitForm, WhenForm, form_at}
use Rattle.plan_reader.specs.Listing.{name_of_number, instruction_text}
use Rattle.plan_model.specs.declared.instructions.Instruction.TheVariants.{Unpack, Wait, When}
use Rattle.text_laws.proofs.Waits.{reduced-spelled, reduced-some}
use Rattle.text_laws.proofs.Wordings.{IsWording}
use Rattle.text_laws.proofs.WordLines.{IsLineOf, IsListed}

module _ (u : Universe) where
  -- what is unpacked, as an alternative
  abbrev wanted_atom : List ℕ → Option (Op × List ℕ) → Atom
  wanted_atom name relation = record {
    name = name;
    qualifier = None;
    relation = relation;
    archs = None;
    profiles = [];
  }

  wanted-spelled : (name : List ℕ) (relation : Option (Op × List ℕ)) → is_name name ≡ true
      → is_spelled_relation relation ≡ true → IsSpelled (wanted_atom name relation)
  wanted-spelled name relation named related = record {
    name = named;
    qualifier = refl;
    relation = related;
    archs = refl;
    profiles = refl;
  }

  wanted-bytes : (name : List ℕ) (relation : Option (Op × List ℕ))
      → atom_text (wanted_atom name relation) ≡ name ++ relation_text relation
  unfolding atom_text
  wanted-bytes name relation = rw (append-nil name) refl

  wanted-again : (name : List ℕ) (relation : Option (Op × List ℕ)) → is_name name ≡ true
      → is_spelled_relation relation ≡ true
      → alternative_at Need (32 ∷ (name ++ relation_text relation))
      ≡ Ok (wanted_atom name relation)
  wanted-again name relation named related =
      ap (λ text. alternative_at Need (32 ∷ text))
      (sym (wanted-bytes name relation)
      ∙ sym (append-nil (atom_text (wanted_atom name relation))))
      ∙ alternative-again (32 ∷ []) [] refl refl (wanted_atom name relation)
      (wanted-spelled name relation named related)

  atom-inner : (b : ℕ) → is_atom_byte b ≡ true → is_inner b ≡ true
  atom-inner b is = not_from_false (b == 10) (other-byte is_atom_byte 10 refl b is)

  entry-inner : (b : ℕ) → is_entry_byte b ≡ true → is_inner b ≡ true
  entry-inner b is = not_from_false (b == 10) (other-byte is_entry_byte 10 refl b is)

  wanted-inner : (name : List ℕ) (relation : Option (Op × List ℕ)) → is_name name ≡ true
      → is_spelled_relation relation ≡ true
      → list_all is_inner (name ++ relation_text relation) ≡ true
  wanted-inner name relation named related =
      all-weaker is_atom_byte is_inner atom-inner (name ++ relation_text relation)
      (ap (list_all is_atom_byte) (sym (wanted-bytes name relation))
      ∙ atom-text-bytes (wanted_atom name relation)
      (wanted-spelled name relation named related))

  unpack-line : (n : ℕ) (name : List ℕ) (relation : Option (Op × List ℕ)) → is_name name ≡ true
      → is_spelled_relation relation ≡ true → known_name u name ≡ Ok n
      → IsLineOf u (Unpack n relation) (codes "  unpack " ++ (name ++ relation_text relation))
  unfolding form_at instruction_of
  unpack-line n name relation named related known = record {
    wording = UnpackForm name relation;
    read = rw (wanted-again name relation named related) refl;
    meant = rw known refl;
    inner = wanted-inner name relation named related;
    kept = refl;
  }

  pub unpack-listed : (n : ℕ) (name : List ℕ) (relation : Option (Op × List ℕ))
      → IsWording (UnpackForm name relation)
      → (name_of_number u n ≡ name) × (known_name u name ≡ Ok n) → IsListed u (Unpack n relation)
  unfolding instruction_text
  unpack-listed n name relation is known =
      subst (IsLineOf u (Unpack n relation))
      (ap (λ text. codes "  unpack " ++ (text ++ relation_text relation)) (sym known.0))
      (unpack-line n name relation is.0 is.1 known.1)

  when-line : (n : ℕ) (name : List ℕ) (relation : Option (Op × List ℕ)) → is_name name ≡ true
      → is_spelled_relation relation ≡ true → known_name u name ≡ Ok n
      → IsLineOf u (When n relation) (codes "  when " ++ (name ++ relation_text relation))
  unfolding form_at instruction_of
  when-line n name relation named related known = record {
    wording = WhenForm name relation;
    read = rw (wanted-again name relation named related) refl;
    meant = rw known refl;
    inner = wanted-inner name relation named related;
    kept = refl;
  }

  pub when-listed : (n : ℕ) (name : List ℕ) (relation : Option (Op × List ℕ))
      → IsWording (WhenForm name relation)
      → (name_of_number u n ≡ name) × (known_name u name ≡ Ok n) → IsListed u (When n relation)
  unfolding instruction_text
  when-listed n name relation is known =
      subst (IsLineOf u (When n relation))
      (ap (λ text. codes "  when " ++ (text ++ relation_text relation)) (sym known.0))
      (when-line n name relation is.0 is.1 known.1)

  wait-line : (entry : Entry) → All IsSpelled entry → not (is_nil entry) ≡ true
      → reduced_entry u.architectures [] entry ≡ entry
      → IsLineOf u (Wait entry) (codes "  wait " ++ entry_text entry)
  unfolding form_at instruction_of
  wait-line entry are some final = record {
    wording = WaitForm entry;
    read = rw (entry-again (32 ∷ []) refl entry are some) refl;
    meant = ap (λ e. Ok (Wait e)) final;
    inner = all-weaker is_entry_byte is_inner entry-inner (entry_text entry)
        (entry-text-bytes entry are);
    kept = refl;
  }

  pub wait-listed : (entry : Entry) → All IsSpelled entry → not (is_nil entry) ≡ true
      → IsListed u (Wait (reduced_entry u.architectures [] entry))
  unfolding instruction_text
  wait-listed entry are some =
      wait-line (reduced_entry u.architectures [] entry)
      (reduced-spelled u.architectures [] entry are)
      (reduced-some u.architectures [] entry are some)
      (reduced-again u.architectures [] [] entry)
