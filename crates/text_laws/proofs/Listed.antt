-- The line of an instruction that was read is read again as that instruction.
use Rattle.std.proofs.Common.{◌≡◌, map, Ok, IfOk}
use Rattle.deb_text.proofs.CarriedLaws.{then-has}
use Rattle.farm_model.specs.Common.{recipe, Universe}
use Rattle.plan_reader.specs.Drafts.{known_name, known_recipe, set_of, instruction_of}
use Rattle.plan_reader.specs.Forms.{Wording, UnpackForm, ConfigureForm, DeconfigureForm, RemoveForm, BuildForm, PublishForm, WaitForm, WhenForm, ElseForm}
use Rattle.plan_reader.specs.Listing.{name_of_number}
use Rattle.text_laws.proofs.Names.{name-known, recipe-known, set-known}
use Rattle.text_laws.proofs.Wordings.{IsWording}
use Rattle.text_laws.proofs.WordLines.{IsListed, configure-listed, deconfigure-listed, remove-listed, build-listed, publish-listed, else-listed}
use Rattle.text_laws.proofs.EntryLines.{unpack-listed, wait-listed, when-listed}

module _ (u : Universe) where
  -- the instruction that is read of a line is one whose line is read again
  pub instruction-has : (wording : Wording) → IsWording wording
      → IfOk (instruction_of u wording) (IsListed u)
  unfolding instruction_of
  instruction-has (UnpackForm name relation) is =
      then-has (λ n. (name_of_number u n ≡ name) × (known_name u name ≡ Ok n)) (IsListed u)
      (known_name u name) _ (name-known u name)
      (λ n known. unpack-listed u n name relation is known)
  instruction-has (ConfigureForm ws) are =
      then-has (λ members. (map (name_of_number u) members ≡ ws) × (set_of u ws ≡ Ok members))
      (IsListed u) (set_of u ws) _ (set-known u ws)
      (λ members known. configure-listed u members ws are known)
  instruction-has (DeconfigureForm ws) are =
      then-has (λ members. (map (name_of_number u) members ≡ ws) × (set_of u ws ≡ Ok members))
      (IsListed u) (set_of u ws) _ (set-known u ws)
      (λ members known. deconfigure-listed u members ws are known)
  instruction-has (RemoveForm ws) are =
      then-has (λ members. (map (name_of_number u) members ≡ ws) × (set_of u ws ≡ Ok members))
      (IsListed u) (set_of u ws) _ (set-known u ws)
      (λ members known. remove-listed u members ws are known)
  instruction-has (BuildForm word) is =
      then-has (λ r. ((recipe u r).name ≡ word) × (known_recipe u word ≡ Ok r)) (IsListed u)
      (known_recipe u word) _ (recipe-known u word) (λ r known. build-listed u r word is known)
  instruction-has (PublishForm word) is =
      then-has (λ r. ((recipe u r).name ≡ word) × (known_recipe u word ≡ Ok r)) (IsListed u)
      (known_recipe u word) _ (recipe-known u word) (λ r known. publish-listed u r word is known)
  instruction-has (WaitForm entry) is = wait-listed u entry is.0 is.1
  instruction-has (WhenForm name relation) is =
      then-has (λ n. (name_of_number u n ≡ name) × (known_name u name ≡ Ok n)) (IsListed u)
      (known_name u name) _ (name-known u name)
      (λ n known. when-listed u n name relation is known)
  instruction-has ElseForm is = else-listed u
