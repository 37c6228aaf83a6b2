-- Files by their names, and what becomes of them where one is written. The project's own rules.
-- Parameters: known the bytes of a file, where they are known (`None` also where there is no such
-- file), old and new the files before and after, path, from and to names.
--
--   IsRead most known text   a text is the first bytes of a file
--   Holds known text         a file is known by no other bytes than these
--   Stays before after       a file that was there is as it was
--   AreSame, AreSameBut      all files are as they were; all but one
--   IsNewFile, IsRenamed     what making a file does, and giving it another name
use Rattle.std.specs.Prelude.{◌≡◌, ◌≢◌, ℕ, List, take, Option, None, Some, Result, IfErr, IfOk, IfSome}

abbrev pub IsRead : ℕ → Option (List ℕ) → List ℕ → Type 0
IsRead most known text = IfSome known (λ bytes. text ≡ take most bytes)

abbrev pub Holds : Option (List ℕ) → List ℕ → Type 0
Holds known text = IfSome known (λ bytes. bytes ≡ text)

abbrev pub Stays : Option (List ℕ) → Option (List ℕ) → Type 0
Stays before after = IfSome before (λ bytes. after ≡ Some bytes)

abbrev pub AreSame : (List ℕ → Option (List ℕ)) → (List ℕ → Option (List ℕ)) → Type 0
AreSame old new = (name : List ℕ) → new name ≡ old name

abbrev pub AreSameBut : List ℕ → (List ℕ → Option (List ℕ)) → (List ℕ → Option (List ℕ)) → Type 0
AreSameBut path old new = (name : List ℕ) → name ≢ path → new name ≡ old name

-- Of a file that is made of a text:
pub record IsNewFile {V E : Type 0} (path text : List ℕ) (old new : List ℕ → Option (List ℕ))
    (told : Result V E) : Type 0 where
  -- no other file changes;
  pub others : AreSameBut path old new
  -- there was none of its name, and it holds the text;
  pub none : IfOk told (λ _. old path ≡ None)
  pub holds : IfOk told (λ _. Holds (new path) text)
  -- or nothing is made, and one that was there stays.
  pub stays : IfErr told (λ _. Stays (old path) (new path))

-- Of a file that is given another name:
pub record IsRenamed {V E : Type 0} (from to : List ℕ) (old new : List ℕ → Option (List ℕ))
    (told : Result V E) : Type 0 where
  -- no further file changes;
  pub others : (name : List ℕ) → name ≢ from → name ≢ to → new name ≡ old name
  -- what it held is found under that name;
  pub moved : IfOk told (λ _. new to ≡ old from)
  -- or all files are as they were.
  pub same : IfErr told (λ _. AreSame old new)
