-- What is done to the files of an import, one file after another.
use Rattle.std.proofs.Common.{◌≡◌, ◌⊎◌, ℕ, List, [], ◌∷◌, All, Option, Some, None, Result, Ok, Err, sym, subst, ◌∙◌, inl, inr, length, ◌<◌, ◌+◌, ◌++◌, get_or, arith, length-append, ap, map, take}
use Rattle.std.specs.Prelude.{IfOk, IsErr}
use Rattle.std.proofs.lemmas.Bool.{false≢true}
use Rattle.std.proofs.lemmas.List.Elements.{All-nil, All-cons, All-contains, All-head, All-tail, Contains-push}
use Rattle.std.proofs.lemmas.List.{get_or_append_left, map-append, take_more}
use Rattle.farm_commands.specs.Folders.{AreSame, AreSameBut, Holds, IsNewFile, IsRenamed, Stays}
use Rattle.farm_commands.specs.TextFiles.{AreApart, AreBeside, AreNamed, AreWritten, FileOf, HasNone, HoldsBeside, HoldsOwn, IsBesideLeft, IsNeither, IsNotBeside, IsOldOrNew, StaysBeside}

-- no file's own name is that of one beside another
own-beside : (files : List FileOf) → AreApart files
    → All (λ f. All (IsNotBeside f.own) files) files
own-beside [] apart = All-nil (λ f. All (IsNotBeside f.own) [])
own-beside (f ∷ rest) apart =
    All-cons (λ g. All (IsNotBeside g.own) (f ∷ rest)) f rest
    (All-cons (IsNotBeside f.own) f rest apart.0 (λ k d lt. (apart.1 k d lt).own_beside))
    (λ k d lt. All-cons (IsNotBeside (get_or rest k d).own) f rest
    (λ same. (apart.1 k d lt).beside_own (sym same)) (own-beside rest apart.2 k d lt))

-- a file that was not there may become any
none-stays : (before after : Option (List ℕ)) → before ≡ None → Stays before after
none-stays before after none = subst (λ b. Stays b after) (sym none) tt

same-stays : (before after : Option (List ℕ)) → after ≡ before → Stays before after
same-stays None after same = tt
same-stays (Some bytes) after same = same

-- where something failed nothing is said of a value
on-err : {V E : Type 0} (P : V → Type 0) (told : Result V E) → IsErr told → IfOk told P
on-err P (Ok value) is = absurd (false≢true is)
on-err P (Err error) is = tt

module _ (old mid : List ℕ → Option (List ℕ)) (f : FileOf) (rest : List FileOf)
    (apart : AreApart (f ∷ rest)) where
  -- the first file changes alone
  module _ (others : AreSameBut f.beside old mid) where
    untouched : (k : ℕ) (d : FileOf) → k < length rest
        → mid (get_or rest k d).beside ≡ old (get_or rest k d).beside
    untouched k d lt = others (get_or rest k d).beside (λ same. (apart.1 k d lt).beside (sym same))

  -- the first text cannot be written
  pub beside-failed : {V E V' E' : Type 0} (error : E) (told : Result V' E') → IsErr told
      → IsNewFile {V = V} f.beside f.text old mid (Err error) → AreBeside (f ∷ rest) old mid told
  beside-failed error told failed is = record {
    others = λ name differ. is.others name (All-head (IsNotBeside name) f rest differ);
    stays = All-cons (StaysBeside old mid) f rest is.stays
        (λ k d lt. same-stays (old (get_or rest k d).beside) (mid (get_or rest k d).beside)
        (untouched is.others k d lt));
    none = on-err (λ _. All (HasNone old) (f ∷ rest)) told failed;
    hold = on-err (λ _. All (HoldsBeside mid) (f ∷ rest)) told failed;
  }

  -- all are written
  pub beside-done : {V E V' E' : Type 0} (value : V) (done : V') (new : List ℕ → Option (List ℕ))
      → IsNewFile {E = E} f.beside f.text old mid (Ok value)
      → AreBeside {E = E'} rest mid new (Ok done) → AreBeside {E = E'} (f ∷ rest) old new (Ok done)
  beside-done value done new is later = record {
    others = λ name differ.
        later.others name (All-tail (IsNotBeside name) f rest differ)
        ∙ is.others name (All-head (IsNotBeside name) f rest differ);
    stays = All-cons (StaysBeside old new) f rest (none-stays (old f.beside) (new f.beside) is.none)
        (λ k d lt. subst (λ b. Stays b (new (get_or rest k d).beside)) (untouched is.others k d lt)
        (later.stays k d lt));
    none = All-cons (HasNone old) f rest is.none
        (λ k d lt. sym (untouched is.others k d lt) ∙ later.none k d lt);
    hold = All-cons (HoldsBeside new) f rest
        (subst (λ known. Holds known f.text)
        (sym (later.others f.beside (λ k d lt. (apart.1 k d lt).beside))) is.holds)
        later.hold;
  }

  -- a later one cannot be written, and the first is removed
  pub beside-undone : {V E V' E' : Type 0} (value : V) (fault : E')
      (low new : List ℕ → Option (List ℕ))
      → IsNewFile {E = E} f.beside f.text old mid (Ok value)
      → AreBeside {V = V'} rest mid low (Err fault) → AreSameBut f.beside low new
      → AreBeside {V = V'} (f ∷ rest) old new (Err fault)
  beside-undone value fault low new is later removed = record {
    others = λ name differ.
        removed name (All-head (IsNotBeside name) f rest differ)
        ∙ later.others name (All-tail (IsNotBeside name) f rest differ)
        ∙ is.others name (All-head (IsNotBeside name) f rest differ);
    stays = All-cons (StaysBeside old new) f rest (none-stays (old f.beside) (new f.beside) is.none)
        (λ k d lt. subst (λ b. Stays b (new (get_or rest k d).beside)) (untouched is.others k d lt)
        (subst (Stays (mid (get_or rest k d).beside))
        (sym (removed (get_or rest k d).beside (λ same. (apart.1 k d lt).beside (sym same))))
        (later.stays k d lt)));
    none = tt;
    hold = tt;
  }

  -- the first file does not get its name, and all are removed
  pub named-failed : {V E V' E' : Type 0} (error : E) (fault : E') (new : List ℕ → Option (List ℕ))
      → IsRenamed {V = V} f.beside f.own old mid (Err error) → IsBesideLeft (f ∷ rest) mid new
      → AreNamed {V = V'} (f ∷ rest) old new (Err fault)
  named-failed error fault new is left = record {
    others = λ name differ. left name (λ k d lt. (differ k d lt).1) ∙ is.same name;
    each = λ k d lt. inl (left (get_or (f ∷ rest) k d).own (own-beside (f ∷ rest) apart k d lt)
        ∙ is.same (get_or (f ∷ rest) k d).own);
    hold = tt;
  }

  -- the first file gets its name: the others wait for theirs
  pub hold-still : {V E : Type 0} (value : V)
      → IsRenamed {E = E} f.beside f.own old mid (Ok value) → All (HoldsBeside old) (f ∷ rest)
      → All (HoldsBeside mid) rest
  hold-still value is hold k d lt =
      subst (λ known. Holds known (get_or rest k d).text)
      (sym (is.others (get_or rest k d).beside (λ same. (apart.1 k d lt).beside (sym same))
      (λ same. (apart.1 k d lt).own_beside (sym same))))
      (All-tail (HoldsBeside old) f rest hold k d lt)

  module _ (new : List ℕ → Option (List ℕ)) where
    first-holds : {V E V' E' : Type 0} (value : V) (told : Result V' E')
        → IsRenamed {E = E} f.beside f.own old mid (Ok value) → All (HoldsBeside old) (f ∷ rest)
        → AreNamed rest mid new told → HoldsOwn new f
    first-holds value told is hold later =
        subst (λ known. Holds known f.text)
        (sym (later.others f.own (λ k d lt. ((apart.1 k d lt).own, (apart.1 k d lt).own_beside))
        ∙ is.moved))
        (All-head (HoldsBeside old) f rest hold)

    all-hold : {V' E' : Type 0} (told : Result V' E') → HoldsOwn new f
        → IfOk told (λ _. All (HoldsOwn new) rest) → IfOk told (λ _. All (HoldsOwn new) (f ∷ rest))
    all-hold (Ok done) first rests = All-cons (HoldsOwn new) f rest first rests
    all-hold (Err fault) first rests = tt

    -- and get them, or not
    pub named-on : {V E V' E' : Type 0} (value : V) (told : Result V' E')
        → IsRenamed {E = E} f.beside f.own old mid (Ok value) → All (HoldsBeside old) (f ∷ rest)
        → AreNamed rest mid new told → AreNamed (f ∷ rest) old new told
    named-on value told is hold later = record {
      others = λ name differ.
          later.others name (All-tail (IsNeither name) f rest differ)
          ∙ is.others name (All-head (IsNeither name) f rest differ).1
          (All-head (IsNeither name) f rest differ).0;
      each = All-cons (IsOldOrNew old new) f rest (inr (first-holds value told is hold later))
          (λ k d lt. subst (λ known. (new (get_or rest k d).own ≡ known)
          ⊎ HoldsOwn new (get_or rest k d))
          (is.others (get_or rest k d).own (λ same. (apart.1 k d lt).beside_own (sym same))
          (λ same. (apart.1 k d lt).own (sym same)))
          (later.each k d lt));
      hold = all-hold told (first-holds value told is hold later) later.hold;
    }

module _ (files : List FileOf) (apart : AreApart files) (old start mid : List ℕ → Option (List ℕ))
    (same : AreSame old start) where
  -- a text cannot be written
  pub written-failed : {V E V' E' : Type 0} (error : E) (told : Result V' E') → IsErr told
      → AreBeside {V = V} files start mid (Err error) → AreWritten files old mid told
  written-failed error told failed is = record {
    others = λ name differ. is.others name (λ k d lt. (differ k d lt).1) ∙ same name;
    stays = λ k d lt.
        subst (λ before. Stays before (mid (get_or files k d).beside))
        (same (get_or files k d).beside) (is.stays k d lt);
    each = λ k d lt. inl (is.others (get_or files k d).own (own-beside files apart k d lt)
        ∙ same (get_or files k d).own);
    hold = on-err (λ _. All (HoldsOwn mid) files) told failed;
  }

  -- all are written, and get their names or not
  pub written-named : {V E V' E' : Type 0} (value : V) (told : Result V' E')
      (new : List ℕ → Option (List ℕ)) → AreBeside {E = E} files start mid (Ok value)
      → AreNamed files mid new told → AreWritten files old new told
  written-named value told new is named = record {
    others = λ name differ.
        named.others name differ
        ∙ is.others name (λ k d lt. (differ k d lt).1) ∙ same name;
    stays = λ k d lt. none-stays (old (get_or files k d).beside) (new (get_or files k d).beside)
        (sym (same (get_or files k d).beside) ∙ is.none k d lt);
    each = λ k d lt. subst (λ known. (new (get_or files k d).own ≡ known)
        ⊎ HoldsOwn new (get_or files k d))
        (is.others (get_or files k d).own (own-beside files apart k d lt)
        ∙ same (get_or files k d).own) (named.each k d lt);
    hold = named.hold;
  }

-- the folder cannot be made
pub written-none : {V E : Type 0} (files : List FileOf) (old new : List ℕ → Option (List ℕ))
    (fault : E) → AreSame old new → AreWritten {V = V} files old new (Err fault)
written-none files old new fault same = record {
  others = λ name differ. same name;
  stays = λ k d lt. same-stays (old (get_or files k d).beside) (new (get_or files k d).beside)
      (same (get_or files k d).beside);
  each = λ k d lt. inl (same (get_or files k d).own);
  hold = tt;
}

-- one more file is removed
pub left-more : (file_at : FileOf) (files more : List FileOf)
    (old mid new : List ℕ → Option (List ℕ)) → more ≡ files ++ file_at ∷ []
    → IsBesideLeft files old mid → AreSameBut file_at.beside mid new → IsBesideLeft more old new
left-more file_at files more old mid new is left removed name differ =
    let all = subst (All (IsNotBeside name)) is differ in
    removed name (All-contains (IsNotBeside name) (files ++ file_at ∷ []) file_at all (Contains-push files file_at))
    ∙ left name (λ k d lt. subst (IsNotBeside name) (get_or_append_left files (file_at ∷ []) d k lt)
    (all k d (omega (arith, lt, length-append files (file_at ∷ [])))))

-- the views of one item more
pub map_more : {X Y : Type 0} (f : X → Y) (xs : List X) (i : ℕ) (x : X) → i < length xs
    → x ≡ get_or xs i x → map f (take (i + 1) xs) ≡ map f (take i xs) ++ f x ∷ []
map_more f xs i x below is =
    ap (map f) (take_more xs i x below) ∙ map-append f (take i xs) (get_or xs i x ∷ [])
    ∙ ap (λ y. map f (take i xs) ++ f y ∷ []) (sym is)
