-- Texts that are made of paragraphs, and blocks that come behind others.
use Rattle.std.proofs.Common.{◌≡◌, ℕ, Ok, List, [], ◌∷◌, ◌++◌, sym, ap, subst, ◌∙◌, inl, inr}
use Rattle.std.proofs.lemmas.Grind.{flat_map-append}
use Rattle.std.proofs.lemmas.List.{append-nil, append_assoc}
use Rattle.std.proofs.lemmas.List.Elements.{All-nil, All-cons, All-append, All-weaker, All-contains, Contains-append_left, Contains-append_right}
use Rattle.std.specs.Borrow.{Bor}
use Rattle.std.specs.Prelude.{All}
use Rattle.std.specs.List.{Contains, flat_map}
use Rattle.debian_index.specs.Index.{AreBlocks, AreSingle, paragraphs_from, paragraphs_in}
use Rattle.debian_index.specs.declared.blocks.Block.{Block}
use Rattle.import_farm.specs.declared.imported.NamedText.{NamedText}
use Rattle.deb_stanza.specs.Stanza.{Paragraph, paragraphs_at}
use Rattle.import_wish.specs.Wish.{Wish, wish_at}
use Rattle.farm_lookup.specs.declared.needs.Unmet.{Unmet}
use Rattle.import_farm.specs.Imported.{AreTextsOf, wish_in}
use Rattle.import_farm.specs.declared.imported.ImportedTexts.{ImportedTexts}
use Rattle.import_farm.specs.declared.imported.TheConstants.{HEAD}
use Rattle.import_farm.specs.Made.{GetsBlocks, IsBlockIn, IsBlockOf, IsCutOf, IsMadeOf, IsOneOf, IsWhole, IsWholeOrAnew}

-- ---- paragraphs behind a text

module _ (Is : List ℕ → Type 0) where
  pub made-none : (old : List ℕ) → IsMadeOf Is old old
  made-none old = ([], sym (append-nil old), All-nil Is)

  -- one, and an empty line behind it
  pub made-one : (old paragraph mid new : List ℕ) → mid ≡ old ++ paragraph → new ≡ mid ++ 10 ∷ []
      → Is paragraph → IsMadeOf Is old new
  made-one old paragraph mid new e f is = (
    paragraph ∷ [],
    f ∙ ap (λ t. t ++ 10 ∷ []) e ∙ append_assoc old paragraph (10 ∷ [])
        ∙ ap (λ t. old ++ t) (sym (append-nil (paragraph ++ 10 ∷ []))),
    All-cons Is paragraph [] is (All-nil Is),
  )

  pub made-more : (old mid new : List ℕ) → IsMadeOf Is old mid → IsMadeOf Is mid new
      → IsMadeOf Is old new
  made-more old mid new first second = (
    first.0 ++ second.0,
    second.1 ∙ ap (λ t. t ++ flat_map (λ p. p ++ 10 ∷ []) second.0) first.1
        ∙ append_assoc old (flat_map (λ p. p ++ 10 ∷ []) first.0)
        (flat_map (λ p. p ++ 10 ∷ []) second.0)
        ∙ ap (λ t. old ++ t) (sym (flat_map-append (λ p. p ++ 10 ∷ []) first.0 second.0)),
    All-append Is first.0 second.0 first.2 second.2,
  )

pub made-weaker : (P Q : List ℕ → Type 0) → ((p : List ℕ) → P p → Q p) → (old new : List ℕ)
    → IsMadeOf P old new → IsMadeOf Q old new
made-weaker P Q weaker old new made = (made.0, made.1, All-weaker P Q weaker made.0 made.2)

-- a paragraph as it stands, or under another version, of paragraphs of another kind
module _ (P Q : List ℕ → Type 0) (weaker : (p : List ℕ) → P p → Q p) where
  pub whole-weaker : (p : List ℕ) → IsWhole P p → IsWhole Q p
  whole-weaker p is = (is.0, weaker is.0 is.1, is.2)

  pub whole_or_anew-weaker : (p : List ℕ) → IsWholeOrAnew P p → IsWholeOrAnew Q p
  whole_or_anew-weaker p is =
      elim is [
        | inl whole ↦ inl (whole-weaker p whole)
        | inr anew ↦ inr (anew.0, weaker anew.0 anew.1, anew.2)
      ]

-- ---- blocks behind others

module _ (Is : List ℕ → Type 0) where
  pub gets-none : (old : List (Bor (List ℕ))) → GetsBlocks Is old old
  gets-none old = ([], sym (append-nil old), All-nil (λ (block : Bor (List ℕ)). Is block.now))

  pub gets-one : (old new : List (Bor (List ℕ))) (block : Bor (List ℕ)) → new ≡ old ++ block ∷ []
      → Is block.now → GetsBlocks Is old new
  gets-one old new block e is = (
    block ∷ [],
    e,
    All-cons (λ (b : Bor (List ℕ)). Is b.now) block [] is
        (All-nil (λ (b : Bor (List ℕ)). Is b.now)),
  )

  pub gets-more : (old mid new : List (Bor (List ℕ))) → GetsBlocks Is old mid
      → GetsBlocks Is mid new → GetsBlocks Is old new
  gets-more old mid new first second = (
    first.0 ++ second.0,
    second.1 ∙ ap (λ t. t ++ second.0) first.1 ∙ append_assoc old first.0 second.0,
    All-append (λ (b : Bor (List ℕ)). Is b.now) first.0 second.0 first.2 second.2,
  )

  pub all-gotten : (new : List (Bor (List ℕ))) → GetsBlocks Is [] new
      → All (λ block. Is block.now) new
  all-gotten new got = subst (λ (bs : List (Bor (List ℕ))). All (λ b. Is b.now) bs) (sym got.1) got.2

pub gets-weaker : (P Q : List ℕ → Type 0) → ((p : List ℕ) → P p → Q p)
    → (old new : List (Bor (List ℕ))) → GetsBlocks P old new → GetsBlocks Q old new
gets-weaker P Q weaker old new got = (
  got.0,
  got.1,
  All-weaker (λ (b : Bor (List ℕ)). P b.now) (λ (b : Bor (List ℕ)). Q b.now)
      (λ b is. weaker b.now is) got.0 got.2,
)

-- no block
abbrev pub blank : Block
blank = record { start = 0; size = 0; number = 0 }

-- blocks of all blocks of an index
pub blocks-of : (text : List ℕ) (blocks cut : List Block) → cut ≡ blocks
    → paragraphs_from 1 text ≡ Ok (flat_map (paragraphs_in text) blocks) → AreBlocks text blocks
    → AreSingle text blocks → (old new : List (Bor (List ℕ))) → GetsBlocks (IsCutOf text cut) old new
    → GetsBlocks (IsBlockOf text) old new
blocks-of text blocks cut same read within single old new got =
    gets-weaker (IsCutOf text cut) (IsBlockOf text)
    (λ bytes is. record {
      blocks = blocks;
      read = read;
      within = within;
      single = single;
      cut = subst (λ (bs : List Block). IsCutOf text bs bytes) same is;
    }) old new got

-- a block of one of the indexes
pub block-in : (texts : List NamedText) (text : NamedText) → Contains texts text
    → (bytes : List ℕ) → IsBlockOf text.bytes.now bytes → IsBlockIn texts bytes
block-in texts text among bytes is = (text, among, is)

-- no index
abbrev pub no_text : NamedText
no_text = record {
  name = record { ref_ptr = (0, 0); now = [] };
  bytes = record { ref_ptr = (0, 0); now = [] };
}

-- those of two lists of indexes
pub blocks-both : (first second : List NamedText) (mid new : List (Bor (List ℕ)))
    → GetsBlocks (IsBlockIn first) [] mid → GetsBlocks (IsBlockIn second) mid new
    → All (λ block. IsBlockIn (first ++ second) block.now) new
blocks-both first second mid new one two =
    all-gotten (IsBlockIn (first ++ second)) new
    (gets-more (IsBlockIn (first ++ second)) [] mid new
    (gets-weaker (IsBlockIn first) (IsBlockIn (first ++ second))
    (λ bytes is. (is.0, Contains-append_left first second is.0 is.1, is.2)) [] mid one)
    (gets-weaker (IsBlockIn second) (IsBlockIn (first ++ second))
    (λ bytes is. (is.0, Contains-append_right first second is.0 is.1, is.2)) mid new two))

-- what is one of blocks that are all such is such
pub one-of : (Is : List ℕ → Type 0) (blocks : List (Bor (List ℕ)))
    → All (λ block. Is block.now) blocks → (bytes : List ℕ) → IsOneOf blocks bytes → Is bytes
one-of Is blocks all bytes is =
    subst Is (sym is.2) (All-contains (λ (b : Bor (List ℕ)). Is b.now) blocks is.0 all is.1)

-- such texts of paragraphs of other kinds
pub texts-weaker : (P Q P2 Q2 : List ℕ → Type 0) → ((p : List ℕ) → P p → P2 p)
    → ((p : List ℕ) → Q p → Q2 p) → (wish : Wish) (texts : ImportedTexts) (unmet : List Unmet)
    → AreTextsOf P Q wish texts unmet → AreTextsOf P2 Q2 wish texts unmet
texts-weaker P Q P2 Q2 ps qs wish texts unmet are =
    record {
      farm = are.farm;
      packages =
          made-weaker (IsWholeOrAnew P) (IsWholeOrAnew P2) (whole_or_anew-weaker P P2 ps) HEAD.now
          texts.packages.items are.packages;
      sources =
          made-weaker (IsWhole Q) (IsWhole Q2) (whole-weaker Q Q2 qs) HEAD.now texts.sources.items
          are.sources;
    }

-- what the paragraphs of a wish say is what its text says
pub wish-in : (text : List ℕ) (paragraphs : List Paragraph) (wish : Wish)
    → paragraphs_at text ≡ Ok paragraphs → wish_at paragraphs ≡ Ok wish → wish_in text ≡ Ok wish
wish-in text paragraphs wish read says = rw read says
