-- An archive in memory, as its calls see it, and the archive that it is.
--
--   Kept                  its words, its publications, and how many there is room for
--   with_publication      one publication more
--   numbered              publications with their serials
--   IsArchive             it is the archive of these publications
use Rattle.std.specs.Prelude.{◌≡◌, ℕ, suc, List, [], ◌∷◌, ◌++◌, length}
use Rattle.farm_model.specs.Common.{Universe, names, has_bit}
use Rattle.farm_model.specs.declared.types.Variant.{Variant}
use Rattle.plan_model.specs.Run as run
use Rattle.plan_model.specs.Common.{archive, with_bit}
use Rattle.farm_archive.specs.declared.publication.Publication.{Publication}

-- for each name a word whose bit b is set where variant b is there; the publications, the newest
-- last
pub record Kept : Type 0 where
  pub words : List ℕ
  pub history : List Publication
  pub room : ℕ

abbrev pub with_publication : Kept → ℕ → Variant → Kept
with_publication a l v = record {
  words = with_bit a.words v;
  history = a.history ++ record { serial = length a.history; lane = l; variant = v } ∷ [];
  room = a.room;
}

-- publications with their serials, the first of which is k
abbrev pub numbered : ℕ → List run.Publication → List Publication
numbered k [] = []
numbered k (q ∷ qs) =
    record { serial = k; lane = q.lane; variant = q.variant } ∷ numbered (suc k) qs

-- it is the archive of these publications, and tells them with serials from 0 on
pub record IsArchive (u : Universe) (published : List run.Publication) (a : Kept) : Type 0 where
  pub long : length a.words ≡ names u
  pub words : (v : Variant) → archive u published v ≡ has_bit a.words v
  pub history : a.history ≡ numbered 0 published
