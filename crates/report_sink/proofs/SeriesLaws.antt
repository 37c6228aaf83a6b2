-- Texts that are written one behind the other, each by a call of its own: what is written of all of
-- them, where the sink has failed in one, and where it has in none but the last.
use Rattle.std.proofs.Common.{◌≡◌, ℕ, true, List, [], ◌∷◌}
use Rattle.std.specs.List.{concat}
use Rattle.report_sink.specs.Sinks.{SinkState, IsWritten}
use Rattle.report_sink.proofs.WriteLaws.{written_twice, cut_short, nothing_written}

module _ (a : List ℕ) (old s1 : SinkState) (first : IsWritten old s1 a) where
  pub first_fails : (rest : List (List ℕ)) → s1.failed ≡ true → IsWritten old s1 (concat (a ∷ rest))
  first_fails rest failed = cut_short old s1 a (concat rest) first failed

  pub first_written : (rest : List (List ℕ)) (new : SinkState) → IsWritten s1 new (concat rest)
      → IsWritten old new (concat (a ∷ rest))
  first_written rest new more = written_twice old s1 new a (concat rest) first more

  module _ (b : List ℕ) (s2 : SinkState) (second : IsWritten s1 s2 b) where
    pub second_fails : (rest : List (List ℕ)) → s2.failed ≡ true
        → IsWritten old s2 (concat (a ∷ b ∷ rest))
    second_fails rest failed =
        first_written (b ∷ rest) s2 (cut_short s1 s2 b (concat rest) second failed)

    pub two_written : (rest : List (List ℕ)) (new : SinkState) → IsWritten s2 new (concat rest)
        → IsWritten old new (concat (a ∷ b ∷ rest))
    two_written rest new more =
        first_written (b ∷ rest) new (written_twice s1 s2 new b (concat rest) second more)

    module _ (c : List ℕ) (s3 : SinkState) (third : IsWritten s2 s3 c) where
      pub third_fails : (rest : List (List ℕ)) → s3.failed ≡ true
          → IsWritten old s3 (concat (a ∷ b ∷ c ∷ rest))
      third_fails rest failed =
          two_written (c ∷ rest) s3 (cut_short s2 s3 c (concat rest) third failed)

      pub three_written : IsWritten old s3 (concat (a ∷ b ∷ c ∷ []))
      three_written =
          two_written (c ∷ []) s3 (written_twice s2 s3 s3 c [] third (nothing_written s3))

      pub four_written : (d : List ℕ) (s4 : SinkState) → IsWritten s3 s4 d
          → IsWritten old s4 (concat (a ∷ b ∷ c ∷ d ∷ []))
      four_written d s4 fourth =
          two_written (c ∷ d ∷ []) s4
          (written_twice s2 s3 s4 c (concat (d ∷ [])) third
          (written_twice s3 s4 s4 d [] fourth (nothing_written s4)))
