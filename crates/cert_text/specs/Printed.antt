-- The text of a certificate (the project's own format): `cert 1`; for each lane and each of its
-- waits, publishes and `when`s a line `known LANE NUMBER: NAME (= VERSION), ..`, NUMBER being the
-- instruction's and versions as the packages text spells them; for each item of the order a line
-- `order LANE`.
--
--   list_text u vs                variants as the end of a line
--   certificate_text u p c        the text of a certificate
use Rattle.std.specs.Prelude.{ℕ, List, [], ◌∷◌, ◌++◌, codes}
use Rattle.std.specs.List.{flat_map, zip}
use Rattle.std.specs.Fmt.{decimal}
use Rattle.farm_model.specs.Common.{Universe, package_of}
use Rattle.farm_model.specs.declared.types.Variant.{Variant}
use Rattle.plan_model.specs.Plan.{Plan, Lane, lane}
use Rattle.plan_reader.specs.Listing.{name_of_number}
use Rattle.cert_text.specs.Certificates.{Certificate, row_places}
use Rattle.cert_text.specs.Rows.{row_variants}

-- `NAME (= VERSION)`
unfoldable pub variant_text : Universe → Variant → List ℕ
variant_text u v =
    name_of_number u v.name ++ codes " (= " ++ (package_of u v).version ++ codes ")"

-- a comma and a space ahead of each
abbrev pub more_text : Universe → List Variant → List ℕ
more_text u vs = flat_map (λ v. codes ", " ++ variant_text u v) vs

-- a space ahead of the first, and a comma and a space ahead of each other one
abbrev pub list_text : Universe → List Variant → List ℕ
list_text u [] = []
list_text u (v ∷ vs) = codes " " ++ variant_text u v ++ more_text u vs

-- what a lane knows behind the instruction of this number
unfoldable pub known_line : Universe → List ℕ → ℕ × List ℕ → List ℕ
known_line u name (number, row) =
    codes "known " ++ name ++ codes " " ++ decimal number ++ codes ":"
    ++ list_text u (row_variants u row) ++ codes "\n"

-- the lines of a lane
abbrev pub known_lines : Universe → Lane × List (List ℕ) → List ℕ
known_lines u (of, rows) = flat_map (known_line u of.name) (zip (row_places of) rows)

-- an item of the order
abbrev pub order_line : Plan → ℕ → List ℕ
order_line p l = codes "order " ++ (lane p l).name ++ codes "\n"

-- the text of a certificate
unfoldable pub certificate_text : Universe → Plan → Certificate → List ℕ
certificate_text u p c =
    codes "cert 1\n" ++ flat_map (known_lines u) (zip p c.rows) ++ flat_map (order_line p) c.order
