-- The text that is printed of a certificate (the project's own format) is read again as that
-- certificate: laws over texts and definitions, so that no variant and no line can be dropped by
-- reader and writer alike.
--
--   IsSpelled u         names and versions as Debian Policy 5.6.1 and 5.6.12 have them, each once
--   UniverseIsSpelled   every universe that was read is so
--   RowIsReadAgain, KnownLineIsReadAgain, OrderLineIsReadAgain, CertificateIsReadAgain
use Rattle.std.specs.Prelude.{◌≡◌, ℕ, ◌<◌, ◌≤◌, ◌^◌, suc, true, List, ◌++◌, codes, length, Some, Ok}
use Rattle.std.specs.Fmt.{decimal}
use Rattle.std.specs.declared.cmp.Ordering.TheVariants.{Less}
use Rattle.std.specs.List.{list_all}
use Rattle.std.specs.Result.{is_ok}
use Rattle.std.specs.Str.{bytes_eq}
use Rattle.deb_stanza.specs.declared.error.TheConstants.{MOST_BYTES}
use Rattle.deb_text.specs.Common.{AllDistinct, is_name, is_run}
use Rattle.deb_version.specs.Grammar.{version_at, text_cmp}
use Rattle.farm_model.specs.Common.{Universe, variant, variants, package_of}
use Rattle.farm_universe.specs.UniverseText.{universe_of}
use Rattle.plan_reader.specs.PlanText.{plan_of}
use Rattle.plan_model.specs.Plan.{Plan, lane}
use Rattle.cert_text.specs.Certificates.{Certificate, IsNewRow, IsCertificate}
use Rattle.cert_text.specs.CertLines.{known_row, order_lane}
use Rattle.cert_text.specs.CertText.{certificate_of}
use Rattle.cert_text.specs.Printed.{list_text, certificate_text}
use Rattle.cert_text.specs.Rows.{row_variants, row_at}

pub record IsSpelled (u : Universe) : Type 0 where
  pub names : list_all is_name u.names ≡ true
  pub distinct : AllDistinct bytes_eq u.names
  pub listed : length u.names ≡ length u.packages
  pub versions : (n b : ℕ) → b < variants u n
      → is_ok (version_at (package_of u (variant n b)).version) ≡ true
  pub rising : (n b : ℕ) → suc b < variants u n
      → text_cmp (package_of u (variant n b)).version (package_of u (variant n (suc b))).version
      ≡ Less

-- every universe that texts stand for is spelled so
abbrev pub UniverseIsSpelled : Type 0
UniverseIsSpelled = (packages sources farm : List ℕ) (u : Universe)
    → universe_of packages sources farm ≡ Ok u → IsSpelled u

-- ---- rows

-- each row of variants that the initial archive does not have is the row of its list
abbrev pub RowIsReadAgain : Type 0
RowIsReadAgain = (u : Universe) (row : List ℕ) → IsSpelled u → IsNewRow u row
    → row_at u (list_text u (row_variants u row)) ≡ Some row

-- the line of a row, less its end
abbrev pub known_text : Universe → List ℕ → ℕ → List ℕ → List ℕ
known_text u name number row =
    codes "known " ++ name ++ codes " " ++ decimal number ++ codes ":"
    ++ list_text u (row_variants u row)

-- and each line of one is a line of that row, behind a lane's name and a number
abbrev pub KnownLineIsReadAgain : Type 0
KnownLineIsReadAgain = (u : Universe) (name : List ℕ) (number : ℕ) (row : List ℕ) → IsSpelled u
    → IsNewRow u row → is_run name ≡ true → number < 10 ^ 15
    → known_row u name number (known_text u name number row) ≡ Some row

-- ---- the order

-- the line of an item of the order, less its end
abbrev pub order_text : Plan → ℕ → List ℕ
order_text p l = codes "order " ++ (lane p l).name

-- each lane of a plan that a text stands for is the lane of its line
abbrev pub OrderLineIsReadAgain : Type 0
OrderLineIsReadAgain = (u : Universe) (text : List ℕ) (p : Plan) (l : ℕ) → plan_of u text ≡ Ok p
    → l < length p → order_lane p (order_text p l) ≡ Some l

-- ---- the whole

-- over every universe and plan that texts stand for, each certificate of the plan is the one that
-- its text stands for, where that is no longer than a text may be
abbrev pub CertificateIsReadAgain : Type 0
CertificateIsReadAgain = (packages sources farm text : List ℕ) (u : Universe) (p : Plan)
    (c : Certificate) → universe_of packages sources farm ≡ Ok u → plan_of u text ≡ Ok p
    → IsCertificate u p c → length (certificate_text u p c) ≤ MOST_BYTES
    → certificate_of u p (certificate_text u p c) ≡ Ok c
