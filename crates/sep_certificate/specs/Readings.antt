-- The law of certificate texts.
use Rattle.std.specs.Prelude.{◌≡◌, ◌↔◌, ℕ, ◌^◌, ◌<◌, true, List, length, None}
use Rattle.std.specs.Str.Lines.{lines}
use Rattle.sep_parts.specs.Versions.{IsVersion}
use Rattle.sep_certificate.specs.declared.certificate.Certificate.{Certificate}
use Rattle.sep_certificate.specs.Certificates.{IsWhole}
use Rattle.sep_certificate.specs.Texts.{IsTreeLine, Says, bad_line, is_tree_line, text_of}

-- A line is one whole tree exactly where it is the line of one. The text that is written says its certificate; a text
-- that says one has no faulty line, and says no other; and a text of fewer than 2^30 bytes that has no faulty line
-- says one.
pub record TextLaw : Type 0 where
  pub tree : (version : ℕ) (line : List ℕ) → IsVersion version →
      (is_tree_line version line ≡ true) ↔ IsTreeLine version line
  pub written : (cert : Certificate) → IsWhole cert → Says (text_of cert) cert
  pub clean : (text : List ℕ) (cert : Certificate) → Says text cert → bad_line (lines text) ≡ None
  pub said : (text : List ℕ) → length text < 2 ^ 30 → bad_line (lines text) ≡ None →
      (cert : Certificate) × Says text cert
  pub one : (text : List ℕ) (cert other : Certificate) → Says text cert → Says text other → cert ≡ other
