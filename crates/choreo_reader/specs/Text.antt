-- The words of a show's text, and the bytes that may stand in it.
use Rattle.std.specs.Prelude.{◌≡◌, ℕ, ◌+◌, Bool, ◌&&◌, ◌||◌, List, [], ◌∷◌, nat_le, Option, Some, None, Result, Ok, Err}
use Rattle.std.specs.Prelude.{Vec, if◌then◌else◌}
use Rattle.std.specs.List.{list_all}
use Rattle.std.specs.declared.alloc.Global.{Global}
use Rattle.text_lines.specs.declared.token.Token.{Token}
use Rattle.text_lines.specs.declared.token.Comments.TheVariants.{FromHash}
use Rattle.text_lines.specs.Lines.{lines_of}
use Rattle.text_lines.specs.Words.{Line, is_blank, visible, numbered}
use Rattle.text_lines.specs.Tokens.{tokens_of}
use Rattle.choreo_lines.specs.declared.line.LineKind.{LineKind}
use Rattle.choreo_lines.specs.declared.line.LineKind.TheVariants as kind
use Rattle.choreo_reader.specs.declared.fault.ShowFault.{ShowFault}
use Rattle.choreo_reader.specs.declared.fault.ShowFault.TheVariants as failing

-- a line and what is wrong with it
pub record Fault : Type 0 where
  pub line : ℕ
  pub kind : LineKind

-- this is wrong with this line
abbrev pub fault_at : ℕ → LineKind → Fault
fault_at line kind = record { line = line; kind = kind }

-- A `#` begins a comment. These are the lines with words of a show's text, each with its number.
abbrev pub show_lines : List ℕ → List Line
show_lines text = numbered FromHash 1 (lines_of text)

-- a byte that may stand outside a comment: a blank, or a printable character
abbrev pub is_allowed : ℕ → Bool
is_allowed b = is_blank b || (nat_le 32 b && nat_le b 126)

-- bytes that may all stand outside a comment
abbrev pub are_allowed : List ℕ → Bool
are_allowed bytes = list_all is_allowed bytes

-- the first of these lines that has a forbidden byte outside its comment, where they count from this number
abbrev pub forbidden_from : ℕ → List (List ℕ) → Option Fault
forbidden_from number [] = None
forbidden_from number (line ∷ lines) =
    if are_allowed (visible FromHash line)
    then forbidden_from (number + 1) lines
    else Some (fault_at number kind.BadByte)

-- the first line of a text that has a forbidden byte
abbrev pub forbidden : List ℕ → Option Fault
forbidden text = forbidden_from 1 (lines_of text)

-- a refusal names the first line with a forbidden byte, unless the program is out of memory
abbrev pub TokensFail : ShowFault → List ℕ → Type 0
TokensFail (failing.Line line kind) text = forbidden text ≡ Some (fault_at line kind)
TokensFail failing.Memory text = Unit {0}

-- the words of a text, where no byte is forbidden
abbrev pub TokensGive : Result (Vec Token Global) ShowFault → List ℕ → Type 0
TokensGive (Ok tokens) text = (tokens.items ≡ tokens_of FromHash text) × (forbidden text ≡ None)
TokensGive (Err fault) text = TokensFail fault text
