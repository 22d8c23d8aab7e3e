-- Names.
use Rattle.std.specs.Prelude.{ℕ, Bool, false, not, ◌&&◌, ◌||◌, ◌==◌, List, [], ◌∷◌, length, nat_le, bytes_eq, codes}
use Rattle.std.specs.List.{list_all}
use Rattle.arrayvec.specs.ArrayVec.{ArrayVec}

-- the bytes of a name
abbrev pub Name : Type 0
Name = ArrayVec ℕ

-- what may stand in a name after its first byte: a lower-case letter, a digit or `_`
abbrev pub goes_in_name : ℕ → Bool
goes_in_name b = (nat_le 97 b && nat_le b 122) || (nat_le 48 b && nat_le b 57) || b == 95

-- bytes of which the first is a lower-case letter
abbrev pub begins_lower : List ℕ → Bool
begins_lower [] = false
begins_lower (b ∷ bs) = nat_le 97 b && nat_le b 122

-- 1 to 16 bytes, a lower-case letter first, then lower-case letters, digits and `_`; not `form` or `end`
abbrev pub is_name : List ℕ → Bool
is_name word =
    begins_lower word && list_all goes_in_name word && nat_le (length word) 16
    && not (bytes_eq word (codes "form")) && not (bytes_eq word (codes "end"))
