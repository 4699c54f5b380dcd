-- What a name is, and where one stands among others.
use Rattle.std.specs.Prelude.{ℕ, Bool, not, ◌&&◌, ◌||◌, ◌==◌, nat_le, Option, List, length}
use Rattle.std.specs.List.{list_any, list_all, position_from}
use Rattle.std.specs.Str.{bytes_eq}

-- an ASCII character from `!` to `~`, without comma and double quote
abbrev pub is_name_byte : ℕ → Bool
is_name_byte byte = (nat_le 33 byte && nat_le byte 126) && not ((byte == 44) || (byte == 34))

-- a name is 1 to 32 such bytes
abbrev pub is_name : List ℕ → Bool
is_name name = (nat_le 1 (length name) && nat_le (length name) 32) && list_all is_name_byte name

-- it is one of the names
abbrev pub is_among : List (List ℕ) → List ℕ → Bool
is_among names name = list_any (bytes_eq name) names

-- the number of a name: the place, from 0, of the first that is the same among the names
abbrev pub number_of : List (List ℕ) → List ℕ → Option ℕ
number_of names name = position_from (bytes_eq name) 0 names
