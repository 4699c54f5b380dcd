-- How a history's text is read: as tokens, each a letter and a number, with a space or a comma after each but the last.
-- Nothing is refused here: what comes out is written again, and compared.
use Rattle.std.specs.Prelude.{ℕ, zero, suc, ◌+◌, ◌-◌, ◌*◌, Bool, ◌&&◌, ◌||◌, if◌then◌else◌, List, [], ◌∷◌, ◌++◌, length, take, drop, fold, nat_le, nat_eq}
use Rattle.minute_line.specs.declared.marks.Mark.{Mark}
use Rattle.minute_line.specs.declared.marks.Mark.TheVariants.{Drive, Work, Ready, Off}
use Rattle.minute_line.specs.declared.marks.Kind.{Kind}
use Rattle.minute_line.specs.declared.marks.Kind.TheVariants.{Plain, Daily}
use Rattle.minute_line.specs.declared.marks.Stint.{Stint}
use Rattle.minute_line.specs.declared.tokens.Token.{Token}
use Rattle.minute_line.specs.declared.reading.Candidate.{Candidate}
use Rattle.minute_line.specs.Histories.{Fields}

-- the tokens that are done, and the letter (0 for none) and the number of the one that is being read
pub record Reading : Type 0 where
  pub tokens : List Token
  pub letter : ℕ
  pub value : ℕ

-- a token of that letter and that number
abbrev pub token_of : ℕ → ℕ → Token
token_of letter value = record { letter = letter; value = value }

-- a space or a comma
abbrev pub is_separator : ℕ → Bool
is_separator b = nat_eq b 32 || nat_eq b 44

-- an ASCII digit
abbrev pub is_digit : ℕ → Bool
is_digit b = nat_le 48 b && nat_le b 57

-- a number with one more digit; one above 1,000,000 stays, since no number of a history is larger
abbrev pub grown : ℕ → ℕ → ℕ
grown value b = if nat_le value 1000000 then 10 * value + (b - 48) else value

-- one more byte: a separator ends the token, a digit is the number's, any other byte is the letter
abbrev pub take_byte : Reading → ℕ → Reading
take_byte r b =
    if is_separator b then record { tokens = r.tokens ++ token_of r.letter r.value ∷ []; letter = 0; value = 0 }
    else (if is_digit b then record { tokens = r.tokens; letter = r.letter; value = grown r.value b }
    else record { tokens = r.tokens; letter = b; value = r.value })

-- nothing is read yet
abbrev pub nothing_read : Reading
nothing_read = record { tokens = []; letter = 0; value = 0 }

-- the tokens, with the last one
abbrev pub finish : Reading → List Token
finish r = r.tokens ++ token_of r.letter r.value ∷ []

-- the tokens of a text
abbrev pub tokens_of : List ℕ → List Token
tokens_of text = finish (fold take_byte nothing_read text)

-- the number of the token at a place, 0 where there is none
abbrev pub value_at : List Token → ℕ → ℕ
value_at [] i = 0
value_at (t ∷ ts) zero = t.value
value_at (t ∷ ts) (suc i) = value_at ts i

-- the mark that a letter stands for, Off where it stands for none
abbrev pub mark_of : ℕ → Mark
mark_of letter = if nat_eq letter 68 then Drive else (if nat_eq letter 87 then Work else (if nat_eq letter 82 then Ready else Off))

-- the kind that a letter stands for
abbrev pub kind_of : ℕ → Kind
kind_of letter = if nat_eq letter 78 then Daily else Plain

-- the stint that a token stands for
abbrev pub stint_of : Token → Stint
stint_of t = record { mark = mark_of t.letter; minutes = t.value; kind = kind_of t.letter }

-- the stints of tokens, without the minus sign that stands for none
abbrev pub stints_of : List Token → List Stint
stints_of [] = []
stints_of (t ∷ ts) = if nat_eq t.letter 45 then stints_of ts else stint_of t ∷ stints_of ts

-- two numbers, sixteen numbers, a number and the stints, and the two numbers of the debt
abbrev pub fields_by : List Token → List Token → Fields
fields_by ts debt = record {
  prev_weekly = value_at ts 0;
  prev_drive = value_at ts 1;
  work16 = value_at ts 2 ∷ value_at ts 3 ∷ value_at ts 4 ∷ value_at ts 5 ∷ value_at ts 6 ∷ value_at ts 7 ∷ value_at ts 8 ∷ value_at ts 9
      ∷ value_at ts 10 ∷ value_at ts 11 ∷ value_at ts 12 ∷ value_at ts 13 ∷ value_at ts 14 ∷ value_at ts 15 ∷ value_at ts 16 ∷ value_at ts 17 ∷ [];
  open_off = value_at ts 18;
  stints = stints_of (drop 19 ts);
  owed = value_at debt 0;
  due = value_at debt 1;
}

-- the only fields whose text these tokens could be: the last two are the debt
abbrev pub candidate_of : List Token → Fields
candidate_of ts = fields_by (take (length ts - 2) ts) (drop (length ts - 2) ts)

-- the fields that were read
abbrev pub parts_of : Candidate → Fields
parts_of c = record {
  prev_weekly = c.prev_weekly;
  stints = c.stints;
  open_off = c.open_off;
  prev_drive = c.prev_drive;
  work16 = c.work16;
  owed = c.owed;
  due = c.due;
}
