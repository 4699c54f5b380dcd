-- The body of a request: how long its headers say that it is, and what a publication's says.
use Rattle.std.specs.Prelude.{ℕ, nat_le, if◌then◌else◌, Bool, List, [], ◌∷◌, map, codes, Option, Some, None, option_map, option_and_then, Result, Ok, Err}
use Rattle.std.specs.Str.{bytes_eq, is_utf8}
use Rattle.std.specs.Char.{to_ascii_lowercase}
use Rattle.std.specs.Int.{is_in_range}
use Rattle.serde_json.specs.Data.{Data}
use Rattle.serde_json.specs.Find.{get, as_number, as_u64, as_str}
use Rattle.serde_json.specs.Read.{read}
use Rattle.minute_line.specs.declared.dates.Monday.{Monday}
use Rattle.desk_csv.specs.declared.reading.TheConstants.{TEXT_LIMIT}
use Rattle.desk_csv.specs.Fields.{digits_number, monday_said}
use Rattle.desk_http.specs.declared.early.Early.{Early}
use Rattle.desk_http.specs.declared.early.Early.TheVariants.{Bad, Long}

-- a header: its name, and its value without the spaces and tabs around it
abbrev pub Header : Type 0
Header = List ℕ × List ℕ

-- two names are the same but for the case of ASCII letters
abbrev pub is_named : List ℕ → List ℕ → Bool
is_named name other = bytes_eq (map to_ascii_lowercase other) (map to_ascii_lowercase name)

-- the values of the headers of a name
abbrev pub values_of : List ℕ → List Header → List (List ℕ)
values_of name [] = []
values_of name (header ∷ headers) = if is_named name header.0 then header.1 ∷ values_of name headers else values_of name headers

-- the one value of a list of one
abbrev pub lone : List (List ℕ) → Option (List ℕ)
lone [] = None
lone (value ∷ []) = Some value
lone (value ∷ other ∷ values) = None

-- the value of the header of a name, where there is just one
abbrev pub lone_value : List ℕ → List Header → Option (List ℕ)
lone_value name headers = lone (values_of name headers)

-- a length of at most so many bytes as a text may have: 1,048,576
abbrev pub length_within : ℕ → Result ℕ Early
length_within n = if nat_le n TEXT_LIMIT then Ok n else Err Long

-- the length that a value says: 1 to 10 digits
abbrev pub length_read : Option ℕ → Result ℕ Early
length_read None = Err Bad
length_read (Some n) = length_within n

-- the length that the value of `content-length` says
abbrev pub length_stated : Option (List ℕ) → Result ℕ Early
length_stated None = Err Bad
length_stated (Some value) = length_read (digits_number value)

-- the same, unless there is a `transfer-encoding`
abbrev pub length_unless : List (List ℕ) → Option (List ℕ) → Result ℕ Early
length_unless [] stated = length_stated stated
length_unless (coding ∷ codings) stated = Err Bad

-- the length that the headers say of the body
abbrev pub length_said : List Header → Result ℕ Early
length_said headers = length_unless (values_of (codes "transfer-encoding") headers) (lone_value (codes "content-length") headers)

-- a revision: 1 to 1,000,000
abbrev pub revision_within : ℕ → Option ℕ
revision_within n = if is_in_range 1 1000000 n then Some n else None

-- the revision of a value: a whole number
abbrev pub revision_of : Data → Option ℕ
revision_of value = option_and_then revision_within (option_and_then as_u64 (option_and_then as_number (get (codes "revision") value)))

-- the Monday of a value: a text
abbrev pub monday_in : Data → Option Monday
monday_in value = option_and_then monday_said (option_and_then as_str (get (codes "monday") value))

-- the week and the revision of a value
abbrev pub publication_of : Data → Option (Monday × ℕ)
publication_of value = option_and_then (λ monday. option_map (λ revision. (monday, revision)) (revision_of value)) (monday_in value)

-- the value that a body is: a text in JSON
abbrev pub value_of : List ℕ → Option Data
value_of body = if is_utf8 body then read body else None

-- the week and the revision that a body names
abbrev pub publication_in : List ℕ → Option (Monday × ℕ)
publication_in body = option_and_then publication_of (value_of body)
