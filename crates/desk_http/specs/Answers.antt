-- The bytes of an answer.
use Rattle.std.specs.Prelude.{◌≡◌, ℕ, List, [], ◌∷◌, ◌++◌, length, codes}
use Rattle.std.specs.Fmt.{decimal}
use Rattle.desk_http.specs.declared.answers.Answer.{Answer}
use Rattle.desk_http.specs.declared.answers.Kind.{Kind}
use Rattle.desk_http.specs.declared.answers.Kind.TheVariants.{Done, Bad, Lost, Method, Conflict, Long, Fault, NoMemory}
use Rattle.desk_http.specs.declared.early.Early.{Early}
use Rattle.desk_http.specs.declared.early.Early.TheVariants as early
use Rattle.desk_http.specs.Requests.{method_of}

-- the number of a status
abbrev pub code_of : Kind → ℕ
code_of Done = 200
code_of Bad = 400
code_of Lost = 404
code_of (Method verb) = 405
code_of Conflict = 409
code_of Long = 413
code_of Fault = 503
code_of NoMemory = 507

-- the phrase of a status
abbrev pub phrase_of : Kind → List ℕ
phrase_of Done = codes "OK"
phrase_of Bad = codes "Bad Request"
phrase_of Lost = codes "Not Found"
phrase_of (Method verb) = codes "Method Not Allowed"
phrase_of Conflict = codes "Conflict"
phrase_of Long = codes "Too Large"
phrase_of Fault = codes "Unavailable"
phrase_of NoMemory = codes "No Memory"

-- the kind of an early answer
abbrev pub kind_of : Early → Kind
kind_of early.Bad = Bad
kind_of early.Lost = Lost
kind_of (early.Method verb) = Method verb
kind_of early.Long = Long

-- the line of an early answer's body
abbrev pub early_line : Early → List ℕ
early_line early.Bad = codes "bad request\n"
early_line early.Lost = codes "not found\n"
early_line (early.Method verb) = codes "method\n"
early_line early.Long = codes "too long\n"

-- a line of a head
abbrev pub line : List ℕ → List ℕ
line text = text ++ 13 ∷ 10 ∷ []

-- the line of the status
abbrev pub status_line : Kind → List ℕ
status_line kind = line (codes "HTTP/1.1 " ++ decimal (code_of kind) ++ 32 ∷ phrase_of kind)

-- the line of the body's length
abbrev pub length_line : ℕ → List ℕ
length_line n = line (codes "content-length: " ++ decimal n)

-- the line of the method that the route has, where another was asked for
abbrev pub allowed_line : Kind → List ℕ
allowed_line (Method verb) = line (codes "allow: " ++ method_of verb)
allowed_line kind = []

-- the head of an answer with a body of that length
abbrev pub head_text : Kind → ℕ → List ℕ
head_text kind n =
    status_line kind ++ line (codes "content-type: text/plain") ++ length_line n ++ allowed_line kind
    ++ line (codes "connection: close") ++ line []

-- the answer is of that kind, with that text as its body
pub record HasBody (kind : Kind) (text : List ℕ) (answer : Answer) : Type 0 where
  pub status : answer.status ≡ code_of kind
  pub head : answer.head ≡ head_text kind (length text)
  pub body : answer.body ≡ text
