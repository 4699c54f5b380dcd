-- What a request asks the desk for, or why it is answered before its command.
use Rattle.std.specs.Prelude.{◌≡◌, ⊤, ◌⊎◌, ℕ, nat_le, if◌then◌else◌, List, length, take, map, codes, Option, Some, None, Result, Ok, Err}
use Rattle.std.specs.Str.{bytes_eq}
use Rattle.httparse.specs.Grammar.{RequestHead}
use Rattle.httparse.specs.Spans.{name_and_value}
use Rattle.minute_line.specs.declared.dates.Monday.{Monday}
use Rattle.desk_core.specs.declared.commands.Command.{Command}
use Rattle.desk_core.specs.declared.commands.Command.TheVariants as ask
use Rattle.desk_words.specs.Asks.{usual_limits}
use Rattle.desk_http.specs.declared.early.Verb.{Verb}
use Rattle.desk_http.specs.declared.early.Verb.TheVariants.{Get, Post}
use Rattle.desk_http.specs.declared.early.Early.{Early}
use Rattle.desk_http.specs.declared.early.Early.TheVariants.{Bad, Lost, Method}
use Rattle.desk_http.specs.declared.early.Halt.{Halt}
use Rattle.desk_http.specs.declared.early.Halt.TheVariants as halt
use Rattle.desk_http.specs.declared.routes.Target.{Target}
use Rattle.desk_http.specs.declared.routes.Target.TheVariants.{Plan, Check, Publish, Show, Export}
use Rattle.desk_http.specs.declared.requests.Opening.{Opening}
use Rattle.desk_http.specs.Heads.{HasHead, HasNoHead}
use Rattle.desk_http.specs.Routes.{target_of, verb_of}
use Rattle.desk_http.specs.Bodies.{Header, length_said, publication_in}

-- a step of a request came to this value or to this early answer, as said, unless memory was wanted
abbrev pub Says : {A B : Type 0} → (A → B) → Result A Halt → Result B Early → Type 0
Says view (Ok value) said = said ≡ Ok (view value)
Says view (Err (halt.Early early)) said = said ≡ Err early
Says view (Err halt.Memory) said = ⊤

infixl 10 ◌>>=◌
-- what comes next, unless the request is answered early
abbrev pub ◌>>=◌ : {A B : Type 0} → Result A Early → (A → Result B Early) → Result B Early
(Ok x) >>= next = next x
(Err early) >>= next = Err early

-- the name of a method
abbrev pub method_of : Verb → List ℕ
method_of Get = codes "GET"
method_of Post = codes "POST"

-- the length of the body; none is read where something is got
abbrev pub body_length : Verb → List Header → Result ℕ Early
body_length Get headers = Ok 0
body_length Post headers = length_said headers

-- what a head opens, by what its target names: the method is the route's, and the headers say how long the body is
abbrev pub opening_at : Option Target → List ℕ → List Header → Result Opening Early
opening_at None method headers = Err Lost
opening_at (Some target) method headers =
    if bytes_eq (method_of (verb_of target)) method
    then (body_length (verb_of target) headers >>= λ n. Ok (record { target = target; length = n }))
    else Err (Method (verb_of target))

-- what a head opens
abbrev pub opening_of : List ℕ → List ℕ → List Header → Result Opening Early
opening_of method target headers = opening_at (target_of target) method headers

-- the body, where all of it came
abbrev pub body_of : ℕ → List ℕ → Result (List ℕ) Early
body_of n rest = if nat_le n (length rest) then Ok (take n rest) else Err Bad

-- the publication that a body names
abbrev pub publication_said : Option (Monday × ℕ) → Result Command Early
publication_said None = Err Bad
publication_said (Some (monday, revision)) = Ok (ask.Publish monday revision)

-- the command of a target, with its body
abbrev pub command_of : Target → List ℕ → Result Command Early
command_of Plan body = Ok (ask.Plan body usual_limits)
command_of Check body = Ok (ask.Check body)
command_of Publish body = publication_said (publication_in body)
command_of (Show monday) body = Ok (ask.Show monday)
command_of (Export monday) body = Ok (ask.Export monday)

-- what is asked for where a head is open, by the bytes after it
abbrev pub asked_in : Opening → List ℕ → Result Command Early
asked_in opening rest = body_of opening.length rest >>= λ body. command_of opening.target body

-- what is asked for by a head's method, target and headers, and the bytes after it
abbrev pub asked_of : List ℕ → List ℕ → List Header → List ℕ → Result Command Early
asked_of method target headers rest = opening_of method target headers >>= λ opening. asked_in opening rest

-- what is asked for by a head and the bytes after it
abbrev pub asked_by : RequestHead → List ℕ → Result Command Early
asked_by head rest = asked_of head.method head.target (map name_and_value head.fields) rest

-- what a request asks for, or why it is answered before its command
abbrev pub Asks : List ℕ → Result Command Early → Type 0
Asks request asked =
    ((head : RequestHead) × (rest : List ℕ) × HasHead request head rest × (asked ≡ asked_by head rest))
    ⊎ (HasNoHead request × (asked ≡ Err Bad))
