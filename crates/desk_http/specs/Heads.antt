-- The head of a request, in the grammar of `httparse`.
use Rattle.std.specs.Prelude.{◌≡◌, ℕ, ◌≤◌, List, ◌++◌, length, map}
use Rattle.httparse.specs.Borrowed.{header_parts}
use Rattle.httparse.specs.Grammar.{ReadsRequest, RequestHead, print_request}
use Rattle.httparse.specs.Spans.{name_and_value}
use Rattle.desk_http.specs.declared.heads.Head.{Head}

-- the request begins with this head, which has at most 8,192 bytes and 32 headers; the rest comes after it
pub record HasHead (request : List ℕ) (head : RequestHead) (rest : List ℕ) : Type 0 where
  pub reads : ReadsRequest request head rest
  pub short : length (print_request head) ≤ 8192
  pub few : length head.fields ≤ 32

-- the request begins with no such head
abbrev pub HasNoHead : List ℕ → Type 0
HasNoHead request = (head : RequestHead) (rest : List ℕ) → ¬ (HasHead request head rest)

-- these are the head's method, its target, and the names and values of its headers
pub record IsPartsOf (head : RequestHead) (parts : Head) : Type 0 where
  pub method : parts.method.now ≡ head.method
  pub target : parts.target.now ≡ head.target
  pub headers : map header_parts parts.headers.now ≡ map name_and_value head.fields

-- more bytes bring no head that is not there
abbrev pub IsHeadSettled : List ℕ → Type 0
IsHeadSettled request = (more : List ℕ) (head : RequestHead) (rest : List ℕ) → HasHead (request ++ more) head rest → (there : List ℕ) × HasHead request head there
