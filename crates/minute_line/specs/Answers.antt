-- What a call that may want memory answers.
use Rattle.std.specs.Prelude.{◌≡◌, ◌≢◌, Result, Ok, Err}

-- the answer is what its definition says, unless memory was wanted: a value as `view` sees it, or the same error
abbrev pub Gives : {A B E : Type 0} → E → (A → B) → Result A E → Result B E → Type 0
Gives memory view (Ok value) said = said ≡ Ok (view value)
Gives memory view (Err error) said = error ≢ memory → said ≡ Err error
