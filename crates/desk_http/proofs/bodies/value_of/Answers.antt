use Rattle.std.proofs.Common.{◌≡◌, sym, refl, false}
use Rattle.std.specs.Str.{is_utf8}
use Rattle.std.proofs.lemmas.Bool.{false_from_ne_true}
use Rattle.std.proofs.lemmas.Str.{is_utf8-from_IsUtf8, IsUtf8-from_is_utf8}
use Rattle.desk_http.proofs.bodies.value_of.Goals as goal

pub returns-in_default : goal.returns-in_default
returns-in_default c =
    let other : is_utf8 c.args.body.now ≡ false = false_from_ne_true (is_utf8 c.args.body.now) (λ h. c.in_default.ensures.cases.0 (IsUtf8-from_is_utf8 c.args.body.now h)) in
    rw other refl

pub returns-in-Ok-from_str : goal.returns-in-Ok-from_str
returns-in-Ok-from_str c =
    rw (is_utf8-from_IsUtf8 c.args.body.now c.in-Ok.ensures.cases.1, ← c.in-Ok.ensures.cases.0) (sym c.in-Ok-from_str.ensures.ok)
