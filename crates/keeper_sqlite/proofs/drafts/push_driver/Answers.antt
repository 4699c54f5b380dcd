use Rattle.std.proofs.Common.{◌≡◌, false, ap, sym, ◌∙◌}
use Rattle.std.specs.List.{list_any}
use Rattle.std.specs.Str.{bytes_eq}
use Rattle.keeper_sqlite.proofs.Named.{named_more}
use Rattle.keeper_sqlite.proofs.drafts.push_driver.Goals as goal

pub returns : goal.returns
returns c =
    let new : list_any (λ d. bytes_eq d.name c.args.driver.name) c.args.drivers.now ≡ false =
    sym (ap (list_any (λ d. bytes_eq d.name c.args.driver.name)) c.as_slice.ensures) ∙ sym c.is_named.ensures ∙ c.if-is_named.false in
    record { once = rw c.in_ok-push.ensures.ok (named_more c.args.drivers.now c.args.driver c.requires.once new) }
