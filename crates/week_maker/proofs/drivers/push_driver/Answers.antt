use Rattle.std.proofs.Common.{[], ◌∷◌, codes, replicate, refl, ◌∙◌}
use Rattle.week_maker.specs.Rows.{driver_name}
use Rattle.week_maker.specs.MadeWeeks.{rest_end}
use Rattle.week_maker.proofs.GrowingText.{fields-at-once}
use Rattle.week_maker.proofs.drivers.push_driver.Goals as goal

pub returns : goal.returns
returns c =
    let name = driver_name c.args.driver in
    let driver = fields-at-once c.args.text.now c.push_driver_row.new.text (codes "driver") name (codes "24000,20000")
    (codes "24000" ∷ codes "20000" ∷ []) refl c.in_ok-push_driver_row.ensures in
    let rest = fields-at-once c.push_driver_row.new.text c.push_driver_row-2.new.text (codes "rest") name (codes "2026-02-28T00:00,2700")
    (rest_end ∷ codes "2700" ∷ []) refl c.in_ok-push_driver_row-2.ensures in
    let worked = fields-at-once c.push_driver_row-2.new.text c.push_driver_row-3.new.text (codes "worked") name
    (codes "0,0,0,0,0,0,0,0,0,0,0,0,0,0,0,0,0")
    (codes "0" ∷ replicate 16 (codes "0")) refl c.in_ok-push_driver_row-3.ensures in
    let past = fields-at-once c.push_driver_row-3.new.text c.push_driver_row-4.new.text (codes "past") name (codes "OFF,2880")
    (codes "OFF" ∷ codes "2880" ∷ []) refl c.in_ok-push_driver_row-4.ensures in
    past ∙ rw (worked, rest, driver) refl
