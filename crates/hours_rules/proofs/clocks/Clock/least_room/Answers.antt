use Rattle.std.proofs.Common.{◌∙◌, sym}
use Rattle.hours_rules.proofs.Least.{least_duty, least_work, least_drive}
use Rattle.hours_rules.proofs.clocks.Clock.least_room.Goals as goal

pub returns-then-not-is_working : goal.returns-then-not-is_working
returns-then-not-is_working c =
    c.min-duty.ensures ∙ least_duty c.args.self.now c.args.ended.now c.args.mark c.args.kind c.args.minutes c.duty_room.result
    (sym c.is_working.ensures ∙ c.if-not-is_working.true) c.requires.few c.duty_room.ensures

pub returns-then-not-is_drive : goal.returns-then-not-is_drive
returns-then-not-is_drive c =
    rw (c.min-work.ensures, c.min-duty.ensures, c.work_room.ensures)
    (least_work c.args.self.now c.args.ended.now c.args.mark c.args.kind c.args.minutes c.duty_room.result
    (sym c.is_working.ensures ∙ c.if-not-is_working.false) (sym c.is_drive.ensures ∙ c.if-not-is_drive.true) c.requires.few c.duty_room.ensures)

pub returns : goal.returns
returns c =
    rw (c.min.ensures, c.min-work.ensures, c.min-duty.ensures, c.work_room.ensures, c.drive_room.ensures)
    (least_drive c.args.self.now c.args.ended.now c.args.mark c.args.kind c.args.minutes c.duty_room.result
    (sym c.is_drive.ensures ∙ c.if-not-is_drive.false) c.requires.few c.duty_room.ensures)
