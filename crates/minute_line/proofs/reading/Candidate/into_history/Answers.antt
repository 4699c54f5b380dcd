use Rattle.minute_line.specs.Tokens.{parts_of}
use Rattle.minute_line.proofs.Held.{holds, past_is_line}
use Rattle.minute_line.proofs.reading.Candidate.into_history.Goals as goal

pub invariant_of-result : goal.invariant_of-result
invariant_of-result c = record { shape = past_is_line c.args.self.stints (holds (parts_of c.args.self) c.requires).shape }

pub invariant_of-result-2-clause-rest : goal.invariant_of-result-2-clause-rest
invariant_of-result-2-clause-rest c = (holds (parts_of c.args.self) c.requires).rest

pub invariant_of-result-2-clause-shape : goal.invariant_of-result-2-clause-shape
invariant_of-result-2-clause-shape c = (holds (parts_of c.args.self) c.requires).shape

pub invariant_of-result-2-clause-total : goal.invariant_of-result-2-clause-total
invariant_of-result-2-clause-total c = (holds (parts_of c.args.self) c.requires).total

pub invariant_of-result-2-clause-run : goal.invariant_of-result-2-clause-run
invariant_of-result-2-clause-run c = (holds (parts_of c.args.self) c.requires).run

pub invariant_of-result-2-clause-drive : goal.invariant_of-result-2-clause-drive
invariant_of-result-2-clause-drive c = (holds (parts_of c.args.self) c.requires).drive

pub invariant_of-result-2-clause-weeks : goal.invariant_of-result-2-clause-weeks
invariant_of-result-2-clause-weeks c = (holds (parts_of c.args.self) c.requires).weeks

pub invariant_of-result-2-clause-debt : goal.invariant_of-result-2-clause-debt
invariant_of-result-2-clause-debt c = (holds (parts_of c.args.self) c.requires).debt

pub invariant_of-result-2-clause-deadline : goal.invariant_of-result-2-clause-deadline
invariant_of-result-2-clause-deadline c = (holds (parts_of c.args.self) c.requires).deadline

pub invariant_of-result-2-clause-no_debt : goal.invariant_of-result-2-clause-no_debt
invariant_of-result-2-clause-no_debt c = (holds (parts_of c.args.self) c.requires).no_debt
