-- The number of the label's level is read.
use Rattle.duty_outlook.proofs.Gains.{label-gain-later, no-sooner, cast-gain}
use Rattle.duty_outlook.proofs.outlooks.Outlook.gain.Goals as goal

pub returns : goal.returns
returns c = record {
  gain = λ case driver pairs prices partial o l.
      cast-gain case driver pairs prices partial _ c.min.result c.cents_of.result c.min.ensures c.cents_of.ensures
      (label-gain-later case driver pairs prices c.args.self.now c.args.label.now partial partial c.load.result c.level-level.result c.number_at.result
      c.min.result o l (no-sooner case driver prices partial) c.load.ensures c.level-level.ensures.low (c.number_at.ensures case.week prices o.filled)
      c.min.ensures);
  later = λ case driver pairs prices partial later o l s.
      cast-gain case driver pairs prices later _ c.min.result c.cents_of.result c.min.ensures c.cents_of.ensures
      (label-gain-later case driver pairs prices c.args.self.now c.args.label.now partial later c.load.result c.level-level.result c.number_at.result
      c.min.result o l s c.load.ensures c.level-level.ensures.low (c.number_at.ensures case.week prices o.filled) c.min.ensures);
}
