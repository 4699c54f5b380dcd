-- The value less the gain is no less than the known one.
use Rattle.std.proofs.Common.{arith}
use Rattle.std.proofs.lemmas.Int.{ints}
use Rattle.duty_outlook.proofs.outlooks.Outlook.is_hopeless.Goals as goal

pub returns : goal.returns
returns c = record {
  hopeless = λ h case driver pairs prices partial o l more w.
      let gain = c.gain.ensures.gain case driver pairs prices partial o l more w in
      let least = c.is_at_least.ensures h in
      let value = l.value in
      omega (arith, ints, gain, least, value);
  later = λ h case driver pairs prices partial later o l s more w.
      let gain = c.gain.ensures.later case driver pairs prices partial later o l s more w in
      let least = c.is_at_least.ensures h in
      let value = l.value in
      let most = s.value in
      omega (arith, ints, gain, least, value, most);
}
