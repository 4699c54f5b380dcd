use Rattle.std.proofs.Common.{◌≡◌, ◌≤◌, take, fold}
use Rattle.minute_line.specs.Tokens.{take_byte, nothing_read}
use Rattle.minute_line.proofs.tokens.tokens.Given as goal

abbrev pub invariant-loop-byte : goal.invariant-loop-byte
invariant-loop-byte l = record {
  tokens : l.done ≡ (fold take_byte nothing_read (take l.byte-index l.text)).tokens;
  letter : l.letter ≡ (fold take_byte nothing_read (take l.byte-index l.text)).letter;
  value : l.value ≡ (fold take_byte nothing_read (take l.byte-index l.text)).value;
  small : l.value ≤ 11000000;
}
