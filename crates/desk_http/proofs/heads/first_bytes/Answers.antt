use Rattle.std.proofs.Common.{sym, arith}
use Rattle.desk_http.proofs.Firsts.{take_all}
use Rattle.desk_http.proofs.heads.first_bytes.Goals as goal

pub returns : goal.returns
returns c = sym (take_all 8192 c.args.request.now (omega arith))
