-- At most nine bytes are two digits each.
use Rattle.std.proofs.Common.{length, ap, arith, length-append}
use Rattle.hex.proofs.HexLemmas.{length-encode_with}
use Rattle.run_journal.proofs.spelling.put_fetched.Goals as goal

pub returns-in-At-clause-short : goal.returns-in-At-clause-short
returns-in-At-clause-short c =
    let before = simp length-append at (ap length c.put_text.ensures) in
    let after = simp (length-append, length-encode_with) at (ap length c.put_bytes.ensures) in
    omega arith
