use Rattle.std.proofs.Common.{arith}
use Rattle.x64_subset.proofs.Answered.{bytes_at}
use Rattle.cpu_core.proofs.Told.{prefixes-last}
use Rattle.cpu_core.proofs.fetch.has_short_prefixes.Goals as goal

pub returns-in-Some : goal.returns-in-Some
returns-in-Some c =
    let fit = bytes_at c.args.bytes.now (λ i. omega (arith, c.type_inv.bytes i)) in
    let same = prefixes-last c.args.at c.args.bytes.now c.in-Some.rest.now c.in-Some.field-0-0.now fit c.in-Some.ensures.cases.0 in
    (λ h. same.0 (c.is_short.ensures.0 h), λ h. c.is_short.ensures.1 (same.1 h))
