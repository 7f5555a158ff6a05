use Rattle.live_text.proofs.Phases.{in_table, of_the_form, were_there}
use Rattle.live_text.proofs.Breakpoints.{first_bytes}
use Rattle.live_text.proofs.laws.bytes_go_by_phases.Goals as goal

pub returns : goal.returns
returns c = record { table = in_table; others = of_the_form; breakpoints = first_bytes; caches = were_there }
