use Rattle.live_text.proofs.Places.{chunks_make}
use Rattle.live_text.proofs.Breakpoints.{three_requests, breakpoints_written}
use Rattle.live_text.proofs.laws.chunks_are_poked.Goals as goal

pub returns : goal.returns
returns c = record { requests = three_requests; versions = chunks_make; breakpoints = breakpoints_written }
