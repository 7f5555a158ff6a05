-- The trace of a run: what its events show, and then what the sites hold.
use Rattle.std.specs.Prelude.{ℕ, List, ◌++◌}
use Rattle.module_image.specs.Module.{Module}
use Rattle.module_image.specs.SiteLine.{site_lines}
use Rattle.run_journal.specs.declared.event.Event.{Event}
use Rattle.script_runner.specs.TraceText.{trace_text}
use Rattle.switching.specs.Journal.{after, lines}
use Rattle.switching.specs.Laws.{held_text}
use Rattle.switching.specs.Said.{said}
use Rattle.switching.specs.State.{State}

-- what one event shows, and what events show one after the other
abbrev pub event_text : Module → State → Event → List ℕ
event_text m s e = trace_text (said m s e)

abbrev pub events_text : Module → State → List Event → List ℕ
events_text m s events = trace_text (lines m s events)

-- a line for each site, with what it holds
abbrev pub sites_text : Module → State → List ℕ
sites_text m s = site_lines m.base (held_text m s) m.sites

-- the whole
abbrev pub trace : Module → State → List Event → List ℕ
trace m s events = events_text m s events ++ sites_text m (after m s events)
