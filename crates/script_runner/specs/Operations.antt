-- What the events of a run do to tracers, as told by the lines that they show.
use Rattle.std.specs.Prelude.{◌&&◌, ℕ, Bool, true, false, if◌then◌else◌, List, [], ◌∷◌, slice_get, Option, Some, None}
use Rattle.std.specs.List.{flat_map}
use Rattle.module_parts.specs.declared.site.Site.{Site}
use Rattle.module_image.specs.Layout.{site_at}
use Rattle.module_image.specs.Module.{Module, is_trace}
use Rattle.switching.specs.Said.{TraceLine, Opens, Ends, Drops, Passes, Outs, Stops}
use Rattle.x64_subset.specs.declared.insn.Insn.{Insn}
use Rattle.x64_subset.specs.declared.insn.Insn.TheVariants.{Call}
use Rattle.script_runner.specs.declared.acted.Acted.{Acted}
use Rattle.script_runner.specs.declared.acted.Acted.TheVariants as acted

-- each tracer sees that a processor called a traced site; or the tracer at a place is dropped
pub data Operation : Type 0 where
  Hits : ℕ → ℕ → Operation
  DropsAt : ℕ → Operation

-- a call at a trace site is a hit
abbrev pub is_call : Insn → Bool
is_call (Call target) = true
is_call _ = false

abbrev pub is_trace_site : Option Site → Bool
is_trace_site None = false
is_trace_site (Some site) = is_trace site.kind

abbrev pub site_of : Module → Option ℕ → Option Site
site_of m None = None
site_of m (Some number) = slice_get m.sites number

abbrev pub is_hit : Module → ℕ → Insn → Bool
is_hit m at insn = is_call insn && is_trace_site (site_of m (site_at m.sites at))

abbrev pub operation_of : Module → TraceLine → List Operation
operation_of m (Opens update sites) = []
operation_of m (Ends update ending) = []
operation_of m (Drops place) = DropsAt place ∷ []
operation_of m (Passes c at insn) = if is_hit m at insn then Hits c at ∷ [] else []
operation_of m (Outs c port value) = []
operation_of m (Stops c life) = []

abbrev pub operations : Module → List TraceLine → List Operation
operations m lines = flat_map (operation_of m) lines

-- what an event is answered to have done
abbrev pub operations_of : Acted → List Operation
operations_of acted.Plain = []
operations_of (acted.Hit cpu site) = Hits cpu site ∷ []
operations_of (acted.Drop place) = DropsAt place ∷ []
