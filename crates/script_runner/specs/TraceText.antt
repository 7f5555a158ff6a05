-- The lines of a trace, spelt.
use Rattle.std.specs.Prelude.{ℕ, List, [], ◌∷◌, ◌++◌, codes, slice_get, Option, Some, None}
use Rattle.std.specs.List.{flat_map}
use Rattle.cpu_core.specs.Lines.{out_line, pass_line, stop_line}
use Rattle.key_state.specs.OutcomeLine.{outcome_line}
use Rattle.module_parts.specs.declared.site.Site.{Site}
use Rattle.module_image.specs.Module.{Module}
use Rattle.module_image.specs.SiteLine.{line_of}
use Rattle.poke_base.specs.Number.{decimal}
use Rattle.switching.specs.Said.{TraceLine, Opens, Ends, Drops, Passes, Outs, Stops}

-- `update U begin N`
abbrev pub begin_line : ℕ → ℕ → List ℕ
begin_line update sites = codes "update " ++ decimal update ++ codes " begin " ++ decimal sites ++ 10 ∷ []

-- `drop T`
abbrev pub drop_line : ℕ → List ℕ
drop_line place = codes "drop " ++ decimal place ++ 10 ∷ []

abbrev pub line_text : TraceLine → List ℕ
line_text (Opens update sites) = begin_line update sites
line_text (Ends update ending) = outcome_line update ending
line_text (Drops place) = drop_line place
line_text (Passes c at insn) = pass_line c at insn
line_text (Outs c port value) = out_line c port value
line_text (Stops c life) = stop_line c life

abbrev pub trace_text : List TraceLine → List ℕ
trace_text lines = flat_map line_text lines

-- the line of the site with a number, with what it holds in a text of the module
abbrev pub line_of_found : ℕ → List ℕ → Option Site → List ℕ
line_of_found base text None = []
line_of_found base text (Some site) = line_of base text site

abbrev pub numbered_line : Module → List ℕ → ℕ → List ℕ
numbered_line m text number = line_of_found m.base text (slice_get m.sites number)
