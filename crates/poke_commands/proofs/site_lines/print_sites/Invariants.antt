use Rattle.std.proofs.Common.{take, Ok}
use Rattle.std.specs.List.{flat_map}
use Rattle.poke_base.specs.declared.host.WriteFail.{WriteFail}
use Rattle.poke_base.specs.Host.{Prints}
use Rattle.module_image.specs.SiteLine.{line_of}
use Rattle.poke_commands.proofs.site_lines.print_sites.Given as goal

abbrev pub invariant-loop-site : goal.invariant-loop-site
invariant-loop-site g l =
    Prints {T = Unit {0}} {E = WriteFail} (g.H.Host.outside l.initial.host) (g.H.Host.outside l.host)
    (flat_map (line_of l.base l.text) (take l.site-index l.site-items))
    (Ok tt)
