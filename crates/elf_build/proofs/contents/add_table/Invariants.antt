use Rattle.std.proofs.Common.{◌≡◌, ◌≤◌, ◌+◌, ◌-◌, ◌*◌, ◌++◌, true, drop, length}
use Rattle.std.specs.List.{list_all}
use Rattle.elf_build.specs.Fits.{site_fits}
use Rattle.elf_build.specs.File.{entry_bytes, table_at, table_bytes, table_from}
use Rattle.elf_build.proofs.contents.add_table.Given as goal

abbrev pub invariant-loop-site : goal.invariant-loop-site
invariant-loop-site l = record {
  entries :
      l.out.items
      ++ table_from (entry_bytes l.table l.plan) (table_at l.table l.plan + (length l.out.items - length l.initial.out.items)) (drop l.site-index l.plan.sites.items)
      ≡ l.initial.out.items ++ table_bytes l.table l.plan;
  longer : length l.initial.out.items ≤ length l.out.items;
  short : length l.out.items ≤ length l.initial.out.items + 16 * l.site-index;
  fits : list_all (site_fits l.plan) (drop l.site-index l.plan.sites.items) ≡ true;
}
