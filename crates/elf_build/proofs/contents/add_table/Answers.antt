use Rattle.std.proofs.Common.{◌≡◌, ◌<◌, ◌+◌, ◌-◌, ◌∙◌, ◌++◌, ℕ, true, false, List, length, drop, slice_index_or, sym, ap, subst, arith}
use Rattle.std.specs.List.{list_all}
use Rattle.elf_build.specs.declared.plan.PlanSite.{PlanSite}
use Rattle.elf_build.specs.declared.plan.PlanSite.TheVariants.{Jump}
use Rattle.elf_build.specs.Fits.{site_fits}
use Rattle.elf_build.specs.File.{entry_bytes, table_at}
use Rattle.elf_build.proofs.Appends.{all-after, all-next, entry-more}
use Rattle.elf_build.proofs.contents.add_table.Goals as goal

pub add_entry-requires-clause-site : goal.add_entry-requires-clause-site
add_entry-requires-clause-site c =
    all-next (site_fits c.args.plan.now) c.as_slice-site-items.result.now c.loop-site.site-index (Jump 0 0 0 false) c.loop-site-test.true
    (subst (λ (sites : List PlanSite). list_all (site_fits c.args.plan.now) (drop c.loop-site.site-index sites) ≡ true) (sym c.as_slice-site-items.ensures.value) c.loop-site.invariant.fits)

pub loop-site-preserved : goal.loop-site-preserved
loop-site-preserved c =
    let added = c.in_ok-add_entry.ensures in
    let value = c.as_slice-site-items.ensures.value in
    let below = subst (λ (sites : List PlanSite). c.loop-site.site-index < length sites) value c.loop-site-test.true in
    let start = c.len-start.ensures in
    let len = c.len.ensures in
    let at = c.table_at-at.ensures in
    let field : c.table_at-at.result + (c.len.result - c.len-start.result) ≡ table_at c.args.table c.args.plan.now + (length c.loop-site.out.items - length c.args.out.now.items) = cc in
    record {
      entries =
          entry-more (entry_bytes c.args.table c.args.plan.now) (table_at c.args.table c.args.plan.now) (length c.args.out.now.items) c.loop-site.site-index c.args.plan.now.sites.items (Jump 0 0 0 false) c.loop-site.out.items c.add_entry.new.out.items _ below c.loop-site.invariant.longer c.loop-site.invariant.entries
          (
          added.entry
          ∙ ap (λ (f : ℕ). c.loop-site.out.items ++ entry_bytes c.args.table c.args.plan.now f (slice_index_or c.as_slice-site-items.result.now c.loop-site.site-index (Jump 0 0 0 false))) field
          ∙ ap (λ (sites : List PlanSite). c.loop-site.out.items ++ entry_bytes c.args.table c.args.plan.now (table_at c.args.table c.args.plan.now + (length c.loop-site.out.items - length c.args.out.now.items)) (slice_index_or sites c.loop-site.site-index (Jump 0 0 0 false))) value
          );
      longer = let before = c.loop-site.invariant.longer in let more = added.longer in omega arith;
      short = let before = c.loop-site.invariant.short in let more = added.short in omega arith;
      fits = all-after (site_fits c.args.plan.now) c.args.plan.now.sites.items c.loop-site.site-index (Jump 0 0 0 false) below c.loop-site.invariant.fits;
    }
