use Rattle.std.proofs.Common.{ℕ, rules}
use Rattle.std.proofs.lemmas.List.Sorted.{answers_always}
use Rattle.insn_forms.specs.declared.forms.Form.TheVariants.{Nop2}
use Rattle.live_text.specs.declared.plan.LiveSite.{LiveSite}
use Rattle.live_engine.specs.Versions.{IsSiteAt}
use Rattle.live_engine.proofs.Lookups.{site-missing, site-there}
use Rattle.live_engine.proofs.lookup.site_at.Goals as goal

pub returns-in-Ok-clause-found : goal.returns-in-Ok-clause-found
returns-in-Ok-clause-found c =
    let facts = c.binary_search_by_key.ensures in
    let here = site-there c.deref.result.now c.args.plan.now.sites.items c.args.at c.in-Ok.site c.binary_search_by_key.result (record { at = 0; start = Nop2 }) c.deref.ensures.value
    (facts.position (λ (s : LiveSite). s.at) (answers_always _ _ _ (λ f a r g called. search rules))) facts.bound c.in-Ok.is in
    record { listed = here.0; begins = here.1 }

pub returns-in-Err-clause-missing : goal.returns-in-Err-clause-missing
returns-in-Err-clause-missing c =
    let facts = c.binary_search_by_key.ensures in
    let none = site-missing c.deref.result.now c.args.plan.now.sites.items c.args.at c.in-Err.field-0 c.binary_search_by_key.result c.deref.ensures.value c.requires.apart
    (facts.position (λ (s : LiveSite). s.at) (answers_always _ _ _ (λ f a r g called. search rules))) c.in-Err.is in
    λ (site : ℕ) (is : IsSiteAt c.args.plan.now site c.args.at). none site (record { at = 0; start = Nop2 }) is.listed is.begins
