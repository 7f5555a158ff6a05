use Rattle.std.proofs.Common.{◌≡◌, ◌∙◌, ◌++◌, List, ap, arith, length, sym}
use Rattle.std.specs.Option.{option_to_list}
use Rattle.insn_forms.specs.declared.forms.Change.{Change}
use Rattle.insn_forms.specs.Changes.{ChangeList}
use Rattle.key_state.specs.Effects.{states_after}
use Rattle.key_state.proofs.Differing.{changes_from, changes_more, few_changes}
use Rattle.module_parts.specs.declared.site.Site.{Site}
use Rattle.key_state.proofs.keys.Keys.list_changes.Goals as goal

pub push_some-requires : goal.push_some-requires
push_some-requires c =
    let m = c.args.image.now in
    let old = c.args.self.now in
    let new = states_after old c.args.effect in
    let sites : length c.sites.result.now ≡ length m.sites = ap (λ (ss : List Site). length ss) c.sites.ensures.sites in
    let end = c.loop-site.auto.site-end in
    let few = few_changes m old new c.loop-site.site (omega (arith, end, sites)) in
    let long : length c.loop-site.out.list ≡ length (changes_from m old new 0 c.loop-site.site) = ap (λ (cs : List Change). length cs) c.loop-site.invariant.0 in
    let room = c.loop-site.invariant.1 in
    let inside = c.loop-site-test.true in
    let most = c.requires.room in
    omega (arith, sites, few, long, room, inside, most)

pub loop-site-preserved : goal.loop-site-preserved
loop-site-preserved c =
    let m = c.args.image.now in
    let old = c.args.self.now in
    let new = states_after old c.args.effect in
    let site = c.loop-site.site in
    (ap (λ (l : ChangeList). l.list) c.push_some.ensures ∙ ap (λ (cs : List Change). cs ++ option_to_list c.change_of.result) c.loop-site.invariant.0 ∙ ap (λ (cs : List Change). changes_from m old new 0 site ++ cs) c.change_of.ensures ∙ sym (changes_more m old new site), ap (λ (l : ChangeList). l.room) c.push_some.ensures ∙ c.loop-site.invariant.1)
