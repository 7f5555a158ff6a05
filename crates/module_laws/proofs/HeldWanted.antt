-- What a site wants with the keys as the file has them is what it holds.
use Rattle.std.proofs.Common.{◌≡◌, ◌∙◌, ℕ, Bool, false, List, length, replicate, Some, slice_get, slice_index_or, refl, sym, ap, arith}
use Rattle.std.specs.Option.{unwrap_or}
use Rattle.std.proofs.lemmas.List.{get_or-replicate}
use Rattle.std.proofs.lemmas.Option.{slice_get_within}
use Rattle.elf_module.specs.Elf.{Elf}
use Rattle.insn_forms.specs.declared.forms.Form.{Form}
use Rattle.insn_forms.specs.Spelling.{spell}
use Rattle.module_parts.specs.declared.key.Key.{Key}
use Rattle.module_parts.specs.declared.site.Site.{Site}
use Rattle.module_parts.specs.declared.site.SiteKind.{SiteKind}
use Rattle.module_parts.specs.declared.site.SiteKind.TheVariants.{Jump, Call, Tail, Trace}
use Rattle.module_names.specs.Entries.{base, file_text}
use Rattle.module_image.specs.Held.{SitesHoldWhatTheyWant, first_states}
use Rattle.module_names.specs.Keys.{keys}
use Rattle.module_image.specs.Module.{IsModule, Module, tracer_of, wants}
use Rattle.module_image.specs.Refusals.{Passes, past_all, past_site_overlap}
use Rattle.module_image.specs.Sites.{early_form, sites, starts_of}
use Rattle.module_image.specs.Wants.{state_of, wanted}
use Rattle.module_laws.proofs.HeldForms.{code_of_file, site_of_file, want_of}
use Rattle.module_laws.proofs.Reaching.{forms_reach}
use Rattle.module_image.proofs.SiteLaws.{sites_apart_passed}
use Rattle.module_image.proofs.Sound.{call_lens_passed, inside_passed, passes_before}
use Rattle.module_image.proofs.StartLaws.{first_states as first_lead}
use Rattle.module_laws.proofs.WrittenSites.{sites_hold}

-- while it isn't traced a site doesn't ask for the tracer
untraced : (tracer state len : ℕ) (kind : SiteKind) → wanted tracer state false len kind ≡ wanted 0 state false len kind
untraced tracer state len (Jump target key likely) = refl
untraced tracer state len (Call key) = refl
untraced tracer state len (Tail key) = refl
untraced tracer state len Trace = refl

-- the form that a module's site wants at first is its early form
first_want : (elf : Elf) (m : Module) (i : ℕ) (s : Site) (form : Form) → IsModule elf m → slice_get m.sites i ≡ Some s → wants m (first_states m) i ≡ Some form → form ≡ early_form (starts_of (keys elf)) s
first_want elf m i s form is get want =
    let off : slice_index_or (replicate (length m.sites) false) i false ≡ false = get_or-replicate (length m.sites) i false false (slice_get_within m.sites i s get) in
    let tracer = unwrap_or (tracer_of m) 0 in
    let state = state_of (starts_of m.keys) s.kind in
    sym (want_of m (first_states m) i s form get want)
    ∙ ap (λ (on : Bool). wanted tracer state on s.len s.kind) off
    ∙ untraced tracer state s.len s.kind
    ∙ ap (λ (ks : List Key). wanted 0 (state_of (starts_of ks) s.kind) false s.len s.kind) is.has_keys

-- a site that isn't foreign holds what it wants with the keys as the file has them
pub wanted_held : SitesHoldWhatTheyWant
wanted_held m i s form accepted get own want =
    let elf = accepted.elf in
    let is = accepted.is in
    let passes : Passes elf past_site_overlap = passes_before elf past_site_overlap past_all (omega arith) is.passes in
    let reached = forms_reach m (first_states m) i s form accepted (first_lead m accepted) get want in
    let early : spell (early_form (starts_of (keys elf)) s) s.at ≡ Some reached.0 = ap (λ (f : Form). spell f s.at) (sym (first_want elf m i s form is get want)) ∙ reached.1 in
    let held =
    sites_hold (base elf) (length (file_text elf)) (starts_of (keys elf)) (sites elf) (file_text elf) i s reached.0 refl (inside_passed elf passes)
    (call_lens_passed elf) (sites_apart_passed elf passes) (site_of_file elf m i s is get) own early in
    reached.1 ∙ ap Some (sym (code_of_file elf m s is ∙ held))
