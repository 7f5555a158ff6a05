-- What the sites of an accepted module hold, seen from its file.
use Rattle.std.proofs.Common.{◌≡◌, ◌∙◌, inl, inr, ℕ, Bool, true, false, not, List, length, Option, Some, option_map, slice_get, slice_index_or, refl, sym, ap, arith, true≢false}
use Rattle.std.specs.Option.{unwrap_or}
use Rattle.std.proofs.lemmas.Bool.{cases_lt}
use Rattle.std.proofs.lemmas.Option.{same_Some}
use Rattle.elf_module.specs.Elf.{Elf}
use Rattle.insn_forms.specs.declared.forms.Form.{Form}
use Rattle.insn_forms.specs.Spelling.{spell}
use Rattle.module_parts.specs.declared.key.KeyClass.TheVariants.{Jump as JumpKey, Call as CallKey}
use Rattle.module_parts.specs.declared.site.Site.{Site}
use Rattle.module_names.specs.Entries.{base, entries, file_text}
use Rattle.module_image.specs.Held.{ForeignSitesHoldNoForm}
use Rattle.module_names.specs.Keys.{key_addresses, keys}
use Rattle.module_image.specs.Module.{IsModule, Module, States, tracer_of, wants}
use Rattle.module_image.specs.Refusals.{Passes, past_all, past_site_overlap}
use Rattle.module_image.specs.Sites.{code_at, is_early, is_foreign, site_of, sites, starts_of, text}
use Rattle.module_image.specs.Text.{AreApart}
use Rattle.module_image.specs.Wants.{state_of, wanted}
use Rattle.module_laws.proofs.EarlyForms.{wanted_early}
use Rattle.module_image.proofs.SiteLaws.{each_site, sites_apart_passed}
use Rattle.module_image.proofs.Sound.{call_lens_passed, inside_passed, passes_before}
use Rattle.module_laws.proofs.WrittenSites.{IsOff, sites_kept}

-- a module's site is one of its file
pub site_of_file : (elf : Elf) (m : Module) (i : ℕ) (s : Site) → IsModule elf m → slice_get m.sites i ≡ Some s → slice_get (sites elf) i ≡ Some s
site_of_file elf m i s is get = ap (λ (ss : List Site). slice_get ss i) (sym is.has_sites) ∙ get

-- and its bytes are those of the file's text, after early writing
pub code_of_file : (elf : Elf) (m : Module) (s : Site) → IsModule elf m → code_at m.base m.text s.at s.len ≡ code_at (base elf) (text elf) s.at s.len
code_of_file elf m s is =
    ap (λ (b : ℕ). code_at b m.text s.at s.len) is.has_base ∙ ap (λ (t : List ℕ). code_at (base elf) t s.at s.len) is.has_text

-- the form that a site wants
pub want_of : (m : Module) (states : States) (i : ℕ) (s : Site) (form : Form) → slice_get m.sites i ≡ Some s → wants m states i ≡ Some form → wanted (unwrap_or (tracer_of m) 0) (state_of states.keys s.kind) (slice_index_or states.traced i false) s.len s.kind ≡ form
want_of m states i s form get want =
    let of : Site → Form = λ (u : Site). wanted (unwrap_or (tracer_of m) 0) (state_of states.keys u.kind) (slice_index_or states.traced i false) u.len u.kind in
    same_Some (of s) form (sym (ap (λ (o : Option Site). option_map of o) get) ∙ want)

-- whether a site is foreign is told by the file's bytes
foreign_told : (elf : Elf) (i : ℕ) (s : Site) → slice_get (sites elf) i ≡ Some s → s.foreign ≡ is_foreign (base elf) (file_text elf) s.at s.len s.kind
foreign_told elf =
    each_site (λ (s : Site). s.foreign ≡ is_foreign (base elf) (file_text elf) s.at s.len s.kind)
    (site_of (base elf) (file_text elf) (key_addresses elf JumpKey) (key_addresses elf CallKey)) (entries elf) (λ i e get. refl)

-- sites that aren't foreign have none of the bytes of one that is
pub foreign_off : (ss : List Site) (i : ℕ) (s : Site) → AreApart ss → slice_get ss i ≡ Some s → s.foreign ≡ true → (j : ℕ) (u : Site) → slice_get ss j ≡ Some u → u.foreign ≡ false → IsOff s.at s.len u
foreign_off ss i s apart get foreign j u here own = elim (cases_lt i j) [
  | inl later ↦ inl (apart i j s u later get here)
  | inr not_later ↦ elim (cases_lt j i) [
    | inl before ↦ inr (apart j i u s before here get)
    | inr not_before ↦ (
        let place : i ≡ j = omega (arith, not_later, not_before) in
        let same : s ≡ u = same_Some s u (sym get ∙ ap (λ (k : ℕ). slice_get ss k) place ∙ here) in
        absurd (true≢false (sym foreign ∙ ap (λ (x : Site). x.foreign) same ∙ own))
        )
  ]
]

-- early writing leaves the bytes of a foreign site
pub foreign_kept : (elf : Elf) (i : ℕ) (s : Site) → Passes elf past_site_overlap → slice_get (sites elf) i ≡ Some s → s.foreign ≡ true → code_at (base elf) (text elf) s.at s.len ≡ code_at (base elf) (file_text elf) s.at s.len
foreign_kept elf i s passes get foreign =
    sites_kept (base elf) (length (file_text elf)) (starts_of (keys elf)) (sites elf) (file_text elf) s.at s.len refl (inside_passed elf passes)
    (call_lens_passed elf) (inside_passed elf passes i s get).from
    (foreign_off (sites elf) i s (sites_apart_passed elf passes) get foreign)

-- a foreign site holds nothing that it ever wants
pub foreign_hold : ForeignSitesHoldNoForm
foreign_hold m states i s form accepted get foreign want spelt =
    let elf = accepted.elf in
    let is = accepted.is in
    let passes : Passes elf past_site_overlap = passes_before elf past_site_overlap past_all (omega arith) is.passes in
    let there : slice_get (sites elf) i ≡ Some s = site_of_file elf m i s is get in
    let code = code_of_file elf m s is ∙ foreign_kept elf i s passes there foreign in
    let early : is_early s.at s.len s.kind (code_at (base elf) (file_text elf) s.at s.len) ≡ true =
    wanted_early (unwrap_or (tracer_of m) 0) (state_of states.keys s.kind) (slice_index_or states.traced i false) s.at s.len s.kind (code_at (base elf) (file_text elf) s.at s.len)
    (ap (λ (f : Form). spell f s.at) (want_of m states i s form get want) ∙ spelt ∙ ap Some code) in
    true≢false (sym foreign ∙ foreign_told elf i s there ∙ ap (λ (b : Bool). not b) early)
