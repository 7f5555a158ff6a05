-- The forms that sites want reach their targets.
use Rattle.std.proofs.Common.{◌≡◌, ◌∙◌, ◌==◌, ◌<◌, ◌≤◌, ◌⊎◌, inl, inr, ℕ, ◌+◌, ◌^◌, Bool, true, false, cond, not, nat_lt, List, ◌∷◌, length, Option, Some, None, option_map, slice_get, slice_index_or, refl, sym, ap, subst, arith}
use Rattle.std.specs.Int.{w32}
use Rattle.std.specs.Option.{unwrap_or}
use Rattle.elf_module.specs.Elf.{Elf}
use Rattle.insn_forms.specs.declared.forms.Form.{Form}
use Rattle.insn_forms.specs.declared.forms.Form.TheVariants.{Nop2, Nop5, Jmp8, Jmp32, Call as CallTo, Ret}
use Rattle.insn_forms.specs.Displacement.{displacement}
use Rattle.insn_forms.specs.Spelling.{after, spell}
use Rattle.insn_forms.proofs.Spellings.{length-spell}
use Rattle.module_parts.specs.declared.site.Site.{Site}
use Rattle.module_parts.specs.declared.site.SiteKind.{SiteKind}
use Rattle.module_parts.specs.declared.site.SiteKind.TheVariants.{Jump, Call, Tail, Trace}
use Rattle.module_parts.specs.declared.unit.Unit.{Unit}
use Rattle.module_image.specs.Early.{HasCallLen}
use Rattle.module_image.specs.Flows.{LeadWell}
use Rattle.module_image.specs.Held.{WantedFormsReach}
use Rattle.module_image.specs.Layout.{IsStart, IsSwept, Layout, text_end}
use Rattle.module_image.specs.Module.{IsModule, Module, States, layout_of, tracer_of}
use Rattle.module_names.specs.Names.{functions, tracer, tracer_name}
use Rattle.module_image.specs.Refusals.{IsTooFar, past_all, past_no_reach, past_tracer_missing}
use Rattle.module_image.specs.Sites.{sites}
use Rattle.module_image.specs.Wants.{jump_of, nop_of, state_of, traced, wanted}
use Rattle.module_laws.proofs.Distances.{near_displaced}
use Rattle.module_image.proofs.Grounds.{module_ground, module_leads}
use Rattle.module_laws.proofs.HeldForms.{site_of_file, want_of}
use Rattle.module_image.proofs.KeyNumbers.{call_site_key, tail_site_key}
use Rattle.module_image.proofs.Passed.{none_too_far, none_traced}
use Rattle.module_image.proofs.Reached.{function_reaches, jump_reaches}
use Rattle.module_image.proofs.Sound.{call_lens_passed, passes_before}
use Rattle.module_image.proofs.TextSize.{few_bytes}
use Rattle.module_image.proofs.WantedForms.{size_wanted}

-- a site's place in a text that is short and ends before the last address
pub record IsPlace (t : Layout) (at len : ℕ) : Type 0 where
  pub from : t.base ≤ at
  pub to : at + len ≤ text_end t
  pub two_or_five : (len ≡ 2) ⊎ (len ≡ 5)
  pub short : length t.text ≤ 65536
  pub below : text_end t < 2 ^ 64

-- a form reaches its target from an address
abbrev Reaches : Form → ℕ → Type 0
Reaches form at = (code : List ℕ) × (spell form at ≡ Some code)

-- a displacement of four bytes leads from a place of five bytes to each address of the text
far_displaced : (opcode : ℕ) (t : Layout) (at to : ℕ) → IsPlace t at 5 → t.base ≤ to → to < text_end t → (code : List ℕ) × (option_map (λ (rel : List ℕ). opcode ∷ rel) (displacement w32 (after at 5) to) ≡ Some code)
far_displaced opcode t at to place low high =
    let from = place.from in
    let end = place.to in
    let short = place.short in
    let below = place.below in
    let same : after at 5 ≡ at + 5 = omega (arith, end, below) in
    (_, near_displaced opcode (after at 5) to (omega (arith, same, end, below)) (omega (arith, high, below)) (omega (arith, same, end, short, low)) (omega (arith, same, from, high, short)))

call_reaches : (t : Layout) (units : List Unit) (at to : ℕ) → IsSwept t units → IsPlace t at 5 → IsStart t to → Reaches (CallTo to) at
unfolding spell
call_reaches t units at to swept place start = (let there = swept.complete to start in far_displaced 0xe8 t at to place there.0 there.1)

jump_far_reaches : (t : Layout) (units : List Unit) (at to : ℕ) → IsSwept t units → IsPlace t at 5 → IsStart t to → Reaches (Jmp32 to) at
unfolding spell
jump_far_reaches t units at to swept place start = (let there = swept.complete to start in far_displaced 0xe9 t at to place there.0 there.1)

-- NOPs and RET have no target
nop2_reaches : (at : ℕ) → Reaches Nop2 at
unfolding spell
nop2_reaches at = (_, refl)

nop5_reaches : (at : ℕ) → Reaches Nop5 at
unfolding spell
nop5_reaches at = (_, refl)

ret_reaches : (at : ℕ) → Reaches Ret at
unfolding spell
ret_reaches at = (_, refl)

nop_reaches : (at len : ℕ) → Reaches (nop_of len) at
nop_reaches at len = by (len == 2)
  where
    by : (test : Bool) → Reaches (cond test Nop2 Nop5) at
    by true = nop2_reaches at
    by false = nop5_reaches at

-- a jump of two bytes that isn't out of reach
unless_none : (form : Form) (at : ℕ) → (spell form at ≡ None → ⊥) → Reaches form at
unless_none form at some = by (spell form at) refl
  where
    by : (o : Option (List ℕ)) → spell form at ≡ o → Reaches form at
    by None is = absurd (some is)
    by (Some code) is = (code, is)

jump_of_reaches : (t : Layout) (units : List Unit) (at len target : ℕ) → IsSwept t units → IsPlace t at len → ((len ≡ 2) × (spell (Jmp8 target) at ≡ None) → ⊥) → IsStart t target → (len ≡ 2) ⊎ (len ≡ 5) → Reaches (jump_of len target) at
jump_of_reaches t units at len target swept place near start (inl two) =
    subst (λ (n : ℕ). Reaches (jump_of n target) at) (sym two) (unless_none (Jmp8 target) at (λ none. near (two, none)))
jump_of_reaches t units at len target swept place near start (inr five) =
    subst (λ (n : ℕ). Reaches (jump_of n target) at) (sym five)
    (jump_far_reaches t units at target swept (subst (λ (n : ℕ). IsPlace t at n) five place) start)

-- where a site's jump, its key's function or the tracer leads
abbrev pub LeadsTo : Layout → ℕ → ℕ → SiteKind → Type 0
LeadsTo t tracer state (Jump target key likely) = IsStart t target
LeadsTo t tracer state (Call key) = (state ≡ 0) ⊎ IsStart t state
LeadsTo t tracer state (Tail key) = (state ≡ 0) ⊎ IsStart t state
LeadsTo t tracer state Trace = IsStart t tracer

switched_reaches : (test : Bool) (at len target : ℕ) → Reaches (jump_of len target) at → Reaches (cond test (jump_of len target) (nop_of len)) at
switched_reaches true at len target jump = jump
switched_reaches false at len target jump = nop_reaches at len

-- a key with no function is asked for no call
unless_zero : (test : Bool) (n : ℕ) (none some : Form) (at : ℕ) (P : Type 0) → (n == 0) ≡ test → (n ≡ 0) ⊎ P → Reaches none at → (P → Reaches some at) → Reaches (cond test none some) at
unless_zero true n none some at P is either nothing reaches = nothing
unless_zero false n none some at P is (inl zero) nothing reaches = absurd (cc (is, zero))
unless_zero false n none some at P is (inr start) nothing reaches = reaches start

traced_reaches : (on : Bool) (at tracer : ℕ) → Reaches (CallTo tracer) at → Reaches (traced tracer on) at
traced_reaches true at tracer reaches = reaches
traced_reaches false at tracer reaches = nop5_reaches at

-- what a site wants reaches where it leads
wanted_reaches : (t : Layout) (units : List Unit) (tracer state : ℕ) (on : Bool) (at len : ℕ) (kind : SiteKind) → IsSwept t units → IsPlace t at len → HasCallLen len kind → (IsTooFar at len kind → ⊥) → LeadsTo t tracer state kind → Reaches (wanted tracer state on len kind) at
wanted_reaches t units tracer state on at len (Jump target key likely) swept place five near leads =
    switched_reaches (cond likely (not (nat_lt 0 state)) (nat_lt 0 state)) at len target
    (jump_of_reaches t units at len target swept place near leads place.two_or_five)
wanted_reaches t units tracer state on at len (Call key) swept place five near leads =
    unless_zero (state == 0) state Nop5 (CallTo state) at (IsStart t state) refl leads (nop5_reaches at)
    (λ start. call_reaches t units at state swept (subst (λ (n : ℕ). IsPlace t at n) five place) start)
wanted_reaches t units tracer state on at len (Tail key) swept place five near leads =
    unless_zero (state == 0) state Ret (Jmp32 state) at (IsStart t state) refl leads (ret_reaches at)
    (λ start. jump_far_reaches t units at state swept (subst (λ (n : ℕ). IsPlace t at n) five place) start)
wanted_reaches t units tracer state on at len Trace swept place five near leads =
    traced_reaches on at tracer (call_reaches t units at tracer swept (subst (λ (n : ℕ). IsPlace t at n) five place) leads)

-- the place of a module's site
module_place : (elf : Elf) (m : Module) (i : ℕ) (s : Site) → IsModule elf m → m.base + length m.text < 2 ^ 64 → slice_get m.sites i ≡ Some s → IsPlace (layout_of m) s.at s.len
module_place elf m i s is below get =
    let inside = (module_ground elf m is).inside i s get in
    record { from = inside.from; to = inside.to; two_or_five = inside.two_or_five; short = few_bytes elf m is; below = below }

-- the tracer is a start where sites are traced
tracer_leads : (elf : Elf) (m : Module) (i : ℕ) (s : Site) → IsModule elf m → slice_get m.sites i ≡ Some s → s.kind ≡ Trace → (o : Option ℕ) → tracer_of m ≡ o → IsStart (layout_of m) (unwrap_or o 0)
tracer_leads elf m i s is get kind None told =
    absurd (none_traced elf (passes_before elf past_tracer_missing past_all (omega arith) is.passes) (sym (is.named_functions tracer_name) ∙ told) i s (site_of_file elf m i s is get) kind)
tracer_leads elf m i s is get kind (Some at) told =
    function_reaches (layout_of m) (functions elf) tracer_name at (module_leads elf m is).of_functions (sym (is.named_functions tracer_name) ∙ told)

-- where a module's site leads
pub module_leads_to : (elf : Elf) (m : Module) (states : States) (i : ℕ) (s : Site) (kind : SiteKind) → IsModule elf m → LeadWell m states → slice_get m.sites i ≡ Some s → s.kind ≡ kind → LeadsTo (layout_of m) (unwrap_or (tracer_of m) 0) (state_of states.keys kind) kind
module_leads_to elf m states i s (Jump target key likely) is lead get kind =
    jump_reaches (layout_of m) (sites elf) i s target key likely (module_leads elf m is).of_jumps (site_of_file elf m i s is get) kind
module_leads_to elf m states i s (Call key) is lead get kind =
    let found = call_site_key elf m i s key is get kind in lead key found.key found.here found.is
module_leads_to elf m states i s (Tail key) is lead get kind =
    let found = tail_site_key elf m i s key is get kind in lead key found.key found.here found.is
module_leads_to elf m states i s Trace is lead get kind = tracer_leads elf m i s is get kind (tracer_of m) refl

-- the form that a site wants reaches its target, and has the site's length
pub forms_reach : WantedFormsReach
forms_reach m states i s form accepted lead get want =
    let elf = accepted.elf in
    let is = accepted.is in
    let there : slice_get (sites elf) i ≡ Some s = site_of_file elf m i s is get in
    let place : IsPlace (layout_of m) s.at s.len = module_place elf m i s is is.below get in
    let five = call_lens_passed elf i s there in
    let same = want_of m states i s form get want in
    let reached =
    wanted_reaches (layout_of m) m.units (unwrap_or (tracer_of m) 0) (state_of states.keys s.kind) (slice_index_or states.traced i false) s.at s.len s.kind
    (module_ground elf m is).swept place five (none_too_far elf (passes_before elf past_no_reach past_all (omega arith) is.passes) i s there)
    (module_leads_to elf m states i s s.kind is lead get refl) in
    let spelt = ap (λ (f : Form). spell f s.at) (sym same) ∙ reached.1 in
    let long = size_wanted (unwrap_or (tracer_of m) 0) (state_of states.keys s.kind) (slice_index_or states.traced i false) s.len s.kind place.two_or_five five in
    (reached.0, spelt, length-spell _ s.at reached.0 reached.1 ∙ long)
