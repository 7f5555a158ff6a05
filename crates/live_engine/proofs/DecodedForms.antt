-- The bytes that were fetched are those of the version that a processor's acknowledgement tells.
use Rattle.std.proofs.Common.{◌≡◌, ◌≢◌, ◌+◌, ◌<◌, ◌/◌, ℕ, zero, suc, true, false, List, [], ◌∷◌, length, get_or, take, Option, Some, None, refl, ap, sym, ◌∙◌, subst, arith}
use Rattle.std.specs.Prelude.{◌↔◌, IsSome, slice_index, unwrap_or, option_map}
use Rattle.std.specs.Int.{w8, w32}
use Rattle.std.proofs.lemmas.List.{ext_get_or, get_or_default, take_all}
use Rattle.insn_forms.specs.declared.forms.Form.{Form}
use Rattle.insn_forms.specs.declared.forms.Form.TheVariants.{Nop2, Nop5, Jmp8, Jmp32, Call, Ret}
use Rattle.insn_forms.specs.Displacement.{displacement}
use Rattle.insn_forms.specs.Spelling.{BeginsWith, after, size, spell}
use Rattle.live_text.specs.declared.plan.LivePlan.{LivePlan}
use Rattle.live_text.specs.declared.plan.LiveSite.{LiveSite}
use Rattle.live_text.specs.declared.view.View.{View}
use Rattle.live_text.specs.Flat.{shape_of}
use Rattle.live_text.specs.Laws.{ChangedBytesAreInTheTable, ChunksMakeVersions, OtherBytesAreOfTheForm}
use Rattle.live_text.specs.Own.{HasByte, byte_number, site_of}
use Rattle.live_text.specs.Plan.{Stands}
use Rattle.live_text.specs.Seats.{Sits}
use Rattle.live_text.specs.Versions.{place_in, version}
use Rattle.poke_batch.specs.Poke.{spelled}
use Rattle.x64_subset.specs.Whole.{name}
use Rattle.live_engine.specs.Fetch.{Fetches}
use Rattle.live_engine.specs.Fetched.{IsWhole}
use Rattle.live_engine.specs.Lookup.{version_for}
use Rattle.live_engine.proofs.FetchSteps.{AreCached, length-spelled}
use Rattle.live_engine.proofs.Lookups.{some-size}
use Rattle.live_engine.proofs.Phased.{HasPhases, ReadsAs, Stood, reads-as, stood}
use Rattle.live_engine.proofs.SiteForms.{spelt-version}

-- the version
abbrev pub form_for : LivePlan → ℕ → ℕ → Form
form_for plan ack site = version plan site (version_for plan ack (site_of plan site).at)

-- a fetched byte stood there, by its number
pub stood-there : (plan : LivePlan) (cpus site j : ℕ) (bytes : List ℕ) (w : View) → w.shape ≡ shape_of plan cpus → Sits w → AreCached w.cpu (byte_number plan site 0) bytes → j < length bytes → Stood (shape_of plan cpus) w.cpu.ack (byte_number plan site j) (slice_index bytes j)
stood-there plan cpus site j bytes w shape sits f lt =
    let number : byte_number plan site 0 + j ≡ byte_number plan site j = omega arith in
    subst (λ (b : ℕ). Stood (shape_of plan cpus) w.cpu.ack b (slice_index bytes j)) number
    (subst (λ p. Stood p w.cpu.ack (byte_number plan site 0 + j) (slice_index bytes j)) shape
    (stood w (byte_number plan site 0 + j) (slice_index bytes j) sits (f j lt)))

-- what the first byte tells, where it is no breakpoint
pub told-by-first : (plan : LivePlan) (cpus site : ℕ) (bytes : List ℕ) (w : View) → HasPhases plan → w.shape ≡ shape_of plan cpus → Sits w → HasByte plan site 0 → AreCached w.cpu (byte_number plan site 0) bytes → 0 < length bytes → slice_index bytes 0 ≢ 0xcc → ReadsAs plan cpus w.cpu.ack site (form_for plan w.cpu.ack site)
told-by-first plan cpus site bytes w laws shape sits has f some fine =
    let s = stood-there plan cpus site 0 bytes w shape sits f some in
    reads-as plan cpus w.cpu.ack site s.k (place_in plan (w.cpu.ack / 3) site) laws has refl s.between (λ e. fine (sym s.is ∙ e))

byte-is : (plan : LivePlan) (cpus site j : ℕ) (bytes : List ℕ) (w : View) → w.shape ≡ shape_of plan cpus → Sits w → AreCached w.cpu (byte_number plan site 0) bytes → ReadsAs plan cpus w.cpu.ack site (form_for plan w.cpu.ack site) → slice_index bytes 0 ≢ 0xcc → j < length bytes → HasByte plan site j → slice_index bytes j ≡ slice_index (spelled (form_for plan w.cpu.ack site) (site_of plan site).at) j
byte-is plan cpus site zero bytes w shape sits f told fine lt has =
    let s = stood-there plan cpus site 0 bytes w shape sits f lt in
    sym s.is ∙ told.head s.k s.between has (λ e. fine (sym s.is ∙ e))
byte-is plan cpus site (suc j) bytes w shape sits f told fine lt has =
    let s = stood-there plan cpus site (suc j) bytes w shape sits f lt in
    sym s.is ∙ told.tail s.k j s.between has

-- the first byte is the form's
pub first-is : (plan : LivePlan) (cpus site : ℕ) (bytes : List ℕ) (w : View) → HasPhases plan → w.shape ≡ shape_of plan cpus → Sits w → site < length plan.sites.items → AreCached w.cpu (byte_number plan site 0) bytes → 0 < length bytes → slice_index bytes 0 ≢ 0xcc → slice_index bytes 0 ≡ slice_index (spelled (form_for plan w.cpu.ack site) (site_of plan site).at) 0
first-is plan cpus site bytes w laws shape sits listed f some fine =
    let long = some-size (site_of plan site).start in
    let has : HasByte plan site 0 = record { listed = listed; byte = omega arith } in
    byte-is plan cpus site 0 bytes w shape sits f (told-by-first plan cpus site bytes w laws shape sits has f some fine) fine some has

-- all bytes are
pub bytes-are : (plan : LivePlan) (cpus site : ℕ) (bytes : List ℕ) (w : View) → HasPhases plan → w.shape ≡ shape_of plan cpus → Sits w → site < length plan.sites.items → AreCached w.cpu (byte_number plan site 0) bytes → length bytes ≡ size (site_of plan site).start → slice_index bytes 0 ≢ 0xcc → bytes ≡ spelled (form_for plan w.cpu.ack site) (site_of plan site).at
bytes-are plan cpus site bytes w laws shape sits listed f long fine =
    let some = some-size (site_of plan site).start in
    let form = form_for plan w.cpu.ack site in
    let is = spelt-version laws.versions plan site (version_for plan w.cpu.ack (site_of plan site).at) laws.stands listed in
    let size_is = is.one_size in
    let spelled_long : length (spelled form (site_of plan site).at) ≡ size form = length-spelled form (site_of plan site).at is.spelt in
    let has : HasByte plan site 0 = record { listed = listed; byte = omega arith } in
    let told = told-by-first plan cpus site bytes w laws shape sits has f (omega arith) fine in
    ext_get_or 0 bytes (spelled form (site_of plan site).at) (long ∙ sym size_is ∙ sym spelled_long)
    (λ j lt. byte-is plan cpus site j bytes w shape sits f told fine lt (record { listed = listed; byte = omega arith }))

-- a form that has a spelling begins with it
spells-itself : (form : Form) (at : ℕ) (o : Option (List ℕ)) → spell form at ≡ o → IsSome o → spell form at ≡ Some (unwrap_or o [])
spells-itself form at None is some = (let e : false ≡ true = some in cc)
spells-itself form at (Some code) is some = is

pub begins : (form : Form) (at : ℕ) (bytes : List ℕ) → IsSome (spell form at) → bytes ≡ spelled form at → BeginsWith form at bytes
begins form at bytes some is = record {
  code = spelled form at;
  spelt = spells-itself form at (spell form at) refl some;
  prefix = ap (λ (b : List ℕ). take (length (spelled form at)) b) is ∙ take_all (length (spelled form at)) (spelled form at) (omega arith);
}

-- what the first byte of a form tells
first-of : (o : Option (List ℕ)) (b : ℕ) → slice_index (unwrap_or (option_map (λ rel. b ∷ rel) o) []) 0 ≡ 0xc3 → b ≢ 0xc3 → ⊥
first-of None b e other = omega arith
first-of (Some rel) b e other = other e

pub ret-by-first : (form : Form) (at : ℕ) → slice_index (spelled form at) 0 ≡ 0xc3 → form ≡ Ret
unfolding spell
ret-by-first Nop2 at e = absurd (omega (arith, e))
ret-by-first Nop5 at e = absurd (omega (arith, e))
ret-by-first (Jmp8 target) at e = absurd (first-of (displacement w8 (after at 2) target) 0xeb e (λ (same : 0xeb ≡ 0xc3). omega arith))
ret-by-first (Jmp32 target) at e = absurd (first-of (displacement w32 (after at 5) target) 0xe9 e (λ (same : 0xe9 ≡ 0xc3). omega arith))
ret-by-first (Call target) at e = absurd (first-of (displacement w32 (after at 5) target) 0xe8 e (λ (same : 0xe8 ≡ 0xc3). omega arith))
ret-by-first Ret at e = refl

-- a form that isn't RET is named by its whole spelling
pub named : (form : Form) (at : ℕ) → slice_index (spelled form at) 0 ≢ 0xc3 → name form at ≡ spell form at
unfolding spell
named Nop2 at other = refl
named Nop5 at other = refl
named (Jmp8 target) at other = refl
named (Jmp32 target) at other = refl
named (Call target) at other = refl
named Ret at other = absurd (other refl)

-- no form begins with a breakpoint
trap-first : (o : Option (List ℕ)) (b : ℕ) → slice_index (unwrap_or (option_map (λ rel. b ∷ rel) o) []) 0 ≡ 0xcc → b ≢ 0xcc → ⊥
trap-first None b e other = omega arith
trap-first (Some rel) b e other = other e

pub no-form-traps : (form : Form) (at : ℕ) → slice_index (spelled form at) 0 ≢ 0xcc
unfolding spell
no-form-traps Nop2 at e = omega (arith, e)
no-form-traps Nop5 at e = omega (arith, e)
no-form-traps (Jmp8 target) at e = trap-first (displacement w8 (after at 2) target) 0xeb e (λ (same : 0xeb ≡ 0xcc). omega arith)
no-form-traps (Jmp32 target) at e = trap-first (displacement w32 (after at 5) target) 0xe9 e (λ (same : 0xe9 ≡ 0xcc). omega arith)
no-form-traps (Call target) at e = trap-first (displacement w32 (after at 5) target) 0xe8 e (λ (same : 0xe8 ≡ 0xcc). omega arith)
no-form-traps Ret at e = omega (arith, e)

-- what whole bytes are decoded as, and what that is
pub record IsDecoded (plan : LivePlan) (ack site : ℕ) (bytes : List ℕ) : Type 0 where
  pub begins : BeginsWith (form_for plan ack site) (site_of plan site).at bytes
  pub named : name (form_for plan ack site) (site_of plan site).at ≡ Some bytes

pub decoded : (plan : LivePlan) (cpus site first : ℕ) (bytes : List ℕ) (w : View) → HasPhases plan → w.shape ≡ shape_of plan cpus → Sits w → site < length plan.sites.items → AreCached w.cpu (byte_number plan site 0) bytes → length bytes ≡ size (site_of plan site).start → slice_index bytes 0 ≡ first → first ≢ 0xcc → first ≢ 0xc3 → IsDecoded plan w.cpu.ack site bytes
decoded plan cpus site first bytes w laws shape sits listed f long head fine other =
    let is = spelt-version laws.versions plan site (version_for plan w.cpu.ack (site_of plan site).at) laws.stands listed in
    let same = bytes-are plan cpus site bytes w laws shape sits listed f long (λ e. fine (sym head ∙ e)) in
    let form = form_for plan w.cpu.ack site in
    record {
      begins = begins form (site_of plan site).at bytes is.spelt same;
      named =
          named form (site_of plan site).at (λ e. other (sym head ∙ ap (λ (bs : List ℕ). slice_index bs 0) same ∙ e))
          ∙ spells-itself form (site_of plan site).at (spell form (site_of plan site).at) refl is.spelt
          ∙ ap Some (sym same);
    }

-- the phases' laws together
pub phases : (plan : LivePlan) → Stands plan → ChunksMakeVersions → ChangedBytesAreInTheTable → OtherBytesAreOfTheForm → HasPhases plan
phases plan stands versions table others = record { stands = stands; versions = versions; table = table; others = others }

-- the site that is read from the plan is the one with that number
pub site-read : (plan read : LivePlan) (site : ℕ) (x : LiveSite) → read ≡ plan → x ≡ get_or read.sites.items site x → site < length plan.sites.items → x ≡ site_of plan site
site-read plan read site x same here listed =
    here ∙ ap (λ (p : LivePlan). get_or p.sites.items site x) same ∙ get_or_default plan.sites.items site x (record { at = 0; start = Nop2 }) listed

-- what is decoded of bytes that begin with a form is that form
pub decoded-is : (r : Option Form) (form : Form) (at there : ℕ) (bytes read : List ℕ) → ((f : Form) → (r ≡ Some f) ↔ BeginsWith f there read) → there ≡ at → read ≡ bytes → BeginsWith form at bytes → r ≡ Some form
decoded-is r form at there bytes read answers same same_bytes is =
    (answers form).1 (subst (λ (a : ℕ). BeginsWith form a read) (sym same) (subst (λ (bs : List ℕ). BeginsWith form at bs) (sym same_bytes) is))

-- a whole form by the bytes that were decoded
pub whole-is : (plan : LivePlan) (word site : ℕ) (bytes : List ℕ) (v w : View) (r : Option Form) (form : Form) → IsDecoded plan w.cpu.ack site bytes → r ≡ Some (form_for plan w.cpu.ack site) → r ≡ Some form → Fetches (byte_number plan site 0) word bytes v w → IsWhole plan word site v w form
whole-is plan word site bytes v w r form is told told' f =
    let same : form ≡ form_for plan w.cpu.ack site = cc in
    record {
      fetched = record { bytes = bytes; named = ap (λ (g : Form). name g (site_of plan site).at) same ∙ is.named; fetched = f };
      form_is = same;
    }
