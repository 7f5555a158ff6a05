-- What a pass at a site did: a version that is neither below the site's floor before nor above it afterwards.
use Rattle.std.proofs.Common.{◌≡◌, ◌≢◌, ◌+◌, ◌<◌, ◌≤◌, ◌∙◌, ◌*◌, ◌/◌, ◌^◌, ℕ, true, false, List, ◌∷◌, length, Option, Some, None, inl, ap, sym, subst, arith}
use Rattle.std.specs.Int.{w8, w32}
use Rattle.std.specs.Prelude.{option_map, slice_index}
use Rattle.std.proofs.lemmas.List.{length-map}
use Rattle.std.proofs.lemmas.Option.{same_Some}
use Rattle.insn_forms.specs.declared.forms.Form.{Form}
use Rattle.insn_forms.specs.declared.forms.Form.TheVariants.{Nop2, Nop5, Jmp8, Jmp32, Call, Ret}
use Rattle.insn_forms.specs.Displacement.{displacement}
use Rattle.insn_forms.specs.Spelling.{after, spell}
use Rattle.live_text.specs.declared.plan.LivePlan.{LivePlan}
use Rattle.live_text.specs.declared.view.Shape.{Shape}
use Rattle.live_text.specs.declared.view.View.{View}
use Rattle.live_text.specs.Flat.{shape_of}
use Rattle.live_text.specs.Laws.{ChunksHaveThreeRequests, FirstBytesAreBreakpoints}
use Rattle.live_text.specs.Own.{byte_number, site_of}
use Rattle.live_text.specs.Plan.{Stands, chunks_of}
use Rattle.live_text.specs.Rule.{cached}
use Rattle.live_text.specs.Seats.{Sits}
use Rattle.live_text.specs.Versions.{version}
use Rattle.module_image.specs.Module.{Module}
use Rattle.x64_subset.specs.declared.proc.Life.TheVariants.{Running}
use Rattle.x64_subset.specs.declared.proc.Mark.{Mark}
use Rattle.x64_subset.specs.declared.proc.Proc.{Proc}
use Rattle.x64_subset.specs.Effect.{at_ip}
use Rattle.x64_subset.specs.Whole.{name, whole}
use Rattle.live_engine.specs.declared.cpu.Turn.TheVariants.{Pass}
use Rattle.live_engine.specs.declared.fetch.Fetched.{Fetched}
use Rattle.live_engine.specs.declared.fetch.Fetched.TheVariants.{Trap, Whole}
use Rattle.live_engine.specs.Fetched.{IsFetched, IsWhole}
use Rattle.live_engine.specs.LiveCpu.{CpuState, next_at}
use Rattle.live_engine.specs.Lookup.{version_for}
use Rattle.live_engine.specs.Turns.{Does, DoesWhole, FetchesForm, FetchesTrap}
use Rattle.live_engine.specs.Versions.{IsAllowed, IsSiteAt, floor}
use Rattle.live_engine.proofs.Pairing.{cpu_of, next-free}
use Rattle.live_engine.proofs.Passing.{allowed, at-least-floor, at-most-floor, seen}
use Rattle.live_engine.proofs.Phased.{HasPhases}
use Rattle.live_engine.proofs.TurnViews.{floor-kept, kept-fetched}

-- bytes that begin with no breakpoint
pub record IsNoTrap (bytes : List ℕ) : Type 0 where
  pub some : 0 < length bytes
  pub fine : slice_index bytes 0 ≢ 0xcc

no-trap : (b : ℕ) (later bytes : List ℕ) → b ≢ 0xcc → Some (b ∷ later) ≡ Some bytes → IsNoTrap bytes
no-trap b later bytes other is = subst IsNoTrap (same_Some (b ∷ later) bytes is) (record { some = omega arith; fine = other })

no-trap-with : (o : Option (List ℕ)) (b : ℕ) (bytes : List ℕ) → b ≢ 0xcc → option_map (λ later. b ∷ later) o ≡ Some bytes → IsNoTrap bytes
no-trap-with None b bytes other is = cc
no-trap-with (Some later) b bytes other is = no-trap b later bytes other is

-- those of a form are such
name-no-trap : (form : Form) (at : ℕ) (bytes : List ℕ) → name form at ≡ Some bytes → IsNoTrap bytes
unfolding spell
name-no-trap Nop2 at bytes is = no-trap 0x66 _ bytes (λ (e : 0x66 ≡ 0xcc). omega arith) is
name-no-trap Nop5 at bytes is = no-trap 0x0f _ bytes (λ (e : 0x0f ≡ 0xcc). omega arith) is
name-no-trap (Jmp8 target) at bytes is = no-trap-with (displacement w8 (after at 2) target) 0xeb bytes (λ (e : 0xeb ≡ 0xcc). omega arith) is
name-no-trap (Jmp32 target) at bytes is = no-trap-with (displacement w32 (after at 5) target) 0xe9 bytes (λ (e : 0xe9 ≡ 0xcc). omega arith) is
name-no-trap (Call target) at bytes is = no-trap-with (displacement w32 (after at 5) target) 0xe8 bytes (λ (e : 0xe8 ≡ 0xcc). omega arith) is
name-no-trap Ret at bytes is = no-trap 0xc3 _ bytes (λ (e : 0xc3 ≡ 0xcc). omega arith) is

-- the first byte of a form that was fetched stood there
pub not-below-floor : (plan : LivePlan) (cpus word site : ℕ) (form : Form) (at : ℕ) (v w : View) → HasPhases plan → FirstBytesAreBreakpoints → w.shape ≡ shape_of plan cpus → Sits w → site < length plan.sites.items → FetchesForm plan word site form at v w → floor plan v site ≤ version_for plan w.cpu.ack (site_of plan site).at
not-below-floor plan cpus word site form at v w laws breakpoints shape sits listed f =
    let first = name-no-trap form at f.bytes f.named in
    let same : byte_number plan site 0 + 0 ≡ byte_number plan site 0 = omega arith in
    let there : cached w.cpu (byte_number plan site 0) ≡ Some (slice_index f.bytes 0) = subst (λ (b : ℕ). cached w.cpu b ≡ Some (slice_index f.bytes 0)) same (f.fetched.bytes_are 0 first.some) in
    let least = at-least-floor plan cpus w site (slice_index f.bytes 0) laws breakpoints shape listed (seen w (byte_number plan site 0) (slice_index f.bytes 0) sits there) first.fine in
    let kept = floor-kept plan v w site (kept-fetched (byte_number plan site 0) word f.bytes v w f.fetched) in
    omega arith

-- the turn of a pass
pub passed-turn : (m : Module) (plan : LivePlan) (cpus word site : ℕ) (form : Form) (n ack : ℕ) (mark : Mark) (c : CpuState) (q : Proc) (v w : View) → HasPhases plan → FirstBytesAreBreakpoints → w.shape ≡ shape_of plan cpus → (w.cpu.left ≡ false → Sits w) → v.cpu.left ≡ false → IsWhole plan word site v w form → c.trapped ≡ false → c.proc.life ≡ Running → IsSiteAt plan site c.proc.ip → n ≡ version_for plan ack c.proc.ip → ack ≡ w.cpu.ack → q ≡ (whole form c.proc.ip c.proc).0 → mark ≡ (whole form c.proc.ip c.proc).1 → Does m plan word (record { cpu = c; view = v }) v (record { cpu = cpu_of q false; view = w }) (Pass site form n ack mark)
passed-turn m plan cpus word site form n ack mark c q v w laws breakpoints shape keeps stays is free runs begins n_is ack_is cpu_is shows =
    let next : c.proc.ip ≡ next_at c = sym (next-free c free) in
    let sits = keeps ((kept-fetched (byte_number plan site 0) word is.fetched.bytes v w is.fetched.fetched).left ∙ stays) in
    let at_is = begins.begins in
    let number : n ≡ version_for plan w.cpu.ack (site_of plan site).at = n_is ∙ ap (λ (g : ℕ). version_for plan g c.proc.ip) ack_is ∙ ap (version_for plan w.cpu.ack) (sym at_is) in
    let most = at-most-floor plan w site laws begins.listed in
    let least = not-below-floor plan cpus word site form (site_of plan site).at v w laws breakpoints shape sits begins.listed is.fetched in
    let whole_is : DoesWhole plan site form n ack mark (record { cpu = c; view = v }) (record { cpu = cpu_of q false; view = w }) = record {
      runs = runs;
      begins = subst (IsSiteAt plan site) next begins;
      ack_is = ack_is;
      form_is = is.form_is ∙ ap (version plan site) (sym number);
      allowed =
          subst (λ (g : ℕ). IsAllowed plan site g n) (sym ack_is)
          (subst (IsAllowed plan site w.cpu.ack) (sym number) (allowed plan w.cpu.ack site laws begins.listed));
      cpu = subst (λ (at : ℕ). cpu_of q false ≡ cpu_of (whole form at c.proc).0 false) next (ap (λ (p : Proc). cpu_of p false) cpu_is);
      shows = subst (λ (at : ℕ). mark ≡ (whole form at c.proc).1) next shows;
      from = omega arith;
      to = omega arith;
    } in
    (whole_is, inl (free, subst (λ (at : ℕ). FetchesForm plan word site form at v w) at_is is.fetched))

-- the turn of a breakpoint that was fetched
pub trapped-turn : (plan : LivePlan) (word site : ℕ) (c : CpuState) (ip : ℕ) (v w : View) (fetched : Fetched) → c.trapped ≡ false → c.proc.life ≡ Running → IsSiteAt plan site c.proc.ip → fetched ≡ Trap → IsFetched plan word site v w fetched → ip ≡ after c.proc.ip 1 → FetchesTrap plan word c v (cpu_of (at_ip ip c.proc) true) w
trapped-turn plan word site c ip v w fetched free runs begins is told ip_is = record {
  free = free;
  runs = runs;
  site = site;
  begins = begins;
  fetched = subst (IsFetched plan word site v w) is told;
  cpu = ap (λ (at : ℕ). cpu_of (at_ip at c.proc) true) ip_is;
}

-- a whole form that was fetched
pub whole-told : (plan : LivePlan) (word site : ℕ) (v w : View) (fetched : Fetched) (form : Form) → fetched ≡ Whole form → IsFetched plan word site v w fetched → IsWhole plan word site v w form
whole-told plan word site v w fetched form is told = subst (IsFetched plan word site v w) is told

-- a request that was acknowledged is of one of the chunks, or the one after them
pub few-acks : (plan : LivePlan) (cpus : ℕ) (v : View) → Stands plan → ChunksHaveThreeRequests → v.shape ≡ shape_of plan cpus → Sits v → v.cpu.ack / 3 < 2 ^ 32
few-acks plan cpus v stands three shape sits =
    let cuts : length v.shape.cuts ≡ 3 * length (chunks_of plan) + 1 = ap (λ (p : Shape). length p.cuts) shape ∙ three plan cpus in
    let count : length (chunks_of plan) ≡ length plan.chunks.items = length-map plan.chunks.items (λ chunk. chunk.items) in
    let few = stands.few_chunks in
    let acked = sits.acked in
    let stored = sits.stored in
    omega arith
