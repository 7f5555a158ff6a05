-- The bytes of all sites after all chunks: how many there are, and that they are what a finished plan leaves.
use Rattle.std.proofs.Common.{◌≡◌, ◌+◌, ◌*◌, ◌<◌, ◌∙◌, ℕ, suc, List, [], ◌∷◌, length, get_or, map, take, refl, ap, sym, arith, length-append}
use Rattle.std.specs.List.{flat_map}
use Rattle.std.proofs.lemmas.List.{get_or_default, length-map, take_all}
use Rattle.insn_forms.specs.declared.forms.Change.{Change}
use Rattle.insn_forms.specs.declared.forms.Form.TheVariants.{Nop2}
use Rattle.insn_forms.specs.Write.{Write}
use Rattle.live_text.specs.declared.plan.LivePlan.{LivePlan}
use Rattle.live_text.specs.declared.plan.LiveSite.{LiveSite}
use Rattle.live_text.specs.Flat.{ends, joined, placed, rounds, shape_of, starts}
use Rattle.live_text.specs.Laws.{ChunksMakeVersions}
use Rattle.live_text.specs.Own.{site_of}
use Rattle.live_text.specs.Past.{cut}
use Rattle.live_text.specs.Plan.{Stands, chunks_of, form_after}
use Rattle.live_text.specs.Versions.{version}
use Rattle.poke_batch.specs.Poke.{spelled}
use Rattle.live_engine.specs.LivePlan.{last_bytes}
use Rattle.live_engine.proofs.FetchSteps.{length-spelled}
use Rattle.live_engine.proofs.SiteForms.{spelt-version}

-- lists of as many bytes each make lists of as many bytes
pub lengths : (f g : LiveSite → List ℕ) (sites : List LiveSite) → ((k : ℕ) (d : LiveSite) → k < length sites → length (f (get_or sites k d)) ≡ length (g (get_or sites k d))) → length (flat_map f sites) ≡ length (flat_map g sites)
lengths f g [] same = refl
lengths f g (s ∷ sites) same =
    let one = same 0 s (omega arith) in
    let rest = lengths f g sites (λ k d lt. same (suc k) d (omega arith)) in
    omega (arith, length-append (f s) (flat_map f sites), length-append (g s) (flat_map g sites))

-- the last form of a site has as many bytes as the first
pub last-size : ChunksMakeVersions → (plan : LivePlan) → Stands plan → (k : ℕ) (d : LiveSite) → k < length plan.sites.items → length (spelled (form_after (chunks_of plan) (get_or plan.sites.items k d).at (get_or plan.sites.items k d).start) (get_or plan.sites.items k d).at) ≡ length (spelled (get_or plan.sites.items k d).start (get_or plan.sites.items k d).at)
last-size makes plan stands k d lt =
    let n = length (chunks_of plan) in
    let is = spelt-version makes plan k n stands lt in
    let first = spelt-version makes plan k 0 stands lt in
    let here : get_or plan.sites.items k d ≡ site_of plan k = get_or_default plan.sites.items k d (record { at = 0; start = Nop2 }) lt in
    let all : take n (chunks_of plan) ≡ chunks_of plan = take_all n (chunks_of plan) (omega arith) in
    let long = length-spelled (version plan k n) (site_of plan k).at is.spelt ∙ is.one_size ∙ sym first.one_size ∙ sym (length-spelled (version plan k 0) (site_of plan k).at first.spelt) in
    ap (λ (s : LiveSite). length (spelled (form_after (chunks_of plan) s.at s.start) s.at)) here
    ∙ ap (λ (cs : List (List Change)). length (spelled (form_after cs (site_of plan k).at (site_of plan k).start) (site_of plan k).at)) (sym all)
    ∙ long
    ∙ ap (λ (s : LiveSite). length (spelled s.start s.at)) (sym here)

pub last-length : (plan : LivePlan) → ChunksMakeVersions → Stands plan → length (last_bytes plan) ≡ length (starts plan.sites.items)
last-length plan makes stands =
    lengths (λ (s : LiveSite). spelled (form_after (chunks_of plan) s.at s.start) s.at) (λ (s : LiveSite). spelled s.start s.at) plan.sites.items (last-size makes plan stands)

-- the last of the places where lists end is the length of all
ends-last : (n d : ℕ) (lists : List (List Write)) → get_or (ends n lists) (length lists) d ≡ n + length (joined lists)
ends-last n d [] = omega arith
ends-last n d (ws ∷ lists) =
    let rest = ends-last (n + length ws) d lists in
    omega (arith, length-append ws (joined lists))

rounds-long : (chunks : List (List Change)) → length (rounds chunks) ≡ 3 * length chunks
rounds-long [] = refl
rounds-long (chunk ∷ chunks) = (let rest = rounds-long chunks in omega arith)

-- after the last request all writes are done
pub cut-last : (plan : LivePlan) (cpus : ℕ) → cut (shape_of plan cpus) (3 * length (chunks_of plan)) ≡ length (shape_of plan cpus).writes
cut-last plan cpus =
    let more : length (map (placed plan.sites.items) (joined (rounds (chunks_of plan)))) ≡ length (joined (rounds (chunks_of plan))) = length-map (joined (rounds (chunks_of plan))) (placed plan.sites.items) in
    let zero_more : 0 + length (joined (rounds (chunks_of plan))) ≡ length (joined (rounds (chunks_of plan))) = omega arith in
    ap (λ r. cut (shape_of plan cpus) r) (sym (rounds-long (chunks_of plan)))
    ∙ ends-last 0 (length (shape_of plan cpus).writes) (rounds (chunks_of plan))
    ∙ zero_more ∙ sym more
