-- The numbers of the bytes of the sites, and what a seat knows of a cached byte.
use Rattle.std.proofs.Common.{◌≡◌, ℕ, zero, suc, ◌+◌, ◌-◌, ◌<◌, ◌≤◌, List, [], ◌∷◌, ◌++◌, length, take, get_or, refl, ap, sym, ◌∙◌, subst, arith, All, Option, Some, None, IsSome, set, length-set, get_or-set_same}
use Rattle.std.proofs.lemmas.List.{take_more, length-append, length-map, take-take, take_all, get_or_default}
use Rattle.std.proofs.lemmas.List.Elements.{All-push}
use Rattle.insn_forms.specs.Spelling.{spell, size}
use Rattle.insn_forms.specs.Write.{Write}
use Rattle.insn_forms.specs.History.{written, IsCandidate}
use Rattle.poke_batch.specs.Poke.{spelled}
use Rattle.live_text.specs.declared.plan.LiveSite.{LiveSite}
use Rattle.live_text.specs.declared.view.Shape.{Shape}
use Rattle.live_text.specs.declared.view.View.{View}
use Rattle.live_text.specs.Flat.{starts}
use Rattle.live_text.specs.Steps.{fetched}
use Rattle.live_text.specs.Past.{memory, history, write_of, value, seek, Found}
use Rattle.live_text.specs.Rule.{cached}
use Rattle.live_text.specs.Seats.{Sits}
use Rattle.live_text.specs.Calls.{HadSince}
use Rattle.live_text.specs.declared.text.LiveText.TheInside.{Inside as TextInside}
use Rattle.live_text.specs.TextKept.{KeepsText}
use Rattle.live_text.specs.Own.{HasByte, byte_number}
use Rattle.live_text.proofs.Values.{seek_from}
use Rattle.live_text.proofs.Rounds.{length-spelled}

-- one bound more that reaches the request
pub reach_more : (stored : ℕ) (bounds : List ℕ) (i d : ℕ) → All (λ b. stored ≤ b) (take i bounds) → i < length bounds → stored ≤ get_or bounds i d → All (λ b. stored ≤ b) (take (i + 1) bounds)
reach_more stored bounds i d all below here =
    subst (λ (l : List ℕ). All (λ b. stored ≤ b) l) (sym (take_more bounds i d below)) (All-push (λ b. stored ≤ b) (take i bounds) (get_or bounds i d) all here)

-- each site has a spelling
abbrev pub AreSpelt : List LiveSite → Type 0
AreSpelt sites = All (λ (s : LiveSite). IsSome (spell s.start s.at)) sites

-- a byte of a site is one of the bytes of all sites
pub record IsThere (sites : List LiveSite) (site j : ℕ) : Type 0 where
  pub site_below : site < length sites
  pub byte_below : length (starts (take site sites)) + j < length (starts sites)

spelt_rest : (s : LiveSite) (sites : List LiveSite) → AreSpelt (s ∷ sites) → AreSpelt sites
spelt_rest s sites spelt i d below = spelt (suc i) d (omega arith)

pub there : (sites : List LiveSite) (site j : ℕ) (d : LiveSite) → AreSpelt sites → site < length sites → j < size (get_or sites site d).start → IsThere sites site j
there [] site j d spelt small has = absurd (omega arith)
there (s ∷ sites) zero j d spelt small has =
    let size_is : length (spelled s.start s.at) ≡ size s.start = length-spelled s.start s.at (spelt 0 s (omega arith)) in
    let long : length (spelled s.start s.at ++ starts sites) ≡ length (spelled s.start s.at) + length (starts sites) = length-append (spelled s.start s.at) (starts sites) in
    let below : j < size s.start = has in
    record { site_below = omega arith; byte_below = omega arith }
there (s ∷ sites) (suc site) j d spelt small has =
    let rest : IsThere sites site j = there sites site j d (spelt_rest s sites spelt) (omega arith) has in
    let below : site < length sites = rest.site_below in
    let low : length (starts (take site sites)) + j < length (starts sites) = rest.byte_below in
    let one : length (spelled s.start s.at ++ starts sites) ≡ length (spelled s.start s.at) + length (starts sites) = length-append (spelled s.start s.at) (starts sites) in
    let two : length (spelled s.start s.at ++ starts (take site sites)) ≡ length (spelled s.start s.at) + length (starts (take site sites)) = length-append (spelled s.start s.at) (starts (take site sites)) in
    record { site_below = omega arith; byte_below = omega arith }

-- the number that is computed from that of the site's first byte
pub record IsNumber (t : TextInside) (site j number : ℕ) : Type 0 where
  pub is : number ≡ byte_number t.laid.plan site j
  pub below : number < length (starts t.laid.plan.sites.items)
  pub laid : number < length t.laid.starts.items

pub numbered : (t : TextInside) (site j first : ℕ) → KeepsText t → HasByte t.laid.plan site j → first ≡ get_or t.laid.firsts.items site first → IsNumber t site j (first + j)
numbered t site j first kept has is =
    let at : IsThere t.laid.plan.sites.items site j = there t.laid.plan.sites.items site j _ kept.stands.spelt has.listed has.byte in
    let listed : site < length t.laid.plan.sites.items = has.listed in
    let count : length t.laid.firsts.items ≡ length t.laid.plan.sites.items = kept.laid.firsts.count in
    let first_is : first ≡ length (starts (take site t.laid.plan.sites.items)) = is ∙ get_or_default t.laid.firsts.items site first 0 (omega arith) ∙ kept.laid.firsts.firsts site listed in
    let low : length (starts (take site t.laid.plan.sites.items)) + j < length (starts t.laid.plan.sites.items) = at.byte_below in
    let same : length t.laid.starts.items ≡ length (starts t.laid.plan.sites.items) = ap (λ (p : Shape). length p.starts) kept.laid.shape in
    record { is = ap (λ (k : ℕ). k + j) first_is; below = omega arith; laid = omega arith }

-- a value that was found is one that the byte had, as far as the writes are known
pub found_had : (p : Shape) (low high b v : ℕ) → high ≤ length p.writes → Found p low high b v → IsCandidate (memory p) (take high (history p)) low b v
unfolding value
found_had p low high b v within f =
    let k : ℕ = seek p b v low (high - low) in
    let by : k ≤ high = f.by in
    let all : length (history p) ≡ length p.writes = length-map p.writes write_of in
    let some : length (take high (history p)) ≡ high = taken high (history p) (omega arith) in
    record {
      after = k;
      from = seek_from p b v low (high - low);
      to = omega arith;
      had = ap (λ (ws : List Write). written ws (memory p) b) (take-take k high (history p) by) ∙ f.same;
    }
  where
    taken : (n : ℕ) (l : List Write) → n ≤ length l → length (take n l) ≡ n
    taken zero l le = refl
    taken (suc n) [] le = absurd (omega arith)
    taken (suc n) (x ∷ l) le = ap suc (step n l (omega arith))
      where
        step : (m : ℕ) (r : List Write) → m ≤ length r → length (take m r) ≡ m
        step zero r e = refl
        step (suc m) [] e = absurd (omega arith)
        step (suc m) (y ∷ r) e = ap suc (step m r (omega arith))

-- so it is of every cached byte
pub cached_had : (v : View) (b n : ℕ) → Sits v → cached v.cpu b ≡ Some n → HadSince v b n
cached_had v b n sits held = found_had v.shape v.cpu.mark v.cpu.known b n sits.within (sits.cache_is b n held)

-- a byte that was loaded is cached
pub fetched_had : (v w : View) (b n m : ℕ) → w ≡ fetched b n v → n ≡ m → Sits w → b < length v.shape.starts → HadSince w b m
fetched_had v w b n m is same sits below =
    let size : length w.cpu.cache ≡ length w.shape.starts = sits.cache_size in
    let shape : w.shape ≡ v.shape = ap (λ (u : View). u.shape) is in
    let cache : w.cpu.cache ≡ set v.cpu.cache b (Some n) = ap (λ (u : View). u.cpu.cache) is in
    let long : length w.cpu.cache ≡ length v.cpu.cache = ap length cache ∙ length-set v.cpu.cache b (Some n) in
    let starts_same : length w.shape.starts ≡ length v.shape.starts = ap (λ (p : Shape). length p.starts) shape in
    let there' : get_or w.cpu.cache b None ≡ Some m = ap (λ (l : List (Option ℕ)). get_or l b None) cache ∙ get_or-set_same v.cpu.cache b (Some n) None (omega arith) ∙ ap (λ (k : ℕ). Some k) same in
    cached_had w b m sits there'

-- what is above them all stays so
pub reach_all : (stored : ℕ) (bounds : List ℕ) (n : ℕ) → All (λ b. stored ≤ b) (take n bounds) → length bounds ≤ n → All (λ b. stored ≤ b) bounds
reach_all stored bounds n all le = subst (λ (l : List ℕ). All (λ b. stored ≤ b) l) (take_all n bounds le) all
