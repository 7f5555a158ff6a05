-- A plan whose sites are the patched ones, each with the form that it wants at first, and whose chunks are those of the updates of a script.
use Rattle.std.proofs.Common.{◌≡◌, ◌∙◌, ◌+◌, ◌-◌, ◌^◌, ◌<◌, ◌≤◌, ℕ, zero, suc, Bool, true, false, not, cond, List, [], ◌∷◌, length, filter, drop, All, AllPairs, Some, refl, sym, ap, subst, arith, length-drop}
use Rattle.std.specs.Prelude.{IsSome, slice_get}
use Rattle.std.specs.List.{AllZip, Contains}
use Rattle.std.specs.Option.{is_some}
use Rattle.std.proofs.lemmas.List.{length-map, length-take}
use Rattle.std.proofs.lemmas.List.Elements.{All-contains, All-nil, All-cons, All-head, All-tail, All-weaker}
use Rattle.std.proofs.lemmas.List.Filters.{length-filter_both}
use Rattle.std.proofs.lemmas.List.Kept.{AllPairs-cons, AllPairs-filter}
use Rattle.std.proofs.lemmas.Option.{none-some, same_Some, slice_get-get_or}
use Rattle.insn_forms.specs.declared.forms.Change.{Change}
use Rattle.insn_forms.specs.Spelling.{size, spell}
use Rattle.insn_forms.proofs.Spellings.{length-spell}
use Rattle.key_state.proofs.First.{first_of}
use Rattle.key_state.proofs.Poking.{spelt_there}
use Rattle.live_text.specs.declared.plan.LivePlan.{LivePlan}
use Rattle.live_text.specs.declared.plan.LiveSite.{LiveSite}
use Rattle.live_text.specs.Plan.{SitesApart, Stands, chunks_of}
use Rattle.module_parts.specs.declared.site.Site.{Site}
use Rattle.module_image.specs.Held.{first_states}
use Rattle.module_image.specs.Lent.{IsLaidOut}
use Rattle.module_image.specs.Module.{IsAccepted, Module, wants}
use Rattle.module_image.specs.Sites.{code_at}
use Rattle.module_image.specs.Text.{IsInside}
use Rattle.module_image.proofs.Lent.{sites_laid_out}
use Rattle.script_text.specs.Commands.{commands}
use Rattle.script_text.specs.Laws.{IsScriptOf}
use Rattle.script_text.specs.Script.{ScriptValue}
use Rattle.live_engine.specs.FirstForms.{StartsAsWanted}
use Rattle.live_engine.specs.LivePlan.{AreLiveSites, IsLiveSite, IsPlanOf, IsWanted, chunks_made, is_patched}
use Rattle.live_engine.proofs.FormsAfter.{pairs-head, pairs-tail}
use Rattle.live_engine.proofs.MadeChunks.{AreMade, chunks-made, commands-counted, commands-known}
use Rattle.live_engine.proofs.StandingChunks.{follow-at}
use Rattle.live_engine.proofs.Updates.{Track, one-number}

-- ---- lists in step

-- they have one length
zip-length : {A B : Type 0} (R : A → B → Type 0) (xs : List A) (ys : List B) → AllZip R xs ys → length xs ≡ length ys
zip-length R [] [] zip = refl
zip-length R [] (y ∷ ys) zip = absurd zip
zip-length R (x ∷ xs) [] zip = absurd zip
zip-length R (x ∷ xs) (y ∷ ys) zip = (let rest = zip-length R xs ys zip.1 in omega arith)

-- what holds of each of the first list gives what holds of each of the second
zip-all : {A B : Type 0} (R : A → B → Type 0) (P : A → Type 0) (Q : B → Type 0) (xs : List A) (ys : List B) → AllZip R xs ys → All P xs → ((x : A) (y : B) → P x → R x y → Q y) → All Q ys
zip-all R P Q [] [] zip all each = All-nil Q
zip-all R P Q [] (y ∷ ys) zip all each = absurd zip
zip-all R P Q (x ∷ xs) [] zip all each = absurd zip
zip-all R P Q (x ∷ xs) (y ∷ ys) zip all each =
    All-cons Q y ys (each x y (All-head P x xs all) zip.0) (zip-all R P Q xs ys zip.1 (All-tail P x xs all) each)

-- and the same of each two
zip-pairs : {A B : Type 0} (R : A → B → Type 0) (P : A → A → Type 0) (Q : B → B → Type 0) (xs : List A) (ys : List B) → AllZip R xs ys → AllPairs P xs → ((x u : A) (y v : B) → P x u → R x y → R u v → Q y v) → AllPairs Q ys
zip-pairs R P Q [] [] zip pairs each = λ i j d lt below. absurd (omega (arith, below))
zip-pairs R P Q [] (y ∷ ys) zip pairs each = absurd zip
zip-pairs R P Q (x ∷ xs) [] zip pairs each = absurd zip
zip-pairs R P Q (x ∷ xs) (y ∷ ys) zip pairs each =
    AllPairs-cons Q y ys
    (zip-all R (P x) (Q y) xs ys zip.1 (pairs-head P x xs pairs) (λ u v later one. each x u y v later zip.0 one))
    (zip-pairs R P Q xs ys zip.1 (pairs-tail P x xs pairs) each)

-- ---- the sites

-- a patched site is among the plan's sites
record IsListed (m : Module) (lives : List LiveSite) (s : Site) : Type 0 where
  live : LiveSite
  among : Contains lives live
  is : IsLiveSite m s live

listed-later : (m : Module) (lives : List LiveSite) (s : Site) (first : LiveSite) → IsListed m lives s → IsListed m (first ∷ lives) s
listed-later m lives s first listed =
    let k = listed.among.0 in
    let below = listed.among.1 in
    record { live = listed.live; among = (suc k, omega (arith, below), listed.among.2); is = listed.is }

listed-first : (m : Module) (s : Site) (sites : List Site) (lives : List LiveSite) → AllZip (IsLiveSite m) (s ∷ sites) lives → IsListed m lives s
listed-first m s sites [] zip = absurd zip
listed-first m s sites (live ∷ lives) zip = record { live = live; among = (0, omega arith, refl); is = zip.0 }

-- the site before it is passed over, or isn't
listed-after : (m : Module) (s x : Site) (foreign : Bool) (sites : List Site) (lives : List LiveSite) → AllZip (IsLiveSite m) (cond (not foreign) (x ∷ sites) sites) lives → ((others : List LiveSite) → AllZip (IsLiveSite m) sites others → IsListed m others s) → IsListed m lives s
listed-after m s x true sites lives zip rest = rest lives zip
listed-after m s x false sites [] zip rest = absurd zip
listed-after m s x false sites (live ∷ lives) zip rest = listed-later m lives s live (rest lives zip.1)

listed : (m : Module) (sites : List Site) (lives : List LiveSite) (i : ℕ) (s : Site) → AllZip (IsLiveSite m) (filter is_patched sites) lives → slice_get sites i ≡ Some s → s.foreign ≡ false → IsListed m lives s
listed m [] lives i s zip here ours = absurd (none-some s here)
listed m (x ∷ sites) lives zero s zip here ours =
    let same : x ≡ s = same_Some x s here in
    let own : x.foreign ≡ false = ap (λ (y : Site). y.foreign) same ∙ ours in
    subst (IsListed m lives) same
    (listed-first m x (filter is_patched sites) lives
    (subst (λ (foreign : Bool). AllZip (IsLiveSite m) (cond (not foreign) (x ∷ filter is_patched sites) (filter is_patched sites)) lives) own zip))
listed m (x ∷ sites) lives (suc i) s zip here ours =
    listed-after m s x x.foreign (filter is_patched sites) lives zip (λ others rest. listed m sites others i s rest here ours)

-- before any chunk each has the form that it wants at first
pub first-track : (m : Module) (lives : List LiveSite) → IsLaidOut m → AreLiveSites m lives → All (StartsAsWanted m) lives → Track m lives (first_states m) []
first-track m lives laid zip starts i s here ours =
    let found = listed m m.sites lives i s zip here ours in
    let start = All-contains (StartsAsWanted m) lives found.live starts found.among in
    let number : start.number ≡ i = one-number m i start.number s start.there.site laid here start.there.here (start.there.begins ∙ found.is.at) in
    record {
      live = found.live;
      listed = found.among;
      there = found.is.at;
      form = ap (wants m (first_states m)) (sym number) ∙ start.wanted;
    }

-- its form has a spelling
start-spelt : (m : Module) (live : LiveSite) → IsAccepted m → StartsAsWanted m live → IsSome (spell live.start live.at)
start-spelt m live accepted start =
    let site = start.there.site in
    let spelt = spelt_there m (first_states m) start.number site live.start accepted (first_of m accepted) start.there.here start.wanted in
    ap (λ (at : ℕ). is_some (spell live.start at)) (sym start.there.begins) ∙ ap is_some spelt.spelt

-- and is one that it may want
start-wanted : (m : Module) (live : LiveSite) → IsAccepted m → StartsAsWanted m live → IsWanted m live.at live.start
start-wanted m live accepted start = record {
  states = first_states m;
  leads = (first_of m accepted).leads;
  site = start.number;
  there = start.there;
  wanted = start.wanted;
}

-- it has as many bytes as the site
live-size : (m : Module) (s : Site) (live : LiveSite) → IsInside m.base (length m.text) s → IsLiveSite m s live → size live.start ≡ s.len
live-size m s live inside is =
    let from = inside.from in
    let to = inside.to in
    let long = length-spell live.start s.at (code_at m.base m.text s.at s.len) is.holds in
    omega (arith, from, to, long, length-take s.len (drop (s.at - m.base) m.text), length-drop (s.at - m.base) m.text)

-- a site inside the text that ends before another begins, and the plan's sites of both
record AreBefore (m : Module) (s u : Site) : Type 0 where
  inside : IsInside m.base (length m.text) s
  apart : s.at + s.len ≤ u.at

sites-before : (m : Module) → IsLaidOut m → AllPairs (AreBefore m) m.sites
sites-before m laid i j d later below =
    let second = slice_get-get_or m.sites j d below in
    let first = slice_get-get_or m.sites i d (omega (arith, later, below)) in
    record { inside = laid.inside i _ first; apart = laid.apart i j _ _ later first second }

lives-apart : (m : Module) (lives : List LiveSite) → IsLaidOut m → AreLiveSites m lives → SitesApart lives
lives-apart m lives laid zip =
    zip-pairs (IsLiveSite m) (AreBefore m) (λ (s t : LiveSite). s.at + size s.start ≤ t.at) (filter is_patched m.sites) lives zip (AllPairs-filter (AreBefore m) is_patched m.sites (sites-before m laid))
    (λ x u y v before one other.
    let apart = before.apart in
    let long = live-size m x y before.inside one in
    let at = one.at in
    let next = other.at in
    omega (arith, apart, long, at, next))

-- there are few of them
few-lives : (m : Module) (lives : List LiveSite) → IsLaidOut m → AreLiveSites m lives → length lives < 2 ^ 32
few-lives m lives laid zip =
    let few = laid.few in
    let long = zip-length (IsLiveSite m) (filter is_patched m.sites) lives zip in
    let kept = length-filter_both is_patched (λ (s : Site). not (is_patched s)) (λ s. refl) m.sites in
    omega (arith, few, long, kept)

-- ---- the plan

-- what its chunks are after none
made-chunks : (m : Module) (script : ScriptValue) (lives : List LiveSite) → IsAccepted m → IsScriptOf m script → AreLiveSites m lives → All (StartsAsWanted m) lives → AreMade m lives [] (chunks_made m (first_states m) (commands script.steps)) (length (commands script.steps))
made-chunks m script lives accepted of zip starts =
    chunks-made m lives (commands script.steps) (first_states m) [] accepted (commands-known m script.steps of.steps) (first_of m accepted)
    (first-track m lives (sites_laid_out m accepted) zip starts)

few-made : (m : Module) (script : ScriptValue) (lives : List LiveSite) (made : List (List Change)) → IsScriptOf m script → AreMade m lives [] made (length (commands script.steps)) → length made < 2 ^ 32
few-made m script lives made of are =
    let few = are.few in
    let counted = commands-counted script.steps in
    let most = of.limits.few_updates in
    omega (arith, few, counted, most)

plan-stands : (m : Module) (script : ScriptValue) (plan : LivePlan) → IsAccepted m → IsScriptOf m script → AreLiveSites m plan.sites.items → All (StartsAsWanted m) plan.sites.items → AreMade m plan.sites.items [] (chunks_of plan) (length (commands script.steps)) → Stands plan
plan-stands m script plan accepted of zip starts made =
    let laid = sites_laid_out m accepted in
    let few = few-made m script plan.sites.items (chunks_of plan) of made in
    let long = length-map plan.chunks.items (λ chunk. chunk.items) in
    record {
      few_sites = few-lives m plan.sites.items laid zip;
      few_chunks = omega (arith, few, long);
      apart = lives-apart m plan.sites.items laid zip;
      spelt = All-weaker (StartsAsWanted m) (λ (s : LiveSite). IsSome (spell s.start s.at)) (λ live start. start-spelt m live accepted start) plan.sites.items starts;
      chunks = λ j chunk here. follow-at plan.sites.items (chunks_of plan) [] j chunk made.follow here;
    }

pub plan-is : (m : Module) (script : ScriptValue) (plan : LivePlan) → IsAccepted m → IsScriptOf m script → AreLiveSites m plan.sites.items → All (StartsAsWanted m) plan.sites.items → chunks_of plan ≡ chunks_made m (first_states m) (commands script.steps) → IsPlanOf m script plan
plan-is m script plan accepted of zip starts chunks_are =
    let made = subst (λ (cs : List (List Change)). AreMade m plan.sites.items [] cs (length (commands script.steps))) (sym chunks_are) (made-chunks m script plan.sites.items accepted of zip starts) in
    record {
      live = record {
        stands = plan-stands m script plan accepted of zip starts made;
        sites = zip;
        starts = All-weaker (StartsAsWanted m) (λ (s : LiveSite). IsWanted m s.at s.start) (λ live start. start-wanted m live accepted start) plan.sites.items starts;
        changes = made.wanted;
      };
      firsts = starts;
      chunks_are = chunks_are;
    }
