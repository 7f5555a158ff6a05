-- The plan's sites, one site of the module more.
use Rattle.std.proofs.Common.{◌≡◌, ◌+◌, ◌<◌, ◌∙◌, ℕ, Bool, true, false, not, cond, List, [], ◌∷◌, ◌++◌, length, get_or, take, filter, Some, All, refl, ap, sym, subst, append-nil, true≢false}
use Rattle.std.specs.List.{AllZip, slice_get}
use Rattle.std.proofs.lemmas.List.{get_or_default, take_more}
use Rattle.std.proofs.lemmas.List.Elements.{All-push, filter-append}
use Rattle.std.proofs.lemmas.Option.{slice_get-get_or}
use Rattle.insn_forms.specs.declared.forms.Form.{Form}
use Rattle.live_text.specs.declared.plan.LiveSite.{LiveSite}
use Rattle.module_parts.specs.declared.site.Site.{Site}
use Rattle.module_image.specs.Held.{first_states}
use Rattle.module_image.specs.Module.{IsAccepted, Module, States, wants}
use Rattle.module_laws.proofs.HeldWanted.{wanted_held}
use Rattle.live_engine.specs.FirstForms.{StartsAsWanted}
use Rattle.live_engine.specs.LivePlan.{IsLiveSite, is_patched}

-- one place more
all-zip-push : {A B : Type 0} (R : A → B → Type 0) (xs : List A) (ys : List B) (x : A) (y : B) → AllZip R xs ys → R x y → AllZip R (xs ++ x ∷ []) (ys ++ y ∷ [])
all-zip-push R [] [] x y all one = (one, tt)
all-zip-push R [] (b ∷ ys) x y all one = absurd all
all-zip-push R (a ∷ xs) [] x y all one = absurd all
all-zip-push R (a ∷ xs) (b ∷ ys) x y all one = (all.0, all-zip-push R xs ys x y all.1 one)

-- the patched sites among one more
more-sites : (sites : List Site) (number : ℕ) (s : Site) → number < length sites → s ≡ get_or sites number s → filter is_patched (take (number + 1) sites) ≡ filter is_patched (take number sites) ++ filter is_patched (s ∷ [])
more-sites sites number s lt here =
    ap (filter is_patched) (take_more sites number s lt)
    ∙ filter-append is_patched (take number sites) (get_or sites number s ∷ [])
    ∙ ap (λ (x : Site). filter is_patched (take number sites) ++ filter is_patched (x ∷ [])) (sym here)

-- the plan's sites of the first sites of a module
pub record ArePlanned (m : Module) (number : ℕ) (lives : List LiveSite) : Type 0 where
  pub sites : AllZip (IsLiveSite m) (filter is_patched (take number m.sites)) lives
  pub starts : All (StartsAsWanted m) lives

-- a patched site is put to them
site-put : (m : Module) (states : States) (number : ℕ) (s : Site) (form : Form) (lives new : List LiveSite) → IsAccepted m → states ≡ first_states m → number < length m.sites → s ≡ get_or m.sites number s → s.foreign ≡ false → wants m states number ≡ Some form → new ≡ lives ++ record { at = s.at; start = form } ∷ [] → ArePlanned m number lives → ArePlanned m (number + 1) new
site-put m states number s form lives new accepted first lt here ours wanted added before =
    let listed : slice_get m.sites number ≡ Some s = slice_get-get_or m.sites number s lt ∙ ap Some (sym here) in
    let live : LiveSite = record { at = s.at; start = form } in
    let wants_first : wants m (first_states m) number ≡ Some form = ap (λ (x : States). wants m x number) (sym first) ∙ wanted in
    let is : IsLiveSite m s live = record { at = refl; holds = wanted_held m number s form accepted listed ours wants_first } in
    let starts : StartsAsWanted m live = record {
      number = number;
      there = record { below = lt; site = s; here = listed; begins = refl; ours = ours };
      wanted = wants_first;
    } in
    let one : filter is_patched (s ∷ []) ≡ s ∷ [] = ap (λ (b : Bool). cond (not b) (s ∷ []) []) ours in
    let all : filter is_patched (take (number + 1) m.sites) ≡ filter is_patched (take number m.sites) ++ s ∷ [] = more-sites m.sites number s lt here ∙ ap (λ (xs : List Site). filter is_patched (take number m.sites) ++ xs) one in
    record {
      sites = subst (λ (ys : List LiveSite). AllZip (IsLiveSite m) (filter is_patched (take (number + 1) m.sites)) ys) (sym added) (subst (λ (xs : List Site). AllZip (IsLiveSite m) xs (lives ++ live ∷ [])) (sym all) (all-zip-push (IsLiveSite m) (filter is_patched (take number m.sites)) lives s live before.sites is));
      starts = subst (λ (ys : List LiveSite). All (StartsAsWanted m) ys) (sym added) (All-push (StartsAsWanted m) lives live before.starts starts);
    }

-- a foreign one is passed over
site-passed : (m : Module) (number : ℕ) (s : Site) (lives : List LiveSite) → number < length m.sites → s ≡ get_or m.sites number s → s.foreign ≡ true → ArePlanned m number lives → ArePlanned m (number + 1) lives
site-passed m number s lives lt here foreign before =
    let one : filter is_patched (s ∷ []) ≡ [] = ap (λ (b : Bool). cond (not b) (s ∷ []) []) foreign in
    let all : filter is_patched (take (number + 1) m.sites) ≡ filter is_patched (take number m.sites) = more-sites m.sites number s lt here ∙ ap (λ (xs : List Site). filter is_patched (take number m.sites) ++ xs) one ∙ append-nil (filter is_patched (take number m.sites)) in
    record { sites = subst (λ (xs : List Site). AllZip (IsLiveSite m) xs lives) (sym all) before.sites; starts = before.starts }

-- ---- a step of the loop over the sites, with a site as it is read

-- it is one of the module's
read-site : (m : Module) (sites : List Site) (number : ℕ) (d : Site) → sites ≡ m.sites → number < length sites → get_or sites number d ≡ get_or m.sites number (get_or sites number d)
read-site m sites number d same lt =
    get_or_default sites number d (get_or sites number d) lt ∙ ap (λ (xs : List Site). get_or xs number (get_or sites number d)) same

-- a list with as many sites has its number
still-below : (sites others : List Site) (number : ℕ) → others ≡ sites → number < length sites → number < length others
still-below sites others number same lt = subst (λ (xs : List Site). number < length xs) (sym same) lt

-- a test of not passes where it fails
passes : (b : Bool) → not b ≡ true → b ≡ false
passes true e = absurd (true≢false (sym e))
passes false e = refl

fails : (b : Bool) → not b ≡ false → b ≡ true
fails true e = refl
fails false e = absurd (true≢false e)

pub read-put : (m : Module) (states : States) (counted sites : List Site) (number : ℕ) (d : Site) (form : Form) (lives new : List LiveSite) → IsAccepted m → counted ≡ m.sites → sites ≡ m.sites → states ≡ first_states m → number < length counted → not (get_or sites number d).foreign ≡ true → wants m states number ≡ Some form → new ≡ lives ++ record { at = (get_or sites number d).at; start = form } ∷ [] → ArePlanned m number lives → ArePlanned m (number + 1) new
read-put m states counted sites number d form lives new accepted all same first lt ours wanted added before =
    let s : Site = get_or sites number d in
    let below : number < length m.sites = still-below counted m.sites number (sym all) lt in
    site-put m states number s form lives new accepted first below (read-site m sites number d same (still-below m.sites sites number same below)) (passes s.foreign ours) wanted added before

pub read-passed : (m : Module) (counted sites : List Site) (number : ℕ) (d : Site) (lives new : List LiveSite) → counted ≡ m.sites → sites ≡ m.sites → number < length counted → not (get_or sites number d).foreign ≡ false → new ≡ lives → ArePlanned m number lives → ArePlanned m (number + 1) new
read-passed m counted sites number d lives new all same lt foreign kept before =
    let s : Site = get_or sites number d in
    let below : number < length m.sites = still-below counted m.sites number (sym all) lt in
    subst (λ (ys : List LiveSite). ArePlanned m (number + 1) ys) (sym kept)
    (site-passed m number s lives below (read-site m sites number d same (still-below m.sites sites number same below)) (fails s.foreign foreign) before)
