-- After all chunks of a script's plan the lines of the sites are those of what the sites want after all of its updates.
use Rattle.std.proofs.Common.{◌≡◌, ◌∙◌, ◌+◌, ◌-◌, ℕ, zero, suc, Bool, true, false, not, cond, if◌then◌else◌, List, [], ◌∷◌, ◌++◌, length, take, drop, filter, All, Some, refl, sym, ap, subst, arith, length-drop}
use Rattle.std.specs.List.{AllZip, flat_map, slice_get}
use Rattle.std.specs.Option.{unwrap_or}
use Rattle.std.proofs.lemmas.List.{length-take}
use Rattle.std.proofs.lemmas.List.Elements.{All-contains, All-head, All-tail}
use Rattle.std.proofs.lemmas.Option.{same_Some}
use Rattle.insn_forms.specs.declared.forms.Change.{Change}
use Rattle.insn_forms.specs.declared.forms.Form.{Form}
use Rattle.key_state.specs.Outcome.{HoldsWanted, states_after}
use Rattle.key_state.proofs.Clashing.{foreign_bytes}
use Rattle.live_engine.specs.FirstForms.{StartsAsWanted}
use Rattle.live_engine.specs.LivePlan.{IsLiveSite, IsPlanOf, is_patched, last_bytes}
use Rattle.live_engine.proofs.LastForms.{last-track}
use Rattle.live_engine.proofs.Updates.{Track, one-number}
use Rattle.live_text.specs.declared.plan.LivePlan.{LivePlan}
use Rattle.live_text.specs.declared.plan.LiveSite.{LiveSite}
use Rattle.live_text.specs.Plan.{chunks_of, form_after}
use Rattle.module_parts.specs.declared.site.Site.{Site}
use Rattle.module_image.specs.Held.{first_states}
use Rattle.module_image.specs.Lent.{IsLaidOut}
use Rattle.module_image.specs.Module.{IsAccepted, Module, States, wants}
use Rattle.module_image.specs.SiteLine.{site_line, site_lines}
use Rattle.module_image.specs.Sites.{code_at}
use Rattle.module_image.proofs.Lent.{sites_laid_out}
use Rattle.poke_batch.specs.Poke.{spelled}
use Rattle.script_text.specs.Commands.{commands}
use Rattle.script_text.specs.Laws.{IsScriptOf}
use Rattle.script_text.specs.Script.{ScriptValue}
use Rattle.live_trace.specs.SiteText.{live_site_lines}

-- ---- the first bytes of a list

first_taken : (code rest : List ℕ) → take (length code) (code ++ rest) ≡ code
first_taken [] rest = refl
first_taken (byte ∷ code) rest = ap (λ (bytes : List ℕ). byte ∷ bytes) (first_taken code rest)

first_dropped : (code rest : List ℕ) → drop (length code) (code ++ rest) ≡ rest
first_dropped [] rest = refl
first_dropped (byte ∷ code) rest = first_dropped code rest

-- ---- one site

-- the bytes of a site of the plan after all chunks
abbrev bytes_of : List (List Change) → LiveSite → List ℕ
bytes_of chunks live = spelled (form_after chunks live.at live.start) live.at

-- a site's code in a text of its module: a foreign site's is the file's, a patched one's is its last form's
record IsLast (m : Module) (text : List ℕ) (chunks : List (List Change)) (s : Site) : Type 0 where
  foreign : s.foreign ≡ true → code_at m.base text s.at s.len ≡ code_at m.base m.text s.at s.len
  patched :
      s.foreign ≡ false → (live : LiveSite) → live.at ≡ s.at → StartsAsWanted m live
      → bytes_of chunks live ≡ code_at m.base text s.at s.len
  long : length (code_at m.base text s.at s.len) ≡ s.len

-- two sites of a plan at one address have one form at first
same_start : (m : Module) (one other : LiveSite) → IsLaidOut m → StartsAsWanted m one → StartsAsWanted m other → other.at ≡ one.at → one.start ≡ other.start
same_start m one other laid first second same =
    let number : second.number ≡ first.number = one-number m first.number second.number first.there.site second.there.site laid first.there.here second.there.here (second.there.begins ∙ same ∙ sym first.there.begins) in
    same_Some one.start other.start (sym first.wanted ∙ ap (wants m (first_states m)) (sym number) ∙ second.wanted)

is_last : (m : Module) (states : States) (text : List ℕ) (lives : List LiveSite) (chunks : List (List Change)) (i : ℕ) (s : Site) → IsLaidOut m → HoldsWanted m states text → Track m lives states chunks → All (StartsAsWanted m) lives → slice_get m.sites i ≡ Some s → IsLast m text chunks s
is_last m states text lives chunks i s laid holds track starts here = record {
  foreign = λ foreign. foreign_bytes m states text i s laid holds here foreign;
  patched = λ ours live there start.
      let has = track i s here ours in
      let form : Form = form_after chunks s.at has.live.start in
      let same : live.start ≡ has.live.start = same_start m live has.live laid start (All-contains (StartsAsWanted m) lives has.live starts has.listed) (has.there ∙ sym there) in
      ap (λ (at : ℕ). spelled (form_after chunks at live.start) at) there
      ∙ ap (λ (f : Form). spelled (form_after chunks s.at f) s.at) same
      ∙ ap (λ code. unwrap_or code []) (holds.patched i s form here ours has.form);
  long =
      let inside = laid.inside i s here in
      let from = inside.from in
      let to = inside.to in
      let same = holds.same_length in
      omega (arith, from, to, same, length-take s.len (drop (s.at - m.base) text), length-drop (s.at - m.base) text);
}

-- ---- all sites

-- a site's line, and those after it
lines_by : (m : Module) (text : List ℕ) (chunks : List (List Change)) (foreign : Bool) (s : Site) (sites : List Site) (lives : List LiveSite) → s.foreign ≡ foreign → AllZip (IsLiveSite m) (cond (not foreign) (s ∷ filter is_patched sites) (filter is_patched sites)) lives → All (StartsAsWanted m) lives → IsLast m text chunks s → ((others : List LiveSite) → AllZip (IsLiveSite m) (filter is_patched sites) others → All (StartsAsWanted m) others → live_site_lines m.base m.text sites (flat_map (bytes_of chunks) others) ≡ site_lines m.base text sites) → site_line s (if foreign then code_at m.base m.text s.at s.len else take s.len (flat_map (bytes_of chunks) lives)) ++ live_site_lines m.base m.text sites (if foreign then flat_map (bytes_of chunks) lives else drop s.len (flat_map (bytes_of chunks) lives)) ≡ site_line s (code_at m.base text s.at s.len) ++ site_lines m.base text sites
lines_by m text chunks true s sites lives own zip starts last rest =
    ap (λ (code : List ℕ). site_line s code ++ live_site_lines m.base m.text sites (flat_map (bytes_of chunks) lives)) (sym (last.foreign own))
    ∙ ap (λ (lines : List ℕ). site_line s (code_at m.base text s.at s.len) ++ lines) (rest lives zip starts)
lines_by m text chunks false s sites [] own zip starts last rest = absurd zip
lines_by m text chunks false s sites (live ∷ lives) own zip starts last rest =
    let code = code_at m.base text s.at s.len in
    let later = flat_map (bytes_of chunks) lives in
    let bytes : bytes_of chunks live ≡ code = last.patched own live zip.0.at (All-head (StartsAsWanted m) live lives starts) in
    let taken : take s.len (bytes_of chunks live ++ later) ≡ code = ap (λ (b : List ℕ). take s.len (b ++ later)) bytes ∙ ap (λ (n : ℕ). take n (code ++ later)) (sym last.long) ∙ first_taken code later in
    let dropped : drop s.len (bytes_of chunks live ++ later) ≡ later = ap (λ (b : List ℕ). drop s.len (b ++ later)) bytes ∙ ap (λ (n : ℕ). drop n (code ++ later)) (sym last.long) ∙ first_dropped code later in
    ap (λ (c : List ℕ). site_line s c ++ live_site_lines m.base m.text sites (drop s.len (bytes_of chunks live ++ later))) taken
    ∙ ap (λ (b : List ℕ). site_line s code ++ live_site_lines m.base m.text sites b) dropped
    ∙ ap (λ (lines : List ℕ). site_line s code ++ lines) (rest lives zip.1 (All-tail (StartsAsWanted m) live lives starts))

lines_of : (m : Module) (text : List ℕ) (chunks : List (List Change)) (sites : List Site) (lives : List LiveSite) → AllZip (IsLiveSite m) (filter is_patched sites) lives → All (StartsAsWanted m) lives → ((i : ℕ) (s : Site) → slice_get sites i ≡ Some s → IsLast m text chunks s) → live_site_lines m.base m.text sites (flat_map (bytes_of chunks) lives) ≡ site_lines m.base text sites
lines_of m text chunks [] lives zip starts last = refl
lines_of m text chunks (s ∷ sites) lives zip starts last =
    lines_by m text chunks s.foreign s sites lives refl zip starts (last 0 s refl)
    (λ others rest more. lines_of m text chunks sites others rest more (λ i u here. last (suc i) u here))

pub updated_sites_are_wanted : (m : Module) (script : ScriptValue) (plan : LivePlan) (text : List ℕ) → IsAccepted m → IsScriptOf m script → IsPlanOf m script plan → HoldsWanted m (states_after m (first_states m) (commands script.steps)) text → live_site_lines m.base m.text m.sites (last_bytes plan) ≡ site_lines m.base text m.sites
updated_sites_are_wanted m script plan text accepted of is holds =
    lines_of m text (chunks_of plan) m.sites plan.sites.items is.live.sites is.firsts
    (λ i s here.
    is_last m (states_after m (first_states m) (commands script.steps)) text plan.sites.items (chunks_of plan) i s (sites_laid_out m accepted) holds
    (last-track m script plan accepted of is) is.firsts here)
