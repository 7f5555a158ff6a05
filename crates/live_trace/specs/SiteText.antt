-- The lines of the sites after a live run, by the bytes of the patched ones.
use Rattle.std.specs.Prelude.{◌≡◌, ℕ, if◌then◌else◌, List, [], ◌∷◌, ◌++◌, drop, take}
use Rattle.key_state.specs.Outcome.{HoldsWanted, states_after}
use Rattle.live_engine.specs.LivePlan.{IsPlanOf, last_bytes}
use Rattle.live_text.specs.declared.plan.LivePlan.{LivePlan}
use Rattle.module_parts.specs.declared.site.Site.{Site}
use Rattle.module_image.specs.Held.{first_states}
use Rattle.module_image.specs.Module.{IsAccepted, Module}
use Rattle.module_image.specs.SiteLine.{site_line, site_lines}
use Rattle.module_image.specs.Sites.{code_at}
use Rattle.script_text.specs.Commands.{commands}
use Rattle.script_text.specs.Laws.{IsScriptOf}
use Rattle.script_text.specs.Script.{ScriptValue}

-- a patched site holds the first of these bytes, and a foreign one what this text of the module has there; and the bytes that are
-- left after a site
abbrev pub code_here : ℕ → List ℕ → Site → List ℕ → List ℕ
code_here base text s bytes = if s.foreign then code_at base text s.at s.len else take s.len bytes

abbrev pub bytes_after : Site → List ℕ → List ℕ
bytes_after s bytes = if s.foreign then bytes else drop s.len bytes

-- the lines of all sites
abbrev pub live_site_lines : ℕ → List ℕ → List Site → List ℕ → List ℕ
live_site_lines base text [] bytes = []
live_site_lines base text (s ∷ sites) bytes =
    site_line s (code_here base text s bytes) ++ live_site_lines base text sites (bytes_after s bytes)

-- after all chunks of a script's plan the sites hold what they want after all of its updates
abbrev pub UpdatedSitesAreWanted : Type 0
UpdatedSitesAreWanted =
    (m : Module) (script : ScriptValue) (plan : LivePlan) (text : List ℕ) → IsAccepted m → IsScriptOf m script
    → IsPlanOf m script plan → HoldsWanted m (states_after m (first_states m) (commands script.steps)) text
    → live_site_lines m.base m.text m.sites (last_bytes plan) ≡ site_lines m.base text m.sites
