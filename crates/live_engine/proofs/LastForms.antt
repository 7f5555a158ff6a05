-- After all chunks of a script's plan each patched site has the form that it wants after all of its updates.
use Rattle.std.proofs.Common.{List, [], ◌∷◌, ◌++◌, All, sym, subst, append-nil}
use Rattle.std.proofs.lemmas.List.{append_assoc}
use Rattle.std.proofs.lemmas.List.Elements.{All-head, All-tail}
use Rattle.insn_forms.specs.declared.forms.Change.{Change}
use Rattle.key_state.specs.Changes.{AreStatesOf}
use Rattle.key_state.specs.Outcome.{made_by, settled, states_after}
use Rattle.key_state.proofs.First.{first_of}
use Rattle.live_text.specs.declared.plan.LivePlan.{LivePlan}
use Rattle.live_text.specs.declared.plan.LiveSite.{LiveSite}
use Rattle.live_text.specs.Plan.{chunks_of}
use Rattle.module_parts.specs.declared.command.Command.{Command}
use Rattle.module_image.specs.Command.{IsCommandOf}
use Rattle.module_image.specs.Held.{first_states}
use Rattle.module_image.specs.Module.{IsAccepted, Module, States}
use Rattle.module_image.proofs.Lent.{sites_laid_out}
use Rattle.poke_batch.specs.Poke.{chunks}
use Rattle.script_text.specs.Commands.{commands}
use Rattle.script_text.specs.Laws.{IsScriptOf}
use Rattle.script_text.specs.Script.{ScriptValue}
use Rattle.live_engine.specs.LivePlan.{IsPlanOf, chunks_made}
use Rattle.live_engine.proofs.LivePlans.{first-track}
use Rattle.live_engine.proofs.MadeChunks.{commands-known}
use Rattle.live_engine.proofs.Updates.{Track, update-made}

-- the chunks of some commands lead from the forms that are wanted before them to those that are wanted after them
track-made : (m : Module) (sites : List LiveSite) (commands : List Command) (states : States) (earlier : List (List Change)) → IsAccepted m → All (IsCommandOf m) commands → AreStatesOf m states → Track m sites states earlier → Track m sites (states_after m states commands) (earlier ++ chunks_made m states commands)
track-made m sites [] states earlier accepted known of track =
    subst (λ (before : List (List Change)). Track m sites states before) (sym (append-nil earlier)) track
track-made m sites (command ∷ commands) states earlier accepted known of track =
    let made = update-made m sites states earlier command accepted of (All-head (IsCommandOf m) command commands known) track in
    let pieces = chunks (made_by m states command) in
    let next = settled m states command in
    subst (λ (before : List (List Change)). Track m sites (states_after m next commands) before) (append_assoc earlier pieces (chunks_made m next commands))
    (track-made m sites commands next (earlier ++ pieces) accepted (All-tail (IsCommandOf m) command commands known) made.of made.track)

-- those of a script's plan
pub last-track : (m : Module) (script : ScriptValue) (plan : LivePlan) → IsAccepted m → IsScriptOf m script → IsPlanOf m script plan → Track m plan.sites.items (states_after m (first_states m) (commands script.steps)) (chunks_of plan)
last-track m script plan accepted of is =
    subst (λ (made : List (List Change)). Track m plan.sites.items (states_after m (first_states m) (commands script.steps)) made) (sym is.chunks_are)
    (track-made m plan.sites.items (commands script.steps) (first_states m) [] accepted (commands-known m script.steps of.steps) (first_of m accepted)
    (first-track m plan.sites.items (sites_laid_out m accepted) is.live.sites is.firsts))
