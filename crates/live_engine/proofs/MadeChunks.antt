-- The chunks of the updates of a script's commands, one after the other.
use Rattle.std.proofs.Common.{◌≡◌, ◌∙◌, ◌+◌, ◌*◌, ◌≤◌, ℕ, List, [], ◌∷◌, ◌++◌, length, map, All, AllPairs, refl, sym, ap, subst, arith, length-append}
use Rattle.std.proofs.lemmas.List.Elements.{All-append, All-cons, All-head, All-nil, All-tail}
use Rattle.std.proofs.lemmas.List.Sums.{sum_by-cons}
use Rattle.insn_forms.specs.declared.forms.Change.{Change}
use Rattle.key_state.specs.Changes.{AreStatesOf}
use Rattle.key_state.specs.Outcome.{made_by, settled}
use Rattle.live_text.specs.declared.plan.LiveSite.{LiveSite}
use Rattle.live_text.specs.Plan.{IsChange}
use Rattle.module_parts.specs.declared.command.Command.{Command}
use Rattle.module_image.specs.Command.{IsCommandOf}
use Rattle.module_image.specs.Module.{IsAccepted, Module, States}
use Rattle.poke_batch.specs.Poke.{chunks}
use Rattle.poke_batch.proofs.Chunks.{chunks_of}
use Rattle.script_text.specs.declared.script.ScriptStep.{ScriptStep}
use Rattle.script_text.specs.declared.script.ScriptStep.TheVariants.{Update, Run, Drop}
use Rattle.script_text.specs.Commands.{commands}
use Rattle.script_text.specs.Laws.{IsStepOf}
use Rattle.script_text.specs.Script.{all_updates, update_count}
use Rattle.live_engine.specs.LivePlan.{IsWanted, chunks_made}
use Rattle.live_engine.proofs.FormsAfter.{Below, joined}
use Rattle.live_engine.proofs.StandingChunks.{Follow, Short, all-pieces, follow-append, full-short, pieces-follow, short-few}
use Rattle.live_engine.proofs.Updates.{Track, update-made}

-- a change's new form is one that its site wants
abbrev pub WantsNew : Module → Change → Type 0
WantsNew m c = IsWanted m c.at c.new

-- chunks stand after earlier ones, each change's new form is wanted, and there are few for so many updates
pub record AreMade (m : Module) (sites : List LiveSite) (earlier made : List (List Change)) (updates : ℕ) : Type 0 where
  pub follow : Follow sites earlier made
  pub wanted : All (All (WantsNew m)) made
  pub few : length made ≤ 1024 * updates

pub chunks-made : (m : Module) (sites : List LiveSite) (commands : List Command) (states : States) (earlier : List (List Change)) → IsAccepted m → All (IsCommandOf m) commands → AreStatesOf m states → Track m sites states earlier → AreMade m sites earlier (chunks_made m states commands) (length commands)
chunks-made m sites [] states earlier accepted known of track = record { follow = tt; wanted = All-nil (All (WantsNew m)); few = omega arith }
chunks-made m sites (command ∷ commands) states earlier accepted known of track =
    let made = update-made m sites states earlier command accepted of (All-head (IsCommandOf m) command commands known) track in
    let list = made_by m states command in
    let law = chunks_of list in
    let pieces = chunks list in
    let short : All Short pieces = full-short pieces law.full in
    let later = chunks_made m (settled m states command) commands in
    let rest = chunks-made m sites commands (settled m states command) (earlier ++ pieces) accepted (All-tail (IsCommandOf m) command commands known) made.of made.track in
    let ascend : AllPairs Below (joined pieces) = subst (λ (cs : List Change). AllPairs Below cs) (sym law.joined) made.ascend in
    let stand : All (IsChange sites earlier) (joined pieces) = subst (λ (cs : List Change). All (IsChange sites earlier) cs) (sym law.joined) made.changes in
    let wanted : All (WantsNew m) (joined pieces) = subst (λ (cs : List Change). All (WantsNew m) cs) (sym law.joined) made.wanted in
    let few = made.few in
    let size : length (joined pieces) ≡ length list = ap (λ (cs : List Change). length cs) law.joined in
    let more = rest.few in
    record {
      follow = follow-append sites pieces later earlier (pieces-follow sites pieces earlier short ascend stand) rest.follow;
      wanted = All-append (All (WantsNew m)) pieces later (all-pieces (WantsNew m) pieces wanted) rest.wanted;
      few = omega (arith, length-append pieces later, short-few pieces short, few, size, more);
    }

-- ---- the commands of a script

-- a step of a module has a command of it, or none
step-known : (m : Module) (step : ScriptStep) (steps : List ScriptStep) → IsStepOf m step → All (IsCommandOf m) (commands steps) → All (IsCommandOf m) (commands (step ∷ steps))
step-known m (Update command) steps known all = All-cons (IsCommandOf m) command (commands steps) known all
step-known m (Run turns) steps known all = all
step-known m (Drop place) steps known all = all

pub commands-known : (m : Module) (steps : List ScriptStep) → All (IsStepOf m) steps → All (IsCommandOf m) (commands steps)
commands-known m [] known = All-nil (IsCommandOf m)
commands-known m (step ∷ steps) known =
    step-known m step steps (All-head (IsStepOf m) step steps known) (commands-known m steps (All-tail (IsStepOf m) step steps known))

-- there are as many as updates
step-counted : (step : ScriptStep) (steps : List ScriptStep) → length (commands (step ∷ steps)) ≡ update_count step + length (commands steps)
step-counted (Update command) steps = omega arith
step-counted (Run turns) steps = omega arith
step-counted (Drop place) steps = omega arith

pub commands-counted : (steps : List ScriptStep) → length (commands steps) ≡ all_updates steps
commands-counted [] = refl
commands-counted (step ∷ steps) =
    step-counted step steps
    ∙ ap (λ (n : ℕ). update_count step + n) (commands-counted steps)
    ∙ sym (sum_by-cons (λ (n : ℕ). n) (update_count step) (map update_count steps))
