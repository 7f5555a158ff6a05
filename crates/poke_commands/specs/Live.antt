-- What `live` prints: how each update of a script ends, what each processor did, and what every site then holds.
use Rattle.std.specs.Prelude.{◌≡◌, ℕ, List, ◌++◌}
use Rattle.std.specs.List.{AllZip}
use Rattle.key_state.specs.Outcome.{HoldsWanted}
use Rattle.live_engine.specs.declared.cpu.Turn.{Turn}
use Rattle.live_engine.specs.LivePlan.{IsPlanOf}
use Rattle.live_engine.specs.Walks.{IsWalk}
use Rattle.live_text.specs.declared.plan.LivePlan.{LivePlan}
use Rattle.live_trace.specs.WalkText.{walks_text}
use Rattle.module_image.specs.Module.{Module}
use Rattle.module_image.specs.SiteLine.{site_lines}
use Rattle.script_text.specs.Script.{ScriptValue}
use Rattle.poke_commands.specs.Wants.{last_states, outcome_lines, script_outcomes}

-- each processor of the script walked from its entry on, in at most so many turns, over the live plan of the script: each pass
-- of a site is one whole version of it, one that the processor's acknowledgement allows
pub record Walked (m : Module) (s : ScriptValue) (turns : ℕ) (walks : List (List Turn)) : Type 0 where
  pub plan : LivePlan
  pub is_plan : IsPlanOf m s plan
  pub are_walks : AllZip (λ entry walk. IsWalk m plan entry turns walk) s.entries walks

-- the outcome lines, then the lines of the walks, then the lines of the sites in the text in which each patched site holds what
-- it wants in the end, and every other byte is as the module has it
pub record IsLiveText (m : Module) (s : ScriptValue) (turns : ℕ) (printed : List ℕ) : Type 0 where
  pub walks : List (List Turn)
  pub walked : Walked m s turns walks
  pub text : List ℕ
  pub settled : HoldsWanted m (last_states m s) text
  pub is :
      printed
      ≡ outcome_lines 1 (script_outcomes m s) ++ (walks_text m 0 s.entries walks ++ site_lines m.base text m.sites)
