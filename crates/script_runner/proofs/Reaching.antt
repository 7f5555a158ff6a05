-- A running machine stays one: an event that may come leads from a state of a legal prefix to another.
use Rattle.std.proofs.Common.{◌≡◌, ◌∙◌, ◌≤◌, ℕ, List, [], ◌∷◌, ◌++◌, length, refl, sym, ap, subst, arith}
use Rattle.module_image.specs.Module.{Module}
use Rattle.run_journal.specs.declared.event.Event.{Event}
use Rattle.script_text.specs.Laws.{IsScriptOf}
use Rattle.script_text.specs.Script.{ScriptValue}
use Rattle.switching.specs.Choice.{most_idle}
use Rattle.switching.specs.Journal.{IsLegalSoFar, after}
use Rattle.switching.specs.Laws.{IsReached}
use Rattle.switching.specs.May.{May}
use Rattle.switching.specs.Next.{next}
use Rattle.switching.specs.State.{State, first}
use Rattle.script_runner.specs.declared.acted.Acted.{Acted}
use Rattle.script_runner.specs.World.{Does, IsWorld, MayCome, WorldSeen}

pub after_push : (m : Module) (s : State) (events : List Event) (e : Event) → after m s (events ++ e ∷ []) ≡ next m (after m s events) e
after_push m s [] e = refl
after_push m s (f ∷ events) e = after_push m (next m s f) events e

pub legal_push : (m : Module) (s : State) (events : List Event) (e : Event) → IsLegalSoFar m s events → May m (after m s events) e → IsLegalSoFar m s (events ++ e ∷ [])
legal_push m s [] e legal may = (may, tt)
legal_push m s (f ∷ events) e legal may = (legal.0, legal_push m (next m s f) events e legal.1 may)

pub reached_next : (m : Module) (s : State) (e : Event) → IsReached m s → May m s e → IsReached m (next m s e)
reached_next m s e r may = record {
  accepted = r.accepted;
  script = r.script;
  is_script = r.is_script;
  events = r.events ++ e ∷ [];
  legal = legal_push m (first m r.script) r.events e r.legal (subst (λ (x : State). May m x e) r.is may);
  is = ap (λ (x : State). next m x e) r.is ∙ sym (after_push m (first m r.script) r.events e);
}

-- what no event changes, and what each keeps
pub record Keeps (w v : WorldSeen) : Type 0 where
  pub room : v.room ≡ w.room
  pub sites : v.batch.sites ≡ w.batch.sites
  pub batch_cpus : v.batch.cpus ≡ w.batch.cpus
  pub cpus : length v.cpus ≡ length w.cpus
  pub place : v.place ≤ length w.script.steps
  pub idle : v.idle ≤ most_idle

pub world_next : (w v : WorldSeen) (e : Event) (text : List ℕ) (acted : Acted) → IsWorld w → MayCome w e → Does w e v text acted → Keeps w v → IsWorld v
world_next w v e text acted h may does keeps =
    let sites : length v.image.sites ≡ length w.image.sites = ap (λ (m : Module). length m.sites) does.image in
    let kept = keeps.batch_cpus in
    let cpus = keeps.cpus in
    let had = h.batch_cpus in
    let few = h.few_cpus in
    let steps : length v.script.steps ≡ length w.script.steps = ap (λ (s : ScriptValue). length s.steps) does.script in
    let place = keeps.place in
    record {
      script_of = subst (λ (m : Module). IsScriptOf m v.script) (sym does.image) (subst (λ (s : ScriptValue). IsScriptOf w.image s) (sym does.script) h.script_of);
      state = next w.image h.state e;
      reached = subst (λ (m : Module). IsReached m (next w.image h.state e)) (sym does.image) (reached_next w.image h.state e h.reached (may h.state h.stands));
      stands = does.stands h.state h.stands;
      room = keeps.room ∙ h.room ∙ sym sites;
      batch_sites = keeps.sites ∙ h.batch_sites ∙ sym sites;
      batch_cpus = kept ∙ had ∙ sym cpus;
      few_cpus = omega (arith, cpus, few);
      place = omega (arith, steps, place);
      idle = keeps.idle;
    }
