-- The turns of processors.
use Rattle.std.proofs.Common.{◌≡◌, ◌∙◌, ◌+◌, ℕ, min, true, false, if◌then◌else◌, List, length, map, Option, Some, None, option_map, IfSome, slice_get, slice_set, refl, sym, ap, subst}
use Rattle.std.proofs.lemmas.List.{map-set}
use Rattle.std.proofs.lemmas.Option.{same_Some, slice_get-map}
use Rattle.cpu_core.specs.Turn.{CpuState, at_turn, handled_turn, plain_here, plain_serialises, plain_turn}
use Rattle.insn_forms.specs.Write.{Write}
use Rattle.poke_batch.specs.Walk.{Walk}
use Rattle.run_journal.specs.declared.event.Event.TheVariants.{Plain, Handle}
use Rattle.script_text.specs.declared.script.ScriptStep.{ScriptStep}
use Rattle.stale_fetch.specs.Past.{Past, with_serialised}
use Rattle.stale_fetch.specs.Windows.{WindowState, IsWindowsOf}
use Rattle.switching.specs.Choice.{most_idle}
use Rattle.switching.specs.Next.{at_cpu, marked, next, ran_handler, ran_plain, ran_site, used, with_cpu}
use Rattle.switching.specs.Said.{of_cpu, said, said_handler, said_plain, said_site}
use Rattle.switching.specs.State.{Cpu, State}
use Rattle.script_runner.specs.declared.progress.Progress.{Progress}
use Rattle.script_runner.specs.Turns.{IsUsed, progress_of}
use Rattle.script_runner.specs.World.{StandsFor, WorldSeen, past_of}
use Rattle.script_runner.proofs.Pasts.{marks_of, past_marked, past_with}
use Rattle.script_runner.proofs.Used.{used_else, used_left}

abbrev pub states_of : List Cpu → List CpuState
states_of cpus = map (λ (p : Cpu). p.state) cpus

-- a processor is there in the state, too
pub record IsThere (s : State) (c : ℕ) (x : CpuState) : Type 0 where
  pub cpu : Cpu
  pub here : slice_get s.cpus c ≡ Some cpu
  pub is : cpu.state ≡ x

there_of : (o : Option Cpu) (x : CpuState) → option_map (λ (p : Cpu). p.state) o ≡ Some x → (p : Cpu) × (o ≡ Some p) × (p.state ≡ x)
there_of None x is = absurd (cc)
there_of (Some p) x is = (p, refl, same_Some p.state x is)

pub there : (w : WorldSeen) (s : State) (c : ℕ) (x : CpuState) → StandsFor w s → slice_get w.cpus c ≡ Some x → IsThere s c x
there w s c x h here =
    let told = there_of (slice_get s.cpus c) x (sym (slice_get-map (λ (p : Cpu). p.state) s.cpus c) ∙ ap (λ (xs : List CpuState). slice_get xs c) (sym h.cpus) ∙ here) in
    record { cpu = told.0; here = told.1; is = told.2 }

-- the world after a turn of a processor
abbrev pub turned : WorldSeen → ℕ → CpuState → Progress → WindowState → WorldSeen
turned w c x progress text = record w {
  place = progress.place;
  turns = progress.turns;
  text = text;
  cpus = slice_set w.cpus c x;
  idle = min (w.idle + 1) most_idle;
}

-- it stands for the state after that turn
pub stands_turned : (w : WorldSeen) (s : State) (c : ℕ) (q : Cpu) (progress : Progress) (text : WindowState) → StandsFor w s → IsUsed w.batch.update (progress_of w) w.script.steps progress → IsWindowsOf text (past_with w.image s.writes (marks_of (slice_set s.cpus c q))) → StandsFor (turned w c q.state progress text) (with_cpu (used s) c q)
stands_turned w s c q progress text h used_is text_is =
    let same = used_else s in
    let script = used_left w s progress h used_is in
    record {
      text = subst (λ (ws : List Write). IsWindowsOf text (past_with w.image ws (marks_of (slice_set (used s).cpus c q)))) (sym same.writes) (subst (λ (cpus : List Cpu). IsWindowsOf text (past_with w.image s.writes (marks_of (slice_set cpus c q)))) (sym same.cpus) text_is);
      steps = ap (λ (l : List ScriptStep × ℕ). l.0) script;
      turns = ap (λ (l : List ScriptStep × ℕ). l.1) script;
      updates = h.updates ∙ sym same.updates;
      states = h.states ∙ sym same.states;
      opened = h.opened ∙ sym same.opened;
      sites = subst (λ (o : Option Walk). IfSome o (λ walk. w.sites ≡ length walk.changes)) (sym same.opened) h.sites;
      cpus = ap (λ (xs : List CpuState). slice_set xs c q.state) h.cpus ∙ sym (map-set (λ (p : Cpu). p.state) s.cpus c q) ∙ ap (λ (cpus : List Cpu). states_of (slice_set cpus c q)) (sym same.cpus);
    }

-- ---- a plain instruction

module _ (w : WorldSeen) (c : ℕ) (x : CpuState) (progress : Progress) (text : WindowState) (here : slice_get w.cpus c ≡ Some x) (used_is : IsUsed w.batch.update (progress_of w) w.script.steps progress) where
  pub stands_plain : ((p : Past) → IsWindowsOf w.text p → IsWindowsOf text (if plain_serialises (plain_here w.image x) then with_serialised p c else p)) → (s : State) → StandsFor w s → StandsFor (turned w c (plain_turn w.image x) progress text) (next w.image s (Plain c))
  stands_plain text_is s h =
      let t = there w s c x h here in
      let q : Cpu = record { state = plain_turn w.image t.cpu.state; mark = marked (plain_serialises (plain_here w.image t.cpu.state)) s t.cpu.mark } in
      subst (λ (o : Option Cpu). StandsFor (turned w c (plain_turn w.image x) progress text) (at_cpu o s (ran_plain w.image s c))) (sym t.here)
      (subst (λ (y : CpuState). StandsFor (turned w c (plain_turn w.image y) progress text) (with_cpu (used s) c q)) t.is
      (stands_turned w s c q progress text h used_is
      (subst (λ (p : Past). IsWindowsOf text p) (past_marked w.image s c t.cpu q (plain_serialises (plain_here w.image t.cpu.state)) t.here refl)
      (subst (λ (y : CpuState). IsWindowsOf text (if plain_serialises (plain_here w.image y) then with_serialised (past_of w.image s) c else past_of w.image s)) (sym t.is) (text_is (past_of w.image s) h.text)))))

  pub said_plain_is : (s : State) → StandsFor w s → said w.image s (Plain c) ≡ said_plain w.image c x
  said_plain_is s h =
      let t = there w s c x h here in
      ap (λ (o : Option Cpu). of_cpu o (said_plain w.image c)) t.here ∙ ap (λ (y : CpuState). said_plain w.image c y) t.is

  -- ---- a fetch at a patched site

  pub stands_site : (bytes : List ℕ) → ((p : Past) → IsWindowsOf w.text p → IsWindowsOf text p) → (s : State) → StandsFor w s → StandsFor (turned w c (at_turn bytes x) progress text) (at_cpu (slice_get s.cpus c) s (ran_site s c bytes))
  stands_site bytes text_is s h =
      let t = there w s c x h here in
      let q : Cpu = record t.cpu { state = at_turn bytes t.cpu.state } in
      subst (λ (o : Option Cpu). StandsFor (turned w c (at_turn bytes x) progress text) (at_cpu o s (ran_site s c bytes))) (sym t.here)
      (subst (λ (y : CpuState). StandsFor (turned w c (at_turn bytes y) progress text) (with_cpu (used s) c q)) t.is
      (stands_turned w s c q progress text h used_is
      (subst (λ (p : Past). IsWindowsOf text p) (past_marked w.image s c t.cpu q false t.here refl) (text_is (past_of w.image s) h.text))))

  pub said_site_is : (bytes : List ℕ) (s : State) → StandsFor w s → of_cpu (slice_get s.cpus c) (said_site c bytes) ≡ said_site c bytes x
  said_site_is bytes s h =
      let t = there w s c x h here in
      ap (λ (o : Option Cpu). of_cpu o (said_site c bytes)) t.here ∙ ap (λ (y : CpuState). said_site c bytes y) t.is

  -- ---- the handler

  pub stands_handler : ((p : Past) → IsWindowsOf w.text p → IsWindowsOf text (with_serialised p c)) → (s : State) → StandsFor w s → StandsFor (turned w c (handled_turn w.batch.update x) progress text) (next w.image s (Handle c))
  stands_handler text_is s h =
      let t = there w s c x h here in
      let q : Cpu = record { state = handled_turn s.opened t.cpu.state; mark = length s.writes } in
      subst (λ (o : Option Cpu). StandsFor (turned w c (handled_turn w.batch.update x) progress text) (at_cpu o s (ran_handler s c))) (sym t.here)
      (subst (λ (u : Option Walk). StandsFor (turned w c (handled_turn u x) progress text) (with_cpu (used s) c q)) (sym h.opened)
      (subst (λ (y : CpuState). StandsFor (turned w c (handled_turn s.opened y) progress text) (with_cpu (used s) c q)) t.is
      (stands_turned w s c q progress text h used_is
      (subst (λ (p : Past). IsWindowsOf text p) (past_marked w.image s c t.cpu q true t.here refl) (text_is (past_of w.image s) h.text)))))

  pub said_handler_is : (s : State) → StandsFor w s → said w.image s (Handle c) ≡ said_handler w.batch.update c x
  said_handler_is s h =
      let t = there w s c x h here in
      ap (λ (o : Option Cpu). of_cpu o (said_handler s.opened c)) t.here ∙ ap (λ (y : CpuState). said_handler s.opened c y) t.is ∙ ap (λ (u : Option Walk). said_handler u c x) (sym h.opened)

-- ---- a turn of one that has ended

pub stands_tick : (w : WorldSeen) (progress : Progress) → IsUsed w.batch.update (progress_of w) w.script.steps progress → (s : State) → StandsFor w s → StandsFor (record w { place = progress.place; turns = progress.turns; idle = min (w.idle + 1) most_idle }) (used s)
stands_tick w progress used_is s h =
    let same = used_else s in
    let script = used_left w s progress h used_is in
    record {
      text = subst (λ (ws : List Write). IsWindowsOf w.text (past_with w.image ws (marks_of (used s).cpus))) (sym same.writes) (subst (λ (cpus : List Cpu). IsWindowsOf w.text (past_with w.image s.writes (marks_of cpus))) (sym same.cpus) h.text);
      steps = ap (λ (l : List ScriptStep × ℕ). l.0) script;
      turns = ap (λ (l : List ScriptStep × ℕ). l.1) script;
      updates = h.updates ∙ sym same.updates;
      states = h.states ∙ sym same.states;
      opened = h.opened ∙ sym same.opened;
      sites = subst (λ (o : Option Walk). IfSome o (λ walk. w.sites ≡ length walk.changes)) (sym same.opened) h.sites;
      cpus = h.cpus ∙ ap states_of (sym same.cpus);
    }
