-- The machine before its first event.
use Rattle.std.proofs.Common.{◌≡◌, ◌∙◌, ℕ, List, [], ◌∷◌, length, map, drop, replicate, None, refl, sym, ap, subst, arith}
use Rattle.std.proofs.lemmas.List.{length-map}
use Rattle.cpu_core.specs.Turn.{CpuState, new_cpu}
use Rattle.module_image.specs.Held.{first_states}
use Rattle.module_image.specs.Module.{IsAccepted}
use Rattle.poke_batch.specs.Walk.{BatchState}
use Rattle.script_text.specs.Laws.{IsScriptOf}
use Rattle.stale_fetch.specs.Past.{Past, new_past}
use Rattle.stale_fetch.specs.Windows.{IsWindowsOf}
use Rattle.switching.specs.State.{Cpu, first, starting}
use Rattle.script_runner.specs.World.{IsWorld, StandsFor, WorldSeen, past_of}
use Rattle.script_runner.proofs.Pasts.{past_with}
use Rattle.script_runner.proofs.Turning.{states_of}

marks_first : (entries : List ℕ) → replicate (length entries) 0 ≡ map (λ (p : Cpu). p.mark) (map starting entries)
marks_first [] = refl
marks_first (entry ∷ entries) = ap (λ (ms : List ℕ). 0 ∷ ms) (marks_first entries)

cpus_first : (entries : List ℕ) → map new_cpu entries ≡ states_of (map starting entries)
cpus_first [] = refl
cpus_first (entry ∷ entries) = ap (λ (xs : List CpuState). new_cpu entry ∷ xs) (cpus_first entries)

pub first_stands : (w : WorldSeen) (base count sites : ℕ) (bytes entries : List ℕ) → w.place ≡ 0 → w.turns ≡ 0 → w.updates ≡ 0 → w.states ≡ first_states w.image → w.batch ≡ record { sites = sites; cpus = count; update = None } → w.cpus ≡ map new_cpu entries → entries ≡ w.script.entries → IsWindowsOf w.text (new_past base bytes count) → base ≡ w.image.base → bytes ≡ w.image.text → count ≡ length w.script.entries → StandsFor w (first w.image w.script)
first_stands w base count sites bytes entries place turns updates states batch cpus same text base_is bytes_is count_is = record {
  text = subst (λ (p : Past). IsWindowsOf w.text p) past text;
  steps = ap (λ (n : ℕ). drop n w.script.steps) place;
  turns = turns;
  updates = updates;
  states = states;
  opened = ap (λ (b : BatchState). b.update) batch;
  sites = tt;
  cpus = cpus ∙ ap (map new_cpu) same ∙ cpus_first w.script.entries;
}
  where
    past : new_past base bytes count ≡ past_of w.image (first w.image w.script)
    past =
        ap (λ (n : ℕ). new_past n bytes count) base_is
        ∙ ap (λ (bs : List ℕ). new_past w.image.base bs count) bytes_is
        ∙ ap (λ (n : ℕ). new_past w.image.base w.image.text n) count_is
        ∙ ap (past_with w.image []) (marks_first w.script.entries)

pub first_world : (w : WorldSeen) (base count sites : ℕ) (bytes entries : List ℕ) → w.place ≡ 0 → w.turns ≡ 0 → w.updates ≡ 0 → w.idle ≡ 0 → w.states ≡ first_states w.image → w.batch ≡ record { sites = sites; cpus = count; update = None } → w.cpus ≡ map new_cpu entries → entries ≡ w.script.entries → IsWindowsOf w.text (new_past base bytes count) → base ≡ w.image.base → bytes ≡ w.image.text → count ≡ length w.script.entries → sites ≡ length w.image.sites → w.room ≡ length w.image.sites → IsAccepted w.image → IsScriptOf w.image w.script → IsWorld w
first_world w base count sites bytes entries place turns updates idle states batch cpus same text base_is bytes_is count_is sites_is room accepted of =
    let long : length w.cpus ≡ length w.script.entries = ap length (cpus ∙ ap (map new_cpu) same) ∙ length-map w.script.entries new_cpu in
    let few = of.limits.few_cpus in
    record {
      script_of = of;
      state = first w.image w.script;
      reached = record { accepted = accepted; script = w.script; is_script = of; events = []; legal = tt; is = refl };
      stands = first_stands w base count sites bytes entries place turns updates states batch cpus same text base_is bytes_is count_is;
      room = room;
      batch_sites = ap (λ (b : BatchState). b.sites) batch ∙ sites_is;
      batch_cpus = ap (λ (b : BatchState). b.cpus) batch ∙ count_is ∙ sym long;
      few_cpus = omega (arith, long, few);
      place = omega (arith, place);
      idle = omega (arith, idle);
    }
