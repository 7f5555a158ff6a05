use Rattle.std.proofs.Common.{◌≡◌, [], ◌∷◌, List, arith, ℕ, inr, refl, subst}
use Rattle.poke_base.specs.declared.host.AskedBy.TheVariants.{Read as AskedRead}
use Rattle.poke_faults.specs.declared.fault.Refusal.{Refusal}
use Rattle.poke_faults.specs.declared.fault.Refusal.TheVariants.{Journal}
use Rattle.poke_faults.specs.declared.journal_fault.JournalRefused.TheVariants.{Line, TooLong}
use Rattle.poke_commands.specs.Check.{Accepts, RefusesAsModule}
use Rattle.poke_commands.specs.Command.{Replay}
use Rattle.poke_commands.specs.Journal.{AcceptsJournal, RefusesAsJournal}
use Rattle.poke_commands.specs.Saying.{FileSays, JournalSays, ScriptSays, WithJournal, told_before}
use Rattle.poke_commands.specs.Script.{AcceptsScript, RefusesAsScript}
use Rattle.poke_commands.specs.Feeding.{ReplayFeeds}
use Rattle.poke_tool.proofs.FeedWays.{replay_untold, replays_feed, same_text}
use Rattle.poke_tool.proofs.ThreeFiles.{replays_as, third_fails}
use Rattle.poke_commands.proofs.Sayings.{asks_script, replay_asks}
use Rattle.poke_commands.proofs.TwoFiles.{first_fails, second_fails}
use Rattle.poke_commands.proofs.Ways.{at_exit, fault_as, module_refused, script_refused}
use Rattle.poke_tool.proofs.replay.replay.Goals as goal

-- a journal that is too long isn't refused at a line
no_line : (line : ℕ) → ◌≡◌ {A = Refusal} (Journal (Line line)) (Journal TooLong) → ⊥
no_line line same = cc

pub returns-in_err-image : goal.returns-in_err-image
returns-in_err-image g c =
    let module_name = c.args.module_name.now in
    let script_name = c.args.script_name.now in
    let journal_name = c.args.journal_name.now in
    let fault = c.in_err-image.field-0.0 in
    record {
      does =
          at_exit (Replay module_name script_name journal_name) _ _ fault c.from_residual.result c.from_residual.ensures.1
          (first_fails (Replay module_name script_name journal_name) module_name script_name _ _ Accepts RefusesAsModule fault ((journal_name, AskedRead) ∷ [], refl) c.in_err-image.ensures (λ bytes why holds refused. (bytes, holds, module_refused (λ m s. FileSays (ScriptSays (WithJournal JournalSays (told_before (g.H.Host.outside c.args.host.now) (g.H.Host.outside c.read_module.new.host)) journal_name) m) (told_before (g.H.Host.outside c.args.host.now) (g.H.Host.outside c.read_module.new.host)) script_name s) bytes why refused)));
      feeds =
          fault_as (ReplayFeeds module_name script_name journal_name _ _ _ _) fault c.from_residual.result c.from_residual.ensures.1
          (replay_untold module_name script_name journal_name _ _ _ _ _ module_name Accepts RefusesAsModule fault (λ bytes line refused. refused) c.in_err-image.ensures);
    }

pub returns-in_err-script : goal.returns-in_err-script
returns-in_err-script g c =
    let module_name = c.args.module_name.now in
    let script_name = c.args.script_name.now in
    let journal_name = c.args.journal_name.now in
    let m = c.in_ok-image.image in
    let told = told_before (g.H.Host.outside c.args.host.now) (g.H.Host.outside c.read_script.new.host) in
    let fault = c.in_err-script.field-0.0 in
    record {
      does =
          at_exit (Replay module_name script_name journal_name) _ _ fault c.from_residual-in_err-script.result c.from_residual-in_err-script.ensures.1
          (second_fails (Replay module_name script_name journal_name) module_name script_name _ _ _ Accepts RefusesAsModule m (AcceptsScript m) (RefusesAsScript m) fault (record { two = ((journal_name, AskedRead) ∷ [], refl); reads = c.in_ok-image.ensures }) c.in_err-script.ensures.reads
          (λ bytes holds accepts text why holds_too refused. (bytes, holds, inr (m, accepts, (text, holds_too, script_refused (WithJournal JournalSays told journal_name) m text why refused))))
          (λ bytes holds accepts s some says. asks_script (WithJournal JournalSays told journal_name) told module_name script_name bytes m s (λ n other said. let three = replay_asks told journal_name n other s said in omega arith) some holds accepts says));
      feeds =
          fault_as (ReplayFeeds module_name script_name journal_name _ _ _ _) fault c.from_residual-in_err-script.result c.from_residual-in_err-script.ensures.1
          (replay_untold module_name script_name journal_name _ _ _ _ _ script_name (AcceptsScript m) (RefusesAsScript m) fault (λ bytes line refused. refused) c.in_err-script.ensures.reads);
    }

pub returns-in_err-journal : goal.returns-in_err-journal
returns-in_err-journal g c =
    let module_name = c.args.module_name.now in
    let script_name = c.args.script_name.now in
    let journal_name = c.args.journal_name.now in
    let fault = c.in_err-journal.field-0.0 in
    record {
      does =
          at_exit (Replay module_name script_name journal_name) _ _ fault c.from_residual-in_err-journal.result c.from_residual-in_err-journal.ensures.1
          (third_fails module_name script_name journal_name _ _ _ _ c.in_ok-image.image c.in_ok-script.script fault
          (record { first = record { two = ((journal_name, AskedRead) ∷ [], refl); reads = c.in_ok-image.ensures }; second = c.in_ok-script.ensures.reads })
          c.in_err-journal.ensures);
      feeds =
          fault_as (ReplayFeeds module_name script_name journal_name _ _ _ _) fault c.from_residual-in_err-journal.result c.from_residual-in_err-journal.ensures.1
          (replay_untold module_name script_name journal_name _ _ _ _ _ journal_name AcceptsJournal RefusesAsJournal fault (λ bytes line refused. no_line line refused.0) c.in_err-journal.ensures);
    }

pub returns : goal.returns
returns g c =
    let module_name = c.args.module_name.now in
    let script_name = c.args.script_name.now in
    let journal_name = c.args.journal_name.now in
    let m = c.in_ok-image.image in
    let script = c.in_ok-script.script in
    let did = same_text m script c.deref.result.now c.in_ok-journal.journal.items _ _ _ _ c.replay_script.result c.deref.ensures.value c.replay_script.ensures in
    record {
      does =
          replays_as module_name script_name journal_name _ _ _ _ _ m script c.in_ok-journal.journal _ _ c.replay_script.result
          (record { both = record { first = record { two = ((journal_name, AskedRead) ∷ [], refl); reads = c.in_ok-image.ensures }; second = c.in_ok-script.ensures.reads }; third = c.in_ok-journal.ensures })
          did;
      feeds =
          replays_feed module_name script_name journal_name _ _ _ _ _ m script c.in_ok-journal.journal _ _ c.replay_script.result
          (record { both = record { first = record { two = ((journal_name, AskedRead) ∷ [], refl); reads = c.in_ok-image.ensures }; second = c.in_ok-script.ensures.reads }; third = c.in_ok-journal.ensures })
          did;
    }
