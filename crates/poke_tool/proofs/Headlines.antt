-- The run that the program shows, and what is so of it.
use Rattle.std.proofs.Common.{◌≡◌, ◌++◌, inl, inr, ℕ, List, [], Option, Some, None, ap, subst}
use Rattle.module_image.specs.Module.{IsAccepted}
use Rattle.poke_base.specs.Host.{Files, Outside, Tells, with_file, with_more}
use Rattle.recorded_run.specs.Headline.{Headline}
use Rattle.recorded_run.specs.Trace.{trace}
use Rattle.recorded_run.proofs.Headline.{legal_runs_are_whole}
use Rattle.run_journal.specs.Spelling.{journal}
use Rattle.switching.specs.State.{first}
use Rattle.poke_commands.specs.Check.{elf_of}
use Rattle.poke_commands.specs.Command as command
use Rattle.poke_commands.specs.Command.{Row}
use Rattle.poke_tool.specs.Endings.{EndsSaying}
use Rattle.poke_commands.specs.Headline.{AnyRun, HoldsInputs, IsShown, RunsProcessors, ShowsLive, ShowsRun, ShowsWalks}
use Rattle.poke_commands.specs.Runs.{DoesSaying, MadeWhole, PrintsText, RunsRow}
use Rattle.poke_commands.specs.Saying.{Saying, Says, says_both, says_text, told_before}
use Rattle.poke_tool.proofs.Endings.{ends_saying}

-- ---- the headline

accepted : (told : Option Files) (module_file script_file : List ℕ) (r : AnyRun) → HoldsInputs told module_file script_file r → IsAccepted r.m
accepted told module_file script_file r inputs = record { elf = elf_of inputs.module_bytes; is = inputs.accepts.is_module }

pub headline_of : (words : Option Row) (old new : Outside) (r : AnyRun) → IsShown words old new r → Headline r.m r.script r.events
headline_of None old new r none = absurd none
headline_of (Some (command.Run module_file script_file journal_file seed)) old new r (inputs, written) =
    legal_runs_are_whole r.m r.script r.events (accepted (told_before old new) module_file script_file r inputs) inputs.accepts_script.of written.run.legal
headline_of (Some (command.Replay module_file script_file journal_file)) old new r (inputs, read) =
    legal_runs_are_whole r.m r.script r.events (accepted (told_before old new) module_file script_file r inputs) inputs.accepts_script.of read.replayed.legal
headline_of (Some (command.Plan file)) old new r none = absurd none
headline_of (Some (command.Show file)) old new r none = absurd none
headline_of (Some (command.Check file)) old new r none = absurd none
headline_of (Some (command.Make n file)) old new r none = absurd none
headline_of (Some (command.Wants module_file script_file)) old new r none = absurd none
headline_of (Some (command.Bench n seed)) old new r none = absurd none
headline_of (Some (command.Live module_file script_file turns seed)) old new r none = absurd none

-- ---- at status 0 there is such a run

-- what was done of a text and a file, whatever they are
printed_text : (s : Saying) (n : ℕ) (text : List ℕ) (old new : Outside) → s ≡ says_text n text → DoesSaying s old new → Tells (with_more old.printed text) new.printed
printed_text s n text old new is does = subst (λ (x : Saying). PrintsText old new x.text) is does.printed

printed_both : (s : Saying) (n : ℕ) (text name bytes : List ℕ) (old new : Outside) → s ≡ says_both n text name bytes → DoesSaying s old new → Tells (with_more old.printed text) new.printed
printed_both s n text name bytes old new is does = subst (λ (x : Saying). PrintsText old new x.text) is does.printed

made_both : (s : Saying) (n : ℕ) (text name bytes : List ℕ) (old new : Outside) → s ≡ says_both n text name bytes → DoesSaying s old new → Tells (with_file old.files name bytes) new.files
made_both s n text name bytes old new is does = subst (λ (x : Saying). MadeWhole x.makes old new) is does.made

-- `run`
run_shown : (module_file script_file journal_file : List ℕ) (seed : ℕ) (old new : Outside) (s : Saying) → Says (command.Run module_file script_file journal_file seed) (told_before old new) s → s.refused ≡ None → DoesSaying s old new → ShowsRun (Some (command.Run module_file script_file journal_file seed)) old new
run_shown module_file script_file journal_file seed old new s (bytes, holds, inl (why, refused, is)) none does = (let some = ap (λ (x : Saying). x.refused) is in absurd (cc))
run_shown module_file script_file journal_file seed old new s (bytes, holds, inr (m, accepts, (text, holds_too, inl (why, refused, is)))) none does = (let some = ap (λ (x : Saying). x.refused) is in absurd (cc))
run_shown module_file script_file journal_file seed old new s (bytes, holds, inr (m, accepts, (text, holds_too, inr (script, read, said)))) none does = (
  record { m = m; script = script; events = said.events },
  (
    record {
      module_bytes = bytes;
      holds_module = holds;
      accepts = accepts;
      script_bytes = text;
      holds_script = holds_too;
      accepts_script = read;
    },
    record {
      run = said.run;
      journal = made_both s 3 (trace m (first m script) said.events ++ said.tally) journal_file (journal said.events) old new said.is does;
    },
  ),
  (
    said.tracers,
    record {
      tally = said.tally;
      is_tally = said.is_tally;
      printed = printed_both s 3 (trace m (first m script) said.events ++ said.tally) journal_file (journal said.events) old new said.is does;
    },
  ),
)

-- `replay`
replay_shown : (module_file script_file journal_file : List ℕ) (old new : Outside) (s : Saying) → Says (command.Replay module_file script_file journal_file) (told_before old new) s → s.refused ≡ None → DoesSaying s old new → ShowsRun (Some (command.Replay module_file script_file journal_file)) old new
replay_shown module_file script_file journal_file old new s (bytes, holds, inl (why, refused, is)) none does = (let some = ap (λ (x : Saying). x.refused) is in absurd (cc))
replay_shown module_file script_file journal_file old new s (bytes, holds, inr (m, accepts, (text, holds_too, inl (why, refused, is)))) none does = (let some = ap (λ (x : Saying). x.refused) is in absurd (cc))
replay_shown module_file script_file journal_file old new s (bytes, holds, inr (m, accepts, (text, holds_too, inr (script, read, (lines, told, inl long))))) none does =
    (let some = ap (λ (x : Saying). x.refused) long.1 in absurd (cc))
replay_shown module_file script_file journal_file old new s (bytes, holds, inr (m, accepts, (text, holds_too, inr (script, read, (lines, told, inr (inl stops)))))) none does =
    (let some = ap (λ (x : Saying). x.refused) stops.is in absurd (cc))
replay_shown module_file script_file journal_file old new s (bytes, holds, inr (m, accepts, (text, holds_too, inr (script, read, (lines, told, inr (inr replays)))))) none does = (
  record { m = m; script = script; events = replays.events },
  (
    record {
      module_bytes = bytes;
      holds_module = holds;
      accepts = accepts;
      script_bytes = text;
      holds_script = holds_too;
      accepts_script = read;
    },
    record {
      bytes = lines;
      holds = told;
      fits = replays.fits;
      replayed = replays.replayed;
    },
  ),
  (
    replays.tracers,
    record {
      tally = replays.tally;
      is_tally = replays.is_tally;
      printed = printed_text s 3 (trace m (first m script) replays.events ++ replays.tally) old new replays.is does;
    },
  ),
)

-- a command that is done and shows a run
row_shown : (row : Row) (old new : Outside) (status : ℕ) → EndsSaying row old new status → RunsProcessors (Some row) → status ≡ 0 → ShowsRun (Some row) old new
row_shown (command.Run module_file script_file journal_file seed) old new status ends of zero =
    let done = ends.done zero in
    run_shown module_file script_file journal_file seed old new done.0 done.1 done.2 done.3
row_shown (command.Replay module_file script_file journal_file) old new status ends of zero =
    let done = ends.done zero in
    replay_shown module_file script_file journal_file old new done.0 done.1 done.2 done.3
row_shown (command.Plan file) old new status ends of zero = absurd of
row_shown (command.Show file) old new status ends of zero = absurd of
row_shown (command.Check file) old new status ends of zero = absurd of
row_shown (command.Make n file) old new status ends of zero = absurd of
row_shown (command.Wants module_file script_file) old new status ends of zero = absurd of
row_shown (command.Bench n seed) old new status ends of zero = absurd of
row_shown (command.Live module_file script_file turns seed) old new status ends of zero = absurd of

pub shows_run : (words : Option Row) (old new : Outside) (status : ℕ) → RunsRow words old new status → RunsProcessors words → status ≡ 0 → ShowsRun words old new
shows_run None old new status runs of zero = absurd of
shows_run (Some row) old new status runs of zero = row_shown row old new status (ends_saying row old new status runs) of zero

-- ---- `live`

live_shown : (module_file script_file : List ℕ) (turns seed : ℕ) (old new : Outside) (s : Saying) → Says (command.Live module_file script_file turns seed) (told_before old new) s → s.refused ≡ None → DoesSaying s old new → ShowsLive module_file script_file turns old new
live_shown module_file script_file turns seed old new s (bytes, holds, inl (why, refused, is)) none does = (let some = ap (λ (x : Saying). x.refused) is in absurd (cc))
live_shown module_file script_file turns seed old new s (bytes, holds, inr (m, accepts, (text, holds_too, inl (why, refused, is)))) none does = (let some = ap (λ (x : Saying). x.refused) is in absurd (cc))
live_shown module_file script_file turns seed old new s (bytes, holds, inr (m, accepts, (text, holds_too, inr (script, read, (printed, is_text, is))))) none does = record {
  r = record { m = m; script = script; events = [] };
  inputs = record {
    module_bytes = bytes;
    holds_module = holds;
    accepts = accepts;
    script_bytes = text;
    holds_script = holds_too;
    accepts_script = read;
  };
  text = printed;
  is = is_text;
  printed = printed_text s 2 printed old new is does;
}

row_walks : (row : Row) (old new : Outside) (status : ℕ) → EndsSaying row old new status → status ≡ 0 → ShowsWalks (Some row) old new
row_walks (command.Live module_file script_file turns seed) old new status ends zero =
    let done = ends.done zero in
    live_shown module_file script_file turns seed old new done.0 done.1 done.2 done.3
row_walks (command.Run module_file script_file journal_file seed) old new status ends zero = tt
row_walks (command.Replay module_file script_file journal_file) old new status ends zero = tt
row_walks (command.Plan file) old new status ends zero = tt
row_walks (command.Show file) old new status ends zero = tt
row_walks (command.Check file) old new status ends zero = tt
row_walks (command.Make n file) old new status ends zero = tt
row_walks (command.Wants module_file script_file) old new status ends zero = tt
row_walks (command.Bench n seed) old new status ends zero = tt

pub shows_walks : (words : Option Row) (old new : Outside) (status : ℕ) → RunsRow words old new status → status ≡ 0 → ShowsWalks words old new
shows_walks None old new status runs zero = tt
shows_walks (Some row) old new status runs zero = row_walks row old new status (ends_saying row old new status runs) zero
