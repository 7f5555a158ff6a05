use Rattle.std.proofs.Common.{◌≡◌, ◌∙◌, List, ℕ, Option, Some, Err, subst, Ok, refl}
use Rattle.poke_base.specs.declared.host.WriteFail.{WriteFail}
use Rattle.poke_base.specs.Host.{Complains, Outside}
use Rattle.poke_commands.specs.Command.{Make, Row}
use Rattle.poke_tool.specs.Words.{row_of, words_of}
use Rattle.poke_tool.specs.Endings.{EndsMaking, EndsSaying}
use Rattle.poke_commands.specs.Runs.{RunsRow}
use Rattle.poke_tool.proofs.Endings.{asks_in_order, bad_words, ends_aloud, ends_making, ends_saying, leaves_all, makes_nothing, read_fault, write_fault}
use Rattle.poke_tool.proofs.Headlines.{headline_of, shows_run, shows_walks}
use Rattle.poke_tool.proofs.top.textpoke.Goals as goal

-- the sentences on a command
says_of : (words : Option Row) (old new : Outside) (status : ℕ) → RunsRow words old new status → (row : Row) → words ≡ Some row → EndsSaying row old new status
says_of words old new status runs row is =
    ends_saying row old new status (subst (λ (r : Option Row). RunsRow r old new status) is runs)

makes_of : (words : Option Row) (old new : Outside) (status : ℕ) → RunsRow words old new status → (n : ℕ) (name : List ℕ) → words ≡ Some (Make n name) → EndsMaking n name old new status
makes_of words old new status runs n name is =
    ends_making n name old new status (subst (λ (r : Option Row). RunsRow r old new status) is runs)

-- the program ends with a fault that was reported
pub returns-in-Err : goal.returns-in-Err
returns-in-Err g c =
    let words = row_of (words_of c.args.words.now) in
    let old = g.H.Host.outside c.args.host.now in
    let middle = g.H.Host.outside c.do_command.new.host in
    let new = g.H.Host.outside c.complain.new.self in
    let runs : RunsRow words old new c.status.result = record {
      middle = middle;
      result = Err c.in-Err.fault;
      does = c.in-Err.ensures.does;
      ends = (
        c.status.ensures,
        (
          c.complain.result,
          subst (λ (text : List ℕ). Complains {T = Unit {0}} {E = WriteFail} middle new text c.complain.result) (c.deref.ensures.0 ∙ c.complaint.ensures) c.complain.ensures,
        ),
      );
    } in
    record {
      runs = runs;
      bad_words = bad_words words old new _ runs;
      read_fault = read_fault words old new _ runs;
      write_fault = write_fault words old new _ runs;
      leaves_all = leaves_all words old new _ runs;
      makes_nothing = makes_nothing words old new _ runs;
      asks_in_order = asks_in_order words old new _ runs;
      ends_aloud = ends_aloud words old new _ runs;
      shows_a_run = λ zero of. shows_run words old new _ runs of zero;
      is_switched = λ r shown. (headline_of words old new r shown).switched;
      passes_whole = λ r shown. (headline_of words old new r shown).whole;
      never_old_again = λ r shown. (headline_of words old new r shown).never_old_again;
      only_new_after_return = λ r shown. (headline_of words old new r shown).only_new_after_return;
      holds_what_is_wanted = λ r shown. (headline_of words old new r shown).holds_what_is_wanted;
      ends_as_commands = λ r shown. (headline_of words old new r shown).ends_as_commands;
      shows_walks = λ zero. shows_walks words old new _ runs zero;
      feeds = record { middle = middle; result = Err c.in-Err.fault; feeds = c.in-Err.ensures.feeds; ends = runs.ends };
      says = says_of words old new _ runs;
      makes = makes_of words old new _ runs;
    }

pub returns-in-Ok-clause-says : goal.returns-in-Ok-clause-says
returns-in-Ok-clause-says g c =
    says_of (row_of (words_of c.args.words.now)) _ _ _ (record { middle = g.H.Host.outside c.do_command.new.host; result = Ok c.in-Ok.field-0; does = c.in-Ok.ensures.does; ends = (refl, refl) })

pub returns-in-Ok-clause-makes : goal.returns-in-Ok-clause-makes
returns-in-Ok-clause-makes g c =
    makes_of (row_of (words_of c.args.words.now)) _ _ _ (record { middle = g.H.Host.outside c.do_command.new.host; result = Ok c.in-Ok.field-0; does = c.in-Ok.ensures.does; ends = (refl, refl) })

pub returns-in-Ok-clause-asks_in_order : goal.returns-in-Ok-clause-asks_in_order
returns-in-Ok-clause-asks_in_order g c =
    asks_in_order (row_of (words_of c.args.words.now)) _ _ _ (record { middle = g.H.Host.outside c.do_command.new.host; result = Ok c.in-Ok.field-0; does = c.in-Ok.ensures.does; ends = (refl, refl) })

pub returns-in-Ok-clause-shows_a_run : goal.returns-in-Ok-clause-shows_a_run
returns-in-Ok-clause-shows_a_run g c zero of =
    shows_run (row_of (words_of c.args.words.now)) _ _ _ (record { middle = g.H.Host.outside c.do_command.new.host; result = Ok c.in-Ok.field-0; does = c.in-Ok.ensures.does; ends = (refl, refl) }) of zero

pub returns-in-Ok-clause-is_switched : goal.returns-in-Ok-clause-is_switched
returns-in-Ok-clause-is_switched g c r shown = (headline_of (row_of (words_of c.args.words.now)) _ _ r shown).switched

pub returns-in-Ok-clause-passes_whole : goal.returns-in-Ok-clause-passes_whole
returns-in-Ok-clause-passes_whole g c r shown = (headline_of (row_of (words_of c.args.words.now)) _ _ r shown).whole

pub returns-in-Ok-clause-never_old_again : goal.returns-in-Ok-clause-never_old_again
returns-in-Ok-clause-never_old_again g c r shown = (headline_of (row_of (words_of c.args.words.now)) _ _ r shown).never_old_again

pub returns-in-Ok-clause-only_new_after_return : goal.returns-in-Ok-clause-only_new_after_return
returns-in-Ok-clause-only_new_after_return g c r shown = (headline_of (row_of (words_of c.args.words.now)) _ _ r shown).only_new_after_return

pub returns-in-Ok-clause-holds_what_is_wanted : goal.returns-in-Ok-clause-holds_what_is_wanted
returns-in-Ok-clause-holds_what_is_wanted g c r shown = (headline_of (row_of (words_of c.args.words.now)) _ _ r shown).holds_what_is_wanted

pub returns-in-Ok-clause-ends_as_commands : goal.returns-in-Ok-clause-ends_as_commands
returns-in-Ok-clause-ends_as_commands g c r shown = (headline_of (row_of (words_of c.args.words.now)) _ _ r shown).ends_as_commands

pub returns-in-Ok-clause-shows_walks : goal.returns-in-Ok-clause-shows_walks
returns-in-Ok-clause-shows_walks g c zero =
    shows_walks (row_of (words_of c.args.words.now)) _ _ _ (record { middle = g.H.Host.outside c.do_command.new.host; result = Ok c.in-Ok.field-0; does = c.in-Ok.ensures.does; ends = (refl, refl) }) zero

pub returns-in-Ok-clause-feeds : goal.returns-in-Ok-clause-feeds
returns-in-Ok-clause-feeds g c =
    record { middle = g.H.Host.outside c.do_command.new.host; result = Ok c.in-Ok.field-0; feeds = c.in-Ok.ensures.feeds; ends = (refl, refl) }
