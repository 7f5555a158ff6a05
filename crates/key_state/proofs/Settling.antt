-- A module whose updates are done at once.
use Rattle.std.proofs.Common.{◌≡◌, ◌∙◌, ◌≤◌, ℕ, All, List, length, Option, Some, None, Ok, Result, sym, ap, subst, arith}
use Rattle.insn_forms.specs.declared.forms.Change.{Change}
use Rattle.insn_forms.specs.Spelling.{size}
use Rattle.key_state.specs.declared.count.CountRefused.{CountRefused}
use Rattle.key_state.specs.After.{after}
use Rattle.key_state.specs.Changes.{AreStatesOf, changes, changes_by, changes_to, first_foreign}
use Rattle.key_state.specs.Outcome.{Clashes, HoldsWanted, ending_at, ending_to, outcome}
use Rattle.key_state.specs.Settled.{IsSettledOf, SettledState}
use Rattle.key_state.specs.Writing.{IsInText, changes_written}
use Rattle.key_state.proofs.Differing.{few_changes}
use Rattle.key_state.proofs.First.{first_holds, first_of}
use Rattle.key_state.proofs.Keeping.{commands_keep}
use Rattle.key_state.proofs.Rewriting.{all_in_text, found_in, written_holds}
use Rattle.module_parts.specs.declared.command.Command.{Command}
use Rattle.module_image.specs.Command.{IsCommandOf}
use Rattle.module_image.specs.Held.{first_states}
use Rattle.module_image.specs.Module.{IsAccepted, Module, States}
use Rattle.module_image.specs.Sites.{code_at}
use Rattle.module_image.proofs.Lent.{sites_laid_out}
use Rattle.poke_batch.specs.Poke.{spelled}

-- as the file has it
pub settled_first : (m : Module) (s : SettledState) → IsAccepted m → s.base ≡ m.base → s.text ≡ m.text → s.states ≡ first_states m → s.room ≡ length m.sites → IsSettledOf m s
settled_first m s accepted base text states room = record {
  same_base = base;
  states = subst (AreStatesOf m) (sym states) (first_of m accepted);
  text =
      subst (λ (t : List ℕ). HoldsWanted m s.states t) (sym text)
      (subst (λ (held : States). HoldsWanted m held m.text) (sym states) (first_holds m accepted));
  room = omega (arith, room);
}

-- a list is that of the changes of a command that isn't refused
pub record IsAsked (m : Module) (s : SettledState) (command : Command) (new : States) (list : List Change) : Type 0 where
  pub accepted : IsAccepted m
  pub of : IsSettledOf m s
  pub allowed : after s.states command ≡ Ok new
  pub later : AreStatesOf m new
  pub is : list ≡ changes m s.states new

pub asked : (m : Module) (s : SettledState) (command : Command) (new : States) (list : List Change) → IsAccepted m → IsSettledOf m s → IsCommandOf m command → after s.states command ≡ Ok new → list ≡ changes_by m s.states command → IsAsked m s command new list
asked m s command new list accepted of known allowed listed = record {
  accepted = accepted;
  of = of;
  allowed = allowed;
  later = commands_keep m s.states new command accepted of.states known allowed;
  is = listed ∙ ap (λ (r : Result States CountRefused). changes_to m s.states r) allowed;
}

-- the first change of a foreign site lies in the text, which holds there what the module has
pub record IsFoundAt (m : Module) (base : ℕ) (text : List ℕ) (c : Change) : Type 0 where
  pub inside : IsInText base (length text) c
  pub found : code_at base text c.at (size c.old) ≡ code_at m.base m.text c.at (size c.old)

pub found_at : (m : Module) (s : SettledState) (command : Command) (new : States) (list : List Change) (text : List ℕ) (c : Change) → IsAsked m s command new list → text ≡ s.text → first_foreign m list ≡ Some c → IsFoundAt m s.base text c
found_at m s command new list text c ask read first =
    let there = found_in m s.states new s.text c ask.accepted ask.of.states ask.later ask.of.text (ap (first_foreign m) (sym ask.is) ∙ first) in
    record {
      inside =
          subst (λ (base : ℕ). IsInText base (length text) c) (sym ask.of.same_base)
          (subst (λ (t : List ℕ). IsInText m.base (length t) c) (sym read) there.inside);
      found =
          ap (λ (base : ℕ). code_at base text c.at (size c.old)) ask.of.same_base
          ∙ ap (λ (t : List ℕ). code_at m.base t c.at (size c.old)) read
          ∙ there.kept;
    }

-- the update clashes there
pub clash_ends : (m : Module) (s : SettledState) (command : Command) (new : States) (list : List Change) (text : List ℕ) (c : Change) (at : ℕ) (found expected : List ℕ) → IsAsked m s command new list → text ≡ s.text → first_foreign m list ≡ Some c → at ≡ c.at → found ≡ code_at s.base text c.at (size c.old) → expected ≡ spelled c.old c.at → Clashes at found expected ≡ outcome m s.states command
clash_ends m s command new list text c at found expected ask read first place bytes old =
    ap (λ (n : ℕ). Clashes n found expected) place
    ∙ ap (λ (bs : List ℕ). Clashes c.at bs expected) (bytes ∙ (found_at m s command new list text c ask read first).found)
    ∙ ap (λ (bs : List ℕ). Clashes c.at (code_at m.base m.text c.at (size c.old)) bs) old
    ∙ sym (ap (ending_to m s.states) ask.allowed ∙ ap (λ (o : Option Change). ending_at m (changes m s.states new) o) (ap (first_foreign m) (sym ask.is) ∙ first))

-- all changes lie in the text
pub all_inside : (m : Module) (s : SettledState) (command : Command) (new : States) (list read : List Change) (text : List ℕ) → IsAsked m s command new list → read ≡ list → text ≡ s.text → All (IsInText s.base (length text)) read
all_inside m s command new list read text ask same is =
    subst (λ (cs : List Change). All (IsInText s.base (length text)) cs) (sym (same ∙ ask.is))
    (subst (λ (base : ℕ). All (IsInText base (length text)) (changes m s.states new)) (sym ask.of.same_base)
    (all_in_text m s.states new (length text) ask.accepted ask.of.states ask.later (ap (λ (t : List ℕ). length t) is ∙ ask.of.text.same_length)))

-- there are few changes
pub few_asked : (m : Module) (s : SettledState) (command : Command) (new : States) (list read : List Change) → IsAsked m s command new list → read ≡ list → length read ≤ 1024
few_asked m s command new list read ask same =
    let few = few_changes m s.states new (length m.sites) (omega arith) in
    let sites = (sites_laid_out m ask.accepted).few in
    let long : length read ≡ length (changes m s.states new) = ap (λ (cs : List Change). length cs) (same ∙ ask.is) in
    omega (arith, few, sites, long)

-- what the update leaves, where none of its sites is foreign
pub settled_after : (m : Module) (s next : SettledState) (command : Command) (new : States) (list read : List Change) (text : List ℕ) → IsAsked m s command new list → read ≡ list → text ≡ s.text → first_foreign m list ≡ None → next.base ≡ s.base → next.states ≡ new → next.text ≡ changes_written s.base read text → next.room ≡ s.room → IsSettledOf m next
settled_after m s next command new list read text ask same is none base states written room =
    let first : first_foreign m (changes m s.states new) ≡ None = ap (first_foreign m) (sym ask.is) ∙ none in
    let bytes : next.text ≡ changes_written m.base (changes m s.states new) s.text =
    written
    ∙ ap (λ (n : ℕ). changes_written n read text) ask.of.same_base
    ∙ ap (λ (cs : List Change). changes_written m.base cs text) (same ∙ ask.is)
    ∙ ap (λ (t : List ℕ). changes_written m.base (changes m s.states new) t) is in
    let had = ask.of.room in
    record {
      same_base = base ∙ ask.of.same_base;
      states = subst (AreStatesOf m) (sym states) ask.later;
      text =
          subst (λ (t : List ℕ). HoldsWanted m next.states t) (sym bytes)
          (subst (λ (held : States). HoldsWanted m held (changes_written m.base (changes m s.states new) s.text)) (sym states)
          (written_holds m s.states new s.text ask.accepted ask.later ask.of.text first));
      room = omega (arith, room, had);
    }
