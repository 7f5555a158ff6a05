-- What is printed of a live run of a script.
use Rattle.std.proofs.Common.{◌≡◌, ◌++◌, ◌∙◌, ℕ, List, [], ◌∷◌, Vec, map, Result, Ok, Err, sym, ap, subst}
use Rattle.std.specs.declared.alloc.Global.{Global}
use Rattle.std.specs.List.{AllZip}
use Rattle.key_state.specs.declared.outcome.Outcome.{Outcome}
use Rattle.key_state.specs.Outcome.{Ending, HoldsWanted, ending_of}
use Rattle.live_engine.specs.declared.cpu.Turn.{Turn}
use Rattle.live_engine.specs.declared.run.LiveRun.{LiveRun}
use Rattle.live_engine.specs.LiveRun.{IsRunOf}
use Rattle.live_engine.specs.Walks.{IsWalk}
use Rattle.live_text.specs.declared.plan.LivePlan.{LivePlan}
use Rattle.live_trace.specs.SiteText.{UpdatedSitesAreWanted, live_site_lines}
use Rattle.live_trace.specs.WalkText.{walks_text}
use Rattle.module_image.specs.Module.{IsAccepted, Module}
use Rattle.module_image.specs.SiteLine.{site_lines}
use Rattle.poke_base.specs.declared.host.WriteFail.{WriteFail}
use Rattle.poke_base.specs.Host.{Outside, Prints}
use Rattle.poke_base.proofs.Outsides.{Prints-more, Prints-prefix}
use Rattle.script_text.specs.Laws.{IsScriptOf}
use Rattle.script_text.specs.Script.{ScriptValue}
use Rattle.poke_commands.specs.Live.{IsLiveText}
use Rattle.poke_commands.specs.Wants.{last_states, outcome_lines, script_outcomes}

-- the members of vectors, as lists
abbrev pub members : List (Vec Turn Global) → List (List Turn)
members walks = map (λ (walk : Vec Turn Global). walk.items) walks

all_members : (R : ℕ → List Turn → Type 0) (entries : List ℕ) (walks : List (Vec Turn Global)) → AllZip (λ entry (walk : Vec Turn Global). R entry walk.items) entries walks → AllZip R entries (members walks)
all_members R [] [] all = tt
all_members R [] (walk ∷ walks) all = absurd all
all_members R (entry ∷ entries) [] all = absurd all
all_members R (entry ∷ entries) (walk ∷ walks) all = (all.0, all_members R entries walks all.1)

pub live_text : (m : Module) (s : ScriptValue) (turns : ℕ) (done : List Outcome) (text : List ℕ) (run : LiveRun) → map ending_of done ≡ script_outcomes m s → HoldsWanted m (last_states m s) text → IsRunOf m s turns run → IsLiveText m s turns (outcome_lines 1 (map ending_of done) ++ (walks_text m 0 s.entries (members run.walks.items) ++ site_lines m.base text m.sites))
live_text m s turns done text run endings holds is = record {
  walks = members run.walks.items;
  walked = record {
    plan = is.plan;
    is_plan = is.is;
    are_walks = all_members (λ entry walk. IsWalk m is.plan entry turns walk) s.entries run.walks.items is.walks;
  };
  text = text;
  settled = holds;
  is =
      ap
      (λ (es : List Ending). outcome_lines 1 es ++ (walks_text m 0 s.entries (members run.walks.items) ++ site_lines m.base text m.sites))
      endings;
}

-- ---- what is printed, part by part

-- a run of a script, in so many turns
abbrev pub IsSomeRun : Module → ScriptValue → LiveRun → Type 0
IsSomeRun m script run = (turns : ℕ) × IsRunOf m script turns run

pub walks_there : (m : Module) (script : ScriptValue) (run : LiveRun) (entries : List ℕ) (walks : List (Vec Turn Global)) → IsSomeRun m script run → entries ≡ script.entries → walks ≡ run.walks.items → (plan : LivePlan) × ((turns : ℕ) × AllZip (λ entry (walk : Vec Turn Global). IsWalk m plan entry turns walk.items) entries walks)
walks_there m script run entries walks (turns, is) same same_walks = (
  is.plan,
  (
    turns,
    subst (λ (ws : List (Vec Turn Global)). AllZip (λ entry (walk : Vec Turn Global). IsWalk m is.plan entry turns walk.items) entries ws) (sym same_walks)
        (subst (λ (es : List ℕ). AllZip (λ entry (walk : Vec Turn Global). IsWalk m is.plan entry turns walk.items) es run.walks.items) (sym same) is.walks),
  ),
)

pub walks_as : (m : Module) (script : ScriptValue) (run : LiveRun) (entries : List ℕ) (walks : List (Vec Turn Global)) (old new : Outside) (result : Result (Unit {0}) WriteFail) → entries ≡ script.entries → walks ≡ run.walks.items → Prints {T = Unit {0}} {E = WriteFail} old new (walks_text m 0 entries (members walks)) result → Prints {T = Unit {0}} {E = WriteFail} old new (walks_text m 0 script.entries (members run.walks.items)) result
walks_as m script run entries walks old new result same same_walks prints =
    subst (λ (ws : List (Vec Turn Global)). Prints {T = Unit {0}} {E = WriteFail} old new (walks_text m 0 script.entries (members ws)) result) same_walks
    (subst (λ (es : List ℕ). Prints {T = Unit {0}} {E = WriteFail} old new (walks_text m 0 es (members walks)) result) same prints)

pub sites_as : (m : Module) (script : ScriptValue) (run : LiveRun) (text bytes : List ℕ) (old new : Outside) (result : Result (Unit {0}) WriteFail) → UpdatedSitesAreWanted → IsAccepted m → IsScriptOf m script → IsSomeRun m script run → HoldsWanted m (last_states m script) text → bytes ≡ run.sites.items → Prints {T = Unit {0}} {E = WriteFail} old new (live_site_lines m.base m.text m.sites bytes) result → Prints {T = Unit {0}} {E = WriteFail} old new (site_lines m.base text m.sites) result
sites_as m script run text bytes old new result law accepted of (turns, is) holds same prints =
    subst (λ (lines : List ℕ). Prints {T = Unit {0}} {E = WriteFail} old new lines result)
    (ap (λ (b : List ℕ). live_site_lines m.base m.text m.sites b) (same ∙ is.sites) ∙ law m script is.plan text accepted of is.is holds)
    prints

-- all three parts, or a part of the second
pub three_printed : (old one two new : Outside) (first second third : List ℕ) (result : Result (Unit {0}) WriteFail) → Prints {T = Unit {0}} {E = WriteFail} old one first (Ok tt) → Prints {T = Unit {0}} {E = WriteFail} one two second (Ok tt) → Prints {T = Unit {0}} {E = WriteFail} two new third result → Prints {T = Unit {0}} {E = WriteFail} old new (first ++ (second ++ third)) result
three_printed old one two new first second third result h k l =
    Prints-more old one new first (second ++ third) tt result h (Prints-more one two new second third tt result k l)

pub second_cut : (old one new : Outside) (first second third : List ℕ) (why : WriteFail) → Prints {T = Unit {0}} {E = WriteFail} old one first (Ok tt) → Prints {T = Unit {0}} {E = WriteFail} one new second (Err why) → Prints {T = Unit {0}} {E = WriteFail} old new (first ++ (second ++ third)) (Err why)
second_cut old one new first second third why h k =
    Prints-more old one new first (second ++ third) tt (Err why) h (Prints-prefix one new second third why k)
