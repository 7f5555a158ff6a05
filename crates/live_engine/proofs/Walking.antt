-- A walk, one turn more.
use Rattle.std.proofs.Common.{◌≡◌, ◌+◌, ◌*◌, ◌<◌, ◌≤◌, ◌∙◌, ℕ, Bool, true, false, List, [], ◌∷◌, ◌++◌, length, get_or, All, AllPairs, refl, ap, arith}
use Rattle.std.specs.Prelude.{⊤}
use Rattle.std.proofs.lemmas.List.Elements.{All-nil}
use Rattle.std.proofs.lemmas.List.Quantifiers.{all_pairs_push}
use Rattle.insn_forms.specs.declared.forms.Form.{Form}
use Rattle.live_text.specs.declared.plan.LivePlan.{LivePlan}
use Rattle.live_text.specs.declared.view.View.{View}
use Rattle.module_image.specs.Module.{Module}
use Rattle.x64_subset.specs.declared.proc.Life.TheVariants.{Running}
use Rattle.x64_subset.specs.declared.proc.Mark.{Mark}
use Rattle.x64_subset.specs.declared.proc.Proc.{Proc}
use Rattle.x64_subset.specs.Effect.{at_ip}
use Rattle.x64_subset.specs.Proc.{start}
use Rattle.live_engine.specs.declared.cpu.Turn.{Turn}
use Rattle.live_engine.specs.declared.cpu.Turn.TheVariants.{Ran, Pass, Trapped, Still}
use Rattle.live_engine.specs.LiveCpu.{CpuState, new_cpu, next_at}
use Rattle.live_engine.specs.Versions.{floor}
use Rattle.live_engine.specs.Walks.{IsInOrder, SayAll, Says, after_turn, after_turns}

-- the members say so, and one more does
pub say-more : (m : Module) (plan : LivePlan) (p : Proc) (turns : List Turn) (turn : Turn) → SayAll m plan p turns → Says m plan (after_turns m p turns) turn → SayAll m plan p (turns ++ turn ∷ [])
say-more m plan p [] turn all says = (says, tt)
say-more m plan p (t ∷ turns) turn all says = (all.0, say-more m plan (after_turn m p t) turns turn all.1 says)

-- the processor after one more
pub after-more : (m : Module) (p : Proc) (turns : List Turn) (turn : Turn) → after_turns m p (turns ++ turn ∷ []) ≡ after_turn m (after_turns m p turns) turn
after-more m p [] turn = refl
after-more m p (t ∷ turns) turn = after-more m (after_turn m p t) turns turn

-- a processor is where its walk has led it; once it has ended, where it stands doesn't matter
pub record Tracks (c : CpuState) (q : Proc) : Type 0 where
  pub life : c.proc.life ≡ q.life
  pub same : q.life ≡ Running → at_ip (next_at c) c.proc ≡ q

-- a pass isn't after what the seat has acknowledged, nor above the site's floor
abbrev pub IsReached : LivePlan → View → Turn → Type 0
IsReached plan v (Ran mark) = ⊤
IsReached plan v (Pass site form n ack mark) = (ack ≤ v.cpu.ack) × (n ≤ floor plan v site)
IsReached plan v Trapped = ⊤
IsReached plan v Still = ⊤

-- what is reached stays so
pub reached-later : (plan : LivePlan) (v w : View) (turn : Turn) → v.cpu.ack ≤ w.cpu.ack → ((site : ℕ) → floor plan v site ≤ floor plan w site) → IsReached plan v turn → IsReached plan w turn
reached-later plan v w (Ran mark) acks floors is = tt
reached-later plan v w (Pass site form n ack mark) acks floors is =
    let up = floors site in
    let ack_is = is.0 in
    let n_is = is.1 in
    (omega arith, omega arith)
reached-later plan v w Trapped acks floors is = tt
reached-later plan v w Still acks floors is = tt

-- a trapped processor owes an instruction
abbrev pub owed : Bool → ℕ
owed true = 1
owed false = 0

-- a walk so far
pub record IsWalking (m : Module) (plan : LivePlan) (entry_proc : Proc) (done : ℕ) (c : CpuState) (v : View) (walk : List Turn) : Type 0 where
  pub says : SayAll m plan entry_proc walk
  pub in_order : AllPairs IsInOrder walk
  pub few : length walk ≤ done
  pub many : c.proc.life ≡ Running → done ≤ 2 * length walk + owed c.trapped
  pub tracks : Tracks c (after_turns m entry_proc walk)
  pub reached : All (IsReached plan v) walk

pub owed-one : (trapped : Bool) → owed trapped ≤ 1
owed-one true = omega arith
owed-one false = omega arith

-- at its end
pub many-after : (m : Module) (plan : LivePlan) (p : Proc) (done : ℕ) (c : CpuState) (v : View) (walk : List Turn) → IsWalking m plan p done c v walk → (after_turns m p walk).life ≡ Running → done ≤ 2 * length walk + 1
many-after m plan p done c v walk is runs =
    let bound = is.many (is.tracks.life ∙ runs) in
    let one = owed-one c.trapped in
    omega arith

-- at its beginning
pub walk-begins : (m : Module) (plan : LivePlan) (entry : ℕ) (v : View) → IsWalking m plan (start entry) 0 (new_cpu entry) v []
walk-begins m plan entry v =
    record {
      says = tt;
      in_order = λ i j d lt inside. absurd (omega arith);
      few = omega arith;
      many = λ runs. omega arith;
      tracks = record { life = refl; same = λ runs. refl };
      reached = All-nil (IsReached plan v);
    }

-- a pass comes after those that were reached before
pub order-one : (plan : LivePlan) (v : View) (before after : Turn) → IsReached plan v before → ((site : ℕ) (form : Form) (n ack : ℕ) (mark : Mark) → after ≡ Pass site form n ack mark → (v.cpu.ack ≤ ack) × (floor plan v site ≤ n)) → IsInOrder before after
order-one plan v (Pass site form n ack mark) (Pass site' form' n' ack' mark') is at =
    let later = at site' form' n' ack' mark' refl in
    let acks = later.0 in
    let floors = later.1 in
    let ack_is = is.0 in
    let n_is = is.1 in
    (omega arith, λ (same : site ≡ site'). let there : floor plan v site ≡ floor plan v site' = ap (floor plan v) same in omega arith)
order-one plan v (Pass site form n ack mark) (Ran mark') is at = tt
order-one plan v (Pass site form n ack mark) Trapped is at = tt
order-one plan v (Pass site form n ack mark) Still is at = tt
order-one plan v (Ran mark) after is at = tt
order-one plan v Trapped after is at = tt
order-one plan v Still after is at = tt

pub order-more : (turns : List Turn) (turn : Turn) → AllPairs IsInOrder turns → ((k : ℕ) (d : Turn) → k < length turns → IsInOrder (get_or turns k d) turn) → AllPairs IsInOrder (turns ++ turn ∷ [])
order-more turns turn pairs each = all_pairs_push IsInOrder turns turn pairs each
