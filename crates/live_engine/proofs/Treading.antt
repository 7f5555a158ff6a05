-- What a turn makes of a walk so far.
use Rattle.std.proofs.Common.{◌≡◌, ◌+◌, ◌<◌, ◌≤◌, ◌^◌, ◌∙◌, ◌⊎◌, ℕ, Bool, true, false, if◌then◌else◌, List, [], ◌∷◌, ◌++◌, get_or, All, Option, inl, inr, refl, ap, sym, subst, arith, length-append, vec_capacity}
use Rattle.std.proofs.lemmas.List.Elements.{All-get_or, All-push, All-weaker}
use Rattle.insn_forms.specs.declared.forms.Form.{Form}
use Rattle.insn_forms.specs.Spelling.{after}
use Rattle.int3_handler.specs.Handler.{breakpoint_of}
use Rattle.live_text.specs.declared.plan.LivePlan.{LivePlan}
use Rattle.live_text.specs.declared.view.View.{View}
use Rattle.live_text.specs.Own.{IsOwn, TextState}
use Rattle.module_image.specs.Layout.{IsStart, text_end}
use Rattle.module_image.specs.Module.{IsAccepted, Module, layout_of}
use Rattle.module_image.proofs.Grounds.{module_ground}
use Rattle.x64_subset.specs.declared.insn.Insn.{Insn}
use Rattle.x64_subset.specs.declared.proc.Life.TheVariants.{Running}
use Rattle.x64_subset.specs.declared.proc.Mark.{Mark}
use Rattle.x64_subset.specs.declared.proc.Proc.{Proc}
use Rattle.x64_subset.specs.Effect.{at_ip}
use Rattle.x64_subset.specs.Proc.{start}
use Rattle.x64_subset.specs.Whole.{whole}
use Rattle.live_engine.specs.declared.cpu.Turn.{Turn}
use Rattle.live_engine.specs.declared.cpu.Turn.TheVariants.{Ran, Pass, Trapped, Still}
use Rattle.live_engine.specs.declared.job.Job.{Job}
use Rattle.live_engine.specs.LiveCpu.{CpuState, IsPaired, NewCpusArePaired, Runner, new_cpu, next_at, runner}
use Rattle.live_engine.specs.LiveRun.{IsReady}
use Rattle.live_engine.specs.Turns.{DoesWhole, FetchesTrap, Rests, RunsPlain, Turns}
use Rattle.live_engine.specs.Versions.{floor}
use Rattle.live_engine.specs.Walks.{DoesPlain, DoesSite, IsInOrder, IsWalk, Says, after_plain, after_turn, after_turns}
use Rattle.live_engine.proofs.Alike.{whole-alike}
use Rattle.live_engine.proofs.Pairing.{back}
use Rattle.live_engine.proofs.Walking.{IsReached, IsWalking, Tracks, after-more, many-after, order-more, order-one, owed, owed-one, reached-later, say-more, walk-begins}

-- a processor and its seat before and after a turn
pub record Turned (m : Module) (plan : LivePlan) (word : ℕ) (r s : Runner) (turn : Turn) : Type 0 where
  pub accepted : IsAccepted m
  pub paired : IsPaired m plan r
  pub turns : Turns m plan word r s turn
  pub acks : r.view.cpu.ack ≤ s.view.cpu.ack
  pub floors : (site : ℕ) → floor plan r.view site ≤ floor plan s.view site

-- a processor that isn't trapped goes on where it stands
free-next : (c : CpuState) → c.trapped ≡ false → next_at c ≡ c.proc.ip
free-next c free = ap (λ (trapped : Bool). if trapped then breakpoint_of c.proc else c.proc.ip) free

free-here : (c : CpuState) → c.trapped ≡ false → at_ip (next_at c) c.proc ≡ c.proc
free-here c free = ap (λ (a : ℕ). at_ip a c.proc) (free-next c free)

free-tracks : (c : CpuState) (q : Proc) → c.trapped ≡ false → c.proc ≡ q → Tracks c q
free-tracks c q free is = record { life = ap (λ (p : Proc). p.life) is; same = λ runs. free-here c free ∙ is }

-- a start is an address
start-below : (m : Module) (at : ℕ) → IsAccepted m → IsStart (layout_of m) at → at < 2 ^ 64
start-below m at accepted start =
    let inside : at < text_end (layout_of m) = ((module_ground accepted.elf m accepted.is).swept.complete at start).1 in
    let below = accepted.is.below in
    omega arith

-- where a processor stands that isn't trapped is one
stands-below : (m : Module) (plan : LivePlan) (r : Runner) → IsAccepted m → IsPaired m plan r → r.cpu.trapped ≡ false → r.cpu.proc.life ≡ Running → r.cpu.proc.ip < 2 ^ 64
stands-below m plan r accepted paired free runs =
    subst (λ (a : ℕ). a < 2 ^ 64) (free-next r.cpu free) (start-below m (next_at r.cpu) accepted (paired.flows.stands runs))

-- what was reached stays so
all-reached : (plan : LivePlan) (v w : View) (walk : List Turn) → v.cpu.ack ≤ w.cpu.ack → ((site : ℕ) → floor plan v site ≤ floor plan w site) → All (IsReached plan v) walk → All (IsReached plan w) walk
all-reached plan v w walk acks floors reached =
    All-weaker (IsReached plan v) (IsReached plan w) (λ turn is. reached-later plan v w turn acks floors is) walk reached

-- a processor that isn't running does nothing more
walk-still : (m : Module) (plan : LivePlan) (p : Proc) (done : ℕ) (r s : Runner) (v : View) (walk : List Turn) → Rests r.cpu v s.cpu s.view → All (IsReached plan s.view) walk → IsWalking m plan p done r.cpu r.view walk → IsWalking m plan p (done + 1) s.cpu s.view walk
walk-still m plan p done r s v walk rests reached is =
    let few = is.few in
    subst (λ (c : CpuState). IsWalking m plan p (done + 1) c s.view walk) (sym rests.cpu)
    (record {
      says = is.says;
      in_order = is.in_order;
      few = omega arith;
      many = λ runs. absurd (rests.ended runs);
      tracks = is.tracks;
      reached = reached;
    })

-- a processor that fetches a breakpoint owes an instruction, and goes on where it stood
trapped-tracks : (c : CpuState) (q : Proc) → c.trapped ≡ false → c.proc.ip < 2 ^ 64 → Tracks c q → Tracks (record { proc = at_ip (after c.proc.ip 1) c.proc; trapped = true }) q
trapped-tracks c q free below tracks =
    record {
      life = tracks.life;
      same = λ runs. ap (λ (a : ℕ). at_ip a c.proc) (back c.proc.ip below) ∙ sym (free-here c free) ∙ tracks.same runs;
    }

walk-trapped : (m : Module) (plan : LivePlan) (word : ℕ) (p : Proc) (done : ℕ) (r s : Runner) (v : View) (walk : List Turn) → r.cpu.proc.ip < 2 ^ 64 → FetchesTrap plan word r.cpu v s.cpu s.view → All (IsReached plan s.view) walk → IsWalking m plan p done r.cpu r.view walk → IsWalking m plan p (done + 1) s.cpu s.view walk
walk-trapped m plan word p done r s v walk below hits reached is =
    let few = is.few in
    let many = is.many hits.runs in
    let none = ap owed hits.free in
    subst (λ (c : CpuState). IsWalking m plan p (done + 1) c s.view walk) (sym hits.cpu)
    (record {
      says = is.says;
      in_order = is.in_order;
      few = omega arith;
      many = λ runs. omega arith;
      tracks = trapped-tracks r.cpu (after_turns m p walk) hits.free below is.tracks;
      reached = reached;
    })

-- a member more: what it has to say, where the processor stands after it, and that it comes after the others
record Adds (m : Module) (plan : LivePlan) (q : Proc) (r s : Runner) (turn : Turn) : Type 0 where
  pub runs : r.cpu.proc.life ≡ Running
  pub says : Says m plan q turn
  pub tracks : Tracks s.cpu (after_turn m q turn)
  pub later : (before : Turn) → IsReached plan r.view before → IsInOrder before turn
  pub reached : IsReached plan s.view turn

walk-adds : (m : Module) (plan : LivePlan) (p : Proc) (done : ℕ) (r s : Runner) (walk : List Turn) (turn : Turn) → Adds m plan (after_turns m p walk) r s turn → All (IsReached plan s.view) walk → IsWalking m plan p done r.cpu r.view walk → IsWalking m plan p (done + 1) s.cpu s.view (walk ++ turn ∷ [])
walk-adds m plan p done r s walk turn adds reached is =
    let few = is.few in
    let many = is.many adds.runs in
    let one = owed-one r.cpu.trapped in
    let size = length-append walk (turn ∷ []) in
    record {
      says = say-more m plan p walk turn is.says adds.says;
      in_order = order-more walk turn is.in_order (λ k d lt. adds.later (get_or walk k d) (All-get_or (IsReached plan r.view) walk k d lt is.reached));
      few = omega arith;
      many = λ runs. omega arith;
      tracks = subst (Tracks s.cpu) (sym (after-more m p walk turn)) adds.tracks;
      reached = All-push (IsReached plan s.view) walk turn reached adds.reached;
    }

-- a plain instruction
plain-here : (m : Module) (before : CpuState) (v : View) (now : CpuState) (w : View) (mark : Mark) (q : Proc) → RunsPlain m before v now w mark → before.proc ≡ q → DoesPlain m q mark
plain-here m before v now w mark q ran is =
    subst (λ (p : Proc). DoesPlain m p mark) is
    (record { runs = ran.runs; insn = ran.insn; len = ran.len; here = ran.here; no_site = ran.no_site; shows = ran.shows })

plain-leads : (m : Module) (before : CpuState) (v : View) (now : CpuState) (w : View) (mark : Mark) (q : Proc) → RunsPlain m before v now w mark → before.proc ≡ q → now.proc ≡ after_turn m q (Ran mark)
plain-leads m before v now w mark q ran is =
    ap (λ (c : CpuState). c.proc) ran.cpu ∙ sym (ap (λ (o : Option (Insn × ℕ)). after_plain o before.proc) ran.here)
    ∙ ap (λ (p : Proc). after_turn m p (Ran mark)) is

plain-adds : (m : Module) (plan : LivePlan) (r s : Runner) (v : View) (mark : Mark) (q : Proc) → RunsPlain m r.cpu v s.cpu s.view mark → Tracks r.cpu q → Adds m plan q r s (Ran mark)
plain-adds m plan r s v mark q ran tracks =
    let is : r.cpu.proc ≡ q = sym (free-here r.cpu ran.free) ∙ tracks.same (sym tracks.life ∙ ran.runs) in
    record {
      runs = ran.runs;
      says = plain-here m r.cpu v s.cpu s.view mark q ran is;
      tracks = free-tracks s.cpu (after_turn m q (Ran mark)) (ap (λ (c : CpuState). c.trapped) ran.cpu ∙ ran.free) (plain-leads m r.cpu v s.cpu s.view mark q ran is);
      later = λ before reached. order-one plan r.view before (Ran mark) reached (λ site form n ack shown e. cc);
      reached = tt;
    }

-- a form at a site
whole-here : (m : Module) (plan : LivePlan) (site : ℕ) (form : Form) (n ack : ℕ) (mark : Mark) (r s : Runner) (q : Proc) → DoesWhole plan site form n ack mark r s → at_ip (next_at r.cpu) r.cpu.proc ≡ q → DoesSite plan q site form n ack mark
whole-here m plan site form n ack mark r s q did is =
    subst (λ (p : Proc). DoesSite plan p site form n ack mark) is
    (record {
      runs = did.runs;
      begins = did.begins;
      form_is = did.form_is;
      allowed = did.allowed;
      shows = did.shows ∙ (whole-alike form (next_at r.cpu) r.cpu.proc).shows;
    })

whole-tracks : (form : Form) (c now : CpuState) (q : Proc) → now ≡ record { proc = (whole form (next_at c) c.proc).0; trapped = false } → at_ip (next_at c) c.proc ≡ q → Tracks now (whole form q.ip q).0
whole-tracks form c now q cpu is =
    let alike = whole-alike form (next_at c) c.proc in
    let free : now.trapped ≡ false = ap (λ (x : CpuState). x.trapped) cpu in
    let proc : now.proc ≡ (whole form (next_at c) c.proc).0 = ap (λ (x : CpuState). x.proc) cpu in
    subst (λ (p : Proc). Tracks now (whole form p.ip p).0) is
    (record {
      life = ap (λ (p : Proc). p.life) proc ∙ alike.life;
      same = λ runs. free-here now free ∙ proc ∙ alike.same runs;
    })

-- its acknowledgement isn't before what was acknowledged, nor its version below the floor
pass-later : (plan : LivePlan) (r s : Runner) (site : ℕ) (form : Form) (n ack : ℕ) (mark : Mark) → DoesWhole plan site form n ack mark r s → r.view.cpu.ack ≤ s.view.cpu.ack → (site' : ℕ) (form' : Form) (n' ack' : ℕ) (mark' : Mark) → Pass site form n ack mark ≡ Pass site' form' n' ack' mark' → (r.view.cpu.ack ≤ ack') × (floor plan r.view site' ≤ n')
pass-later plan r s site form n ack mark did acks site' form' n' ack' mark' e =
    let sites : site ≡ site' = cc in
    let versions : n ≡ n' = cc in
    let all : ack ≡ ack' = cc in
    let ack_is = did.ack_is in
    (omega arith, subst (λ (k : ℕ). floor plan r.view site' ≤ k) versions (subst (λ (k : ℕ). floor plan r.view k ≤ n) sites did.from))

whole-adds : (m : Module) (plan : LivePlan) (site : ℕ) (form : Form) (n ack : ℕ) (mark : Mark) (r s : Runner) (q : Proc) → DoesWhole plan site form n ack mark r s → r.view.cpu.ack ≤ s.view.cpu.ack → Tracks r.cpu q → Adds m plan q r s (Pass site form n ack mark)
whole-adds m plan site form n ack mark r s q did acks tracks =
    let is : at_ip (next_at r.cpu) r.cpu.proc ≡ q = tracks.same (sym tracks.life ∙ did.runs) in
    let ack_is = did.ack_is in
    record {
      runs = did.runs;
      says = whole-here m plan site form n ack mark r s q did is;
      tracks = whole-tracks form r.cpu s.cpu q did.cpu is;
      later = λ before reached. order-one plan r.view before (Pass site form n ack mark) reached (pass-later plan r s site form n ack mark did acks);
      reached = (omega arith, did.to);
    }

-- a walk, one turn more
abbrev pub added : List Turn → Turn → List Turn
added walk (Ran mark) = walk ++ Ran mark ∷ []
added walk (Pass site form n ack mark) = walk ++ Pass site form n ack mark ∷ []
added walk Trapped = walk
added walk Still = walk

pub turned-walk : (m : Module) (plan : LivePlan) (word : ℕ) (p : Proc) (done : ℕ) (r s : Runner) (walk : List Turn) (turn : Turn) → Turned m plan word r s turn → IsWalking m plan p done r.cpu r.view walk → IsWalking m plan p (done + 1) s.cpu s.view (added walk turn)
turned-walk m plan word p done r s walk (Ran mark) turned is =
    walk-adds m plan p done r s walk (Ran mark) (plain-adds m plan r s turned.turns.looked mark (after_turns m p walk) turned.turns.does is.tracks) (all-reached plan r.view s.view walk turned.acks turned.floors is.reached) is
turned-walk m plan word p done r s walk (Pass site form n ack mark) turned is =
    walk-adds m plan p done r s walk (Pass site form n ack mark) (whole-adds m plan site form n ack mark r s (after_turns m p walk) turned.turns.does.0 turned.acks is.tracks) (all-reached plan r.view s.view walk turned.acks turned.floors is.reached) is
turned-walk m plan word p done r s walk Trapped turned is =
    let hits : FetchesTrap plan word r.cpu turned.turns.looked s.cpu s.view = turned.turns.does in
    walk-trapped m plan word p done r s turned.turns.looked walk (stands-below m plan r turned.accepted turned.paired hits.free hits.runs) hits (all-reached plan r.view s.view walk turned.acks turned.floors is.reached) is
turned-walk m plan word p done r s walk Still turned is =
    walk-still m plan p done r s turned.turns.looked walk turned.turns.does (all-reached plan r.view s.view walk turned.acks turned.floors is.reached) is

-- a turn in which nothing was done adds no member
pub added-none : (walk : List Turn) (turn : Turn) → (turn ≡ Trapped) ⊎ (turn ≡ Still) → added walk turn ≡ walk
added-none walk turn (inl e) = ap (added walk) e
added-none walk turn (inr e) = ap (added walk) e

-- one that did an instruction is a member
pub added-one : (walk : List Turn) (turn : Turn) → ((mark : Mark) × (turn ≡ Ran mark)) ⊎ ((site : ℕ) × (form : Form) × (n : ℕ) × (ack : ℕ) × (mark : Mark) × (turn ≡ Pass site form n ack mark)) → added walk turn ≡ walk ++ turn ∷ []
added-one walk turn (inl (mark, e)) = subst (λ (t : Turn). added walk t ≡ walk ++ t ∷ []) (sym e) refl
added-one walk turn (inr (site, form, n, ack, mark, e)) = subst (λ (t : Turn). added walk t ≡ walk ++ t ∷ []) (sym e) refl

-- a processor under way, with the room for its walk
pub record IsUnderWay (m : Module) (text : TextState) (turns done entry : ℕ) (job : Job) : Type 0 where
  pub own : IsOwn text job.seat
  pub paired : IsPaired m text.plan (runner job.cpu job.seat)
  pub entry_is : job.entry ≡ entry
  pub room : turns ≤ vec_capacity job.walk
  pub walking : IsWalking m text.plan (start entry) done job.cpu job.seat.view job.walk.items

-- before its first turn
pub sets-out : (m : Module) (text : TextState) (turns : ℕ) (job : Job) → IsReady m text turns job → NewCpusArePaired → IsUnderWay m text turns 0 job.entry job
sets-out m text turns job ready new =
    record {
      own = ready.own;
      paired = subst (λ (c : CpuState). IsPaired m text.plan (runner c job.seat)) (sym ready.cpu) (new m text.plan job.entry job.seat.view ready.begins ready.stays);
      entry_is = refl;
      room = ready.room;
      walking =
          subst (λ (c : CpuState). IsWalking m text.plan (start job.entry) 0 c job.seat.view job.walk.items) (sym ready.cpu)
          (subst (λ (walk : List Turn). IsWalking m text.plan (start job.entry) 0 (new_cpu job.entry) job.seat.view walk) (sym ready.empty) (walk-begins m text.plan job.entry job.seat.view));
    }

-- after its last one
pub is-done : (m : Module) (text : TextState) (turns done entry : ℕ) (job : Job) → IsUnderWay m text turns done entry job → done ≡ turns → IsWalk m text.plan entry turns job.walk.items
is-done m text turns done entry job is all =
    let few = is.walking.few in
    record {
      says = is.walking.says;
      in_order = is.walking.in_order;
      few = omega arith;
      many = λ runs. (let many = many-after m text.plan (start entry) done job.cpu job.seat.view job.walk.items is.walking runs in omega arith);
    }
