-- The lines of walks are printed turn by turn, and walk by walk.
use Rattle.std.proofs.Common.{◌≡◌, ◌≤◌, ◌<◌, ◌+◌, ◌++◌, ℕ, List, [], ◌∷◌, Vec, length, map, drop, Result, Ok, Err, Some, refl, sym, ap, ◌∙◌, subst, append-nil, arith}
use Rattle.std.proofs.lemmas.List.{append_assoc}
use Rattle.std.specs.declared.alloc.Global.{Global}
use Rattle.std.specs.List.{AllZip, slice_get}
use Rattle.live_engine.specs.declared.cpu.Turn.{Turn}
use Rattle.live_engine.specs.Walks.{IsWalk, SayAll, Says, after_turn}
use Rattle.live_text.specs.declared.plan.LivePlan.{LivePlan}
use Rattle.module_image.specs.Module.{Module}
use Rattle.poke_base.specs.declared.host.WriteFail.{WriteFail}
use Rattle.poke_base.specs.Host.{Outside, Prints}
use Rattle.poke_base.proofs.Outsides.{Prints-more, Prints-none, Prints-part}
use Rattle.x64_subset.specs.declared.proc.Proc.{Proc}
use Rattle.x64_subset.specs.Proc.{start}
use Rattle.live_trace.specs.WalkText.{turn_text, walk_text, walks_text}
use Rattle.live_trace.proofs.Dropping.{drop_all, drop_here}

-- ---- a walk

-- the first turns of a walk were printed, and the processor is as they leave it
pub record TurnsPrinted (m : Module) (cpu : ℕ) (from : Proc) (turns : List Turn) (i : ℕ) (p : Proc) (old new : Outside) : Type 0 where
  pub plan : LivePlan
  pub says : SayAll m plan p (drop i turns)
  pub depth : p.depth ≤ 64
  pub text : List ℕ
  pub whole : text ++ walk_text m cpu p (drop i turns) ≡ walk_text m cpu from turns
  pub prints : Prints {T = Unit {0}} {E = WriteFail} old new text (Ok tt)

-- none was, at first
pub no_turn_printed : (m : Module) (cpu : ℕ) (from : Proc) (turns : List Turn) (plan : LivePlan) (old : Outside) → SayAll m plan from turns → from.depth ≤ 64 → TurnsPrinted m cpu from turns 0 from old old
no_turn_printed m cpu from turns plan old says few = record {
  plan = plan;
  says = says;
  depth = few;
  text = [];
  whole = refl;
  prints = Prints-none old tt;
}

-- what the next turn says
pub turn_says : (m : Module) (cpu : ℕ) (from : Proc) (turns : List Turn) (i : ℕ) (p : Proc) (turn : Turn) (old new : Outside) → TurnsPrinted m cpu from turns i p old new → slice_get turns i ≡ Some turn → (plan : LivePlan) × Says m plan p turn
turn_says m cpu from turns i p turn old new before there =
    (before.plan, (subst (λ (rest : List Turn). SayAll m before.plan p rest) (drop_here turns i turn there) before.says).0)

-- the text up to the next turn's, and the rest after it
next_text : (m : Module) (cpu : ℕ) (from : Proc) (turns : List Turn) (i : ℕ) (p q : Proc) (turn : Turn) (old new : Outside) → (before : TurnsPrinted m cpu from turns i p old new) → slice_get turns i ≡ Some turn → q ≡ after_turn m p turn → (before.text ++ turn_text cpu p.ip turn q.life) ++ walk_text m cpu q (drop (i + 1) turns) ≡ walk_text m cpu from turns
next_text m cpu from turns i p q turn old new before there is =
    append_assoc before.text (turn_text cpu p.ip turn q.life) (walk_text m cpu q (drop (i + 1) turns))
    ∙ ap (λ (r : Proc). before.text ++ (turn_text cpu p.ip turn r.life ++ walk_text m cpu r (drop (i + 1) turns))) is
    ∙ ap (λ (rest : List Turn). before.text ++ walk_text m cpu p rest) (sym (drop_here turns i turn there))
    ∙ before.whole

-- one more was
pub turn_printed : (m : Module) (cpu : ℕ) (from : Proc) (turns : List Turn) (i : ℕ) (p q : Proc) (turn : Turn) (old middle new : Outside) → TurnsPrinted m cpu from turns i p old middle → slice_get turns i ≡ Some turn → q ≡ after_turn m p turn → q.depth ≤ 64 → Prints {T = Unit {0}} {E = WriteFail} middle new (turn_text cpu p.ip turn q.life) (Ok tt) → TurnsPrinted m cpu from turns (i + 1) q old new
turn_printed m cpu from turns i p q turn old middle new before there is few prints = record {
  plan = before.plan;
  says =
      subst (λ (r : Proc). SayAll m before.plan r (drop (i + 1) turns)) (sym is)
      (subst (λ (rest : List Turn). SayAll m before.plan p rest) (drop_here turns i turn there) before.says).1;
  depth = few;
  text = before.text ++ turn_text cpu p.ip turn q.life;
  whole = next_text m cpu from turns i p q turn old middle before there is;
  prints = Prints-more old middle new before.text (turn_text cpu p.ip turn q.life) tt (Ok tt) before.prints prints;
}

-- or it failed
pub turn_failed : (m : Module) (cpu : ℕ) (from : Proc) (turns : List Turn) (i : ℕ) (p q : Proc) (turn : Turn) (why : WriteFail) (old middle new : Outside) → TurnsPrinted m cpu from turns i p old middle → slice_get turns i ≡ Some turn → q ≡ after_turn m p turn → Prints {T = Unit {0}} {E = WriteFail} middle new (turn_text cpu p.ip turn q.life) (Err why) → Prints {T = Unit {0}} {E = WriteFail} old new (walk_text m cpu from turns) (Err why)
turn_failed m cpu from turns i p q turn why old middle new before there is prints =
    subst (λ (text : List ℕ). Prints {T = Unit {0}} {E = WriteFail} old new text (Err why))
    (next_text m cpu from turns i p q turn old middle before there is)
    (Prints-part old middle new before.text (turn_text cpu p.ip turn q.life) (walk_text m cpu q (drop (i + 1) turns)) tt why before.prints prints)

-- or none is left
pub turns_printed : (m : Module) (cpu : ℕ) (from : Proc) (turns : List Turn) (i : ℕ) (p : Proc) (old new : Outside) → TurnsPrinted m cpu from turns i p old new → length turns ≤ i → Prints {T = Unit {0}} {E = WriteFail} old new (walk_text m cpu from turns) (Ok tt)
turns_printed m cpu from turns i p old new before past =
    subst (λ (text : List ℕ). Prints {T = Unit {0}} {E = WriteFail} old new text (Ok tt))
    (sym (append-nil before.text) ∙ ap (λ (rest : List Turn). before.text ++ walk_text m cpu p rest) (sym (drop_all turns i past)) ∙ before.whole)
    before.prints

-- ---- the walks

abbrev pub members : List (Vec Turn Global) → List (List Turn)
members walks = map (λ (walk : Vec Turn Global). walk.items) walks

-- each is the walk of its processor
abbrev pub AreWalks : Module → List ℕ → List (Vec Turn Global) → Type 0
AreWalks m entries walks =
    (plan : LivePlan) × ((turns : ℕ) × AllZip (λ entry (walk : Vec Turn Global). IsWalk m plan entry turns walk.items) entries walks)

-- the walks of the first processors were printed
pub record WalksPrinted (m : Module) (entries : List ℕ) (walks : List (Vec Turn Global)) (n : ℕ) (old new : Outside) : Type 0 where
  pub are : AreWalks m (drop n entries) (drop n walks)
  pub text : List ℕ
  pub whole : text ++ walks_text m n (drop n entries) (members (drop n walks)) ≡ walks_text m 0 entries (members walks)
  pub prints : Prints {T = Unit {0}} {E = WriteFail} old new text (Ok tt)

pub no_walk_printed : (m : Module) (entries : List ℕ) (walks : List (Vec Turn Global)) (old : Outside) → AreWalks m entries walks → WalksPrinted m entries walks 0 old old
no_walk_printed m entries walks old are = record { are = are; text = []; whole = refl; prints = Prints-none old tt }

-- the next one
abbrev here : (m : Module) (entries : List ℕ) (walks : List (Vec Turn Global)) (n entry : ℕ) (walk : Vec Turn Global) → AreWalks m (drop n entries) (drop n walks) → slice_get entries n ≡ Some entry → slice_get walks n ≡ Some walk → AreWalks m (entry ∷ drop (n + 1) entries) (walk ∷ drop (n + 1) walks)
here m entries walks n entry walk are there there_too =
    subst (λ (rest : List (Vec Turn Global)). AreWalks m (entry ∷ drop (n + 1) entries) rest) (drop_here walks n walk there_too)
    (subst (λ (rest : List ℕ). AreWalks m rest (drop n walks)) (drop_here entries n entry there) are)

pub walk_says : (m : Module) (entries : List ℕ) (walks : List (Vec Turn Global)) (n entry : ℕ) (walk : Vec Turn Global) (turns : List Turn) (old new : Outside) → WalksPrinted m entries walks n old new → slice_get entries n ≡ Some entry → slice_get walks n ≡ Some walk → turns ≡ walk.items → (plan : LivePlan) × SayAll m plan (start entry) turns
walk_says m entries walks n entry walk turns old new before there there_too is =
    let are = here m entries walks n entry walk before.are there there_too in
    (are.0, subst (λ (ts : List Turn). SayAll m are.0 (start entry) ts) (sym is) are.1.1.0.says)

next_walk : (m : Module) (entries : List ℕ) (walks : List (Vec Turn Global)) (n entry : ℕ) (walk : Vec Turn Global) (old new : Outside) → (before : WalksPrinted m entries walks n old new) → slice_get entries n ≡ Some entry → slice_get walks n ≡ Some walk → (before.text ++ walk_text m n (start entry) walk.items) ++ walks_text m (n + 1) (drop (n + 1) entries) (members (drop (n + 1) walks)) ≡ walks_text m 0 entries (members walks)
next_walk m entries walks n entry walk old new before there there_too =
    append_assoc before.text (walk_text m n (start entry) walk.items) (walks_text m (n + 1) (drop (n + 1) entries) (members (drop (n + 1) walks)))
    ∙ ap (λ (rest : List (Vec Turn Global)). before.text ++ walks_text m n (entry ∷ drop (n + 1) entries) (members rest)) (sym (drop_here walks n walk there_too))
    ∙ ap (λ (rest : List ℕ). before.text ++ walks_text m n rest (members (drop n walks))) (sym (drop_here entries n entry there))
    ∙ before.whole

pub walk_printed : (m : Module) (entries : List ℕ) (walks : List (Vec Turn Global)) (n entry : ℕ) (walk : Vec Turn Global) (turns : List Turn) (old middle new : Outside) → WalksPrinted m entries walks n old middle → slice_get entries n ≡ Some entry → slice_get walks n ≡ Some walk → turns ≡ walk.items → Prints {T = Unit {0}} {E = WriteFail} middle new (walk_text m n (start entry) turns) (Ok tt) → WalksPrinted m entries walks (n + 1) old new
walk_printed m entries walks n entry walk turns old middle new before there there_too is prints = record {
  are =
      let are = here m entries walks n entry walk before.are there there_too in
      (are.0, (are.1.0, are.1.1.1));
  text = before.text ++ walk_text m n (start entry) walk.items;
  whole = next_walk m entries walks n entry walk old middle before there there_too;
  prints =
      Prints-more old middle new before.text (walk_text m n (start entry) walk.items) tt (Ok tt) before.prints
      (subst (λ (ts : List Turn). Prints {T = Unit {0}} {E = WriteFail} middle new (walk_text m n (start entry) ts) (Ok tt)) is prints);
}

pub walk_failed : (m : Module) (entries : List ℕ) (walks : List (Vec Turn Global)) (n entry : ℕ) (walk : Vec Turn Global) (turns : List Turn) (why : WriteFail) (old middle new : Outside) → WalksPrinted m entries walks n old middle → slice_get entries n ≡ Some entry → slice_get walks n ≡ Some walk → turns ≡ walk.items → Prints {T = Unit {0}} {E = WriteFail} middle new (walk_text m n (start entry) turns) (Err why) → Prints {T = Unit {0}} {E = WriteFail} old new (walks_text m 0 entries (members walks)) (Err why)
walk_failed m entries walks n entry walk turns why old middle new before there there_too is prints =
    subst (λ (text : List ℕ). Prints {T = Unit {0}} {E = WriteFail} old new text (Err why))
    (next_walk m entries walks n entry walk old middle before there there_too)
    (Prints-part old middle new before.text (walk_text m n (start entry) walk.items) (walks_text m (n + 1) (drop (n + 1) entries) (members (drop (n + 1) walks))) tt why before.prints
    (subst (λ (ts : List Turn). Prints {T = Unit {0}} {E = WriteFail} middle new (walk_text m n (start entry) ts) (Err why)) is prints))

pub walks_printed : (m : Module) (entries : List ℕ) (walks : List (Vec Turn Global)) (n : ℕ) (old new : Outside) → WalksPrinted m entries walks n old new → length entries ≤ n → Prints {T = Unit {0}} {E = WriteFail} old new (walks_text m 0 entries (members walks)) (Ok tt)
walks_printed m entries walks n old new before past =
    subst (λ (text : List ℕ). Prints {T = Unit {0}} {E = WriteFail} old new text (Ok tt))
    (sym (append-nil before.text) ∙ ap (λ (rest : List ℕ). before.text ++ walks_text m n rest (members (drop n walks))) (sym (drop_all entries n past)) ∙ before.whole)
    before.prints

-- there are as many walks as entries
as_many : (R : ℕ → Vec Turn Global → Type 0) (entries : List ℕ) (walks : List (Vec Turn Global)) → AllZip R entries walks → length entries ≡ length walks
as_many R [] [] all = refl
as_many R [] (walk ∷ walks) all = absurd all
as_many R (entry ∷ entries) [] all = absurd all
as_many R (entry ∷ entries) (walk ∷ walks) all =
    let rest = as_many R entries walks all.1 in
    omega (arith, rest)

pub walk_listed : (m : Module) (entries : List ℕ) (walks : List (Vec Turn Global)) (n : ℕ) → AreWalks m entries walks → n < length entries → n < length walks
walk_listed m entries walks n are below =
    let same = as_many (λ entry walk. IsWalk m are.0 entry are.1.0 walk.items) entries walks are.1.1 in
    omega (arith, same, below)
