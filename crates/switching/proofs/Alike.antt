-- A processor of the byte machine and that of the switching machine: they are the same, but for where they stand while the
-- first is trapped, and after it has ended.
use Rattle.std.proofs.Common.{◌≡◌, ◌∙◌, ◌+◌, ◌-◌, ◌^◌, ◌<◌, ◌==◌, ℕ, Bool, true, false, cond, slice_index, slice_set, refl, sym, ap, subst, arith}
use Rattle.insn_forms.specs.declared.forms.Form.{Form}
use Rattle.insn_forms.specs.declared.forms.Form.TheVariants.{Nop2, Nop5, Jmp8, Jmp32, Call, Ret}
use Rattle.insn_forms.specs.Spelling.{after}
use Rattle.int3_handler.specs.Handler.{breakpoint_of}
use Rattle.x64_subset.specs.declared.proc.Life.TheVariants.{Running, Done, Fault}
use Rattle.x64_subset.specs.declared.proc.FaultKind.TheVariants.{Depth}
use Rattle.x64_subset.specs.declared.proc.Mark.{Mark}
use Rattle.x64_subset.specs.declared.proc.Mark.TheVariants.{None as NoMark, Out, Ended}
use Rattle.x64_subset.specs.declared.proc.Proc.{Proc}
use Rattle.x64_subset.specs.Effect.{at_ip, does}
use Rattle.x64_subset.specs.Whole.{insn_of, name_len, stays, whole}

pub record IsLike (trapped : Bool) (p q : Proc) : Type 0 where
  pub same : p ≡ at_ip p.ip q
  pub there : trapped ≡ false → q.life ≡ Running → p.ip ≡ q.ip
  pub past : trapped ≡ true → (q.life ≡ Running) × (p.ip ≡ after q.ip 1)

pub like_self : (p : Proc) → IsLike false p p
like_self p = record { same = refl; there = λ _ _. refl; past = λ e. absurd (cc) }

-- a running processor that isn't trapped is the same
pub like_same : (p q : Proc) → IsLike false p q → p.life ≡ Running → p ≡ q
like_same p q like runs =
    let life : p.life ≡ q.life = ap (λ (r : Proc). r.life) like.same in
    like.same ∙ ap (λ (ip : ℕ). at_ip ip q) (like.there refl (sym life ∙ runs))

pub like_life : (trapped : Bool) (p q : Proc) → IsLike trapped p q → p.life ≡ q.life
like_life trapped p q like = ap (λ (r : Proc). r.life) like.same

-- a trapped processor's breakpoint is where the other stands
pub like_breakpoint : (p q : Proc) → IsLike true p q → q.ip + 1 < 2 ^ 64 → breakpoint_of p ≡ q.ip
like_breakpoint p q like below =
    let past = (like.past refl).1 in
    omega (arith, past, below)

-- what ends a processor leaves it not running
abbrev EndsOff : Proc × Mark → Type 0
EndsOff r = r.1 ≡ Ended → r.0.life ≡ Running → ⊥

either_ends : (b : Bool) (x y : Proc × Mark) → EndsOff x → EndsOff y → EndsOff (cond b x y)
either_ends true x y first second = first
either_ends false x y first second = second

unmarked : (p : Proc) → EndsOff (p, NoMark)
unmarked p ended runs = absurd (cc)

form_ends : (form : Form) (len : ℕ) (p : Proc) → EndsOff (does (insn_of form) len p)
unfolding does
form_ends Nop2 len p = unmarked (at_ip (after p.ip len) p)
form_ends Nop5 len p = unmarked (at_ip (after p.ip len) p)
form_ends (Jmp8 target) len p = unmarked (at_ip target p)
form_ends (Jmp32 target) len p = unmarked (at_ip target p)
form_ends (Call target) len p =
    either_ends (p.depth == 64) (record p { life = Fault Depth }, Ended) (record p { stack = slice_set p.stack p.depth (after p.ip len); depth = p.depth + 1; ip = target }, NoMark)
    (λ ended runs. absurd (cc)) (λ ended runs. absurd (cc))
form_ends Ret len p =
    either_ends (p.depth == 0) (record p { life = Done }, Ended) (record p { depth = p.depth - 1; ip = slice_index p.stack (p.depth - 1) }, NoMark)
    (λ ended runs. absurd (cc)) (λ ended runs. absurd (cc))

-- one effect on two processors that stand elsewhere
pub record IsLikeDone (x y : Proc × Mark) : Type 0 where
  pub like : IsLike false x.0 y.0
  pub mark : x.1 ≡ y.1

stays_like : (ip other : ℕ) (r : Proc × Mark) → EndsOff r → IsLikeDone (stays ip r) (stays other r)
stays_like ip other (p, NoMark) ends = record { like = like_self p; mark = refl }
stays_like ip other (p, Out port value) ends = record { like = like_self p; mark = refl }
stays_like ip other (p, Ended) ends = record { like = record { same = refl; there = λ _ runs. absurd (ends refl runs); past = λ e. absurd (cc) }; mark = refl }

-- a form that is done whole does the same to both
pub whole_like : (form : Form) (at : ℕ) (trapped : Bool) (p q : Proc) → IsLike trapped p q → IsLikeDone (whole form at p) (whole form at q)
unfolding whole
whole_like form at trapped p q like =
    let there : at_ip at p ≡ at_ip at q = ap (λ (r : Proc). at_ip at r) like.same in
    subst (λ (r : Proc). IsLikeDone (stays p.ip (does (insn_of form) (name_len form) r)) (stays q.ip (does (insn_of form) (name_len form) (at_ip at q)))) (sym there)
    (stays_like p.ip q.ip (does (insn_of form) (name_len form) (at_ip at q)) (form_ends form (name_len form) (at_ip at q)))

-- done where it stands it is its instruction
ends_there : (ip : ℕ) (r : Proc × Mark) → (r.1 ≡ Ended → r.0.ip ≡ ip) → stays ip r ≡ r
ends_there ip (p, NoMark) same = refl
ends_there ip (p, Out port value) same = refl
ends_there ip (p, Ended) same = (let ap_ip : ℕ → Proc × Mark = λ (a : ℕ). (at_ip a p, Ended) in ap ap_ip (sym (same refl)))

either_there : (ip : ℕ) (b : Bool) (x y : Proc × Mark) → (x.1 ≡ Ended → x.0.ip ≡ ip) → (y.1 ≡ Ended → y.0.ip ≡ ip) → (cond b x y).1 ≡ Ended → (cond b x y).0.ip ≡ ip
either_there ip true x y first second = first
either_there ip false x y first second = second

unmarked_there : (ip : ℕ) (p : Proc) → NoMark ≡ Ended → p.ip ≡ ip
unmarked_there ip p ended = absurd (cc)

form_there : (form : Form) (len : ℕ) (p : Proc) → (does (insn_of form) len p).1 ≡ Ended → (does (insn_of form) len p).0.ip ≡ p.ip
unfolding does
form_there Nop2 len p = unmarked_there p.ip (at_ip (after p.ip len) p)
form_there Nop5 len p = unmarked_there p.ip (at_ip (after p.ip len) p)
form_there (Jmp8 target) len p = unmarked_there p.ip (at_ip target p)
form_there (Jmp32 target) len p = unmarked_there p.ip (at_ip target p)
form_there (Call target) len p =
    either_there p.ip (p.depth == 64) (record p { life = Fault Depth }, Ended) (record p { stack = slice_set p.stack p.depth (after p.ip len); depth = p.depth + 1; ip = target }, NoMark)
    (λ ended. refl) (λ ended. absurd (cc))
form_there Ret len p =
    either_there p.ip (p.depth == 0) (record p { life = Done }, Ended) (record p { depth = p.depth - 1; ip = slice_index p.stack (p.depth - 1) }, NoMark)
    (λ ended. refl) (λ ended. absurd (cc))

pub whole_here : (form : Form) (p : Proc) → whole form p.ip p ≡ does (insn_of form) (name_len form) p
unfolding whole
whole_here form p = ends_there p.ip (does (insn_of form) (name_len form) p) (form_there form (name_len form) p)
