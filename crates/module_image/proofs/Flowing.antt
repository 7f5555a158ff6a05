-- What the effects of instructions keep of a processor that stands at a start and returns to starts.
use Rattle.std.proofs.Common.{◌≡◌, ◌∙◌, ◌<◌, ◌+◌, ◌-◌, ◌==◌, inl, inr, ℕ, Bool, true, false, if◌then◌else◌, List, length, slice_set, refl, sym, ap, subst, arith, get_or-set_same, get_or-set_other}
use Rattle.std.specs.Prelude.{slice_index}
use Rattle.std.proofs.lemmas.Bool.{cases_eq, eqb-false}
use Rattle.std.proofs.lemmas.List.{length-set}
use Rattle.insn_forms.specs.Spelling.{after}
use Rattle.x64_subset.specs.declared.insn.AluOp.{AluOp}
use Rattle.x64_subset.specs.declared.insn.AluOp.TheVariants.{Add, Sub, Xor, Cmp, Test, Mov}
use Rattle.x64_subset.specs.declared.proc.Proc.{Proc}
use Rattle.x64_subset.specs.declared.proc.Life.{Life}
use Rattle.x64_subset.specs.declared.proc.Life.TheVariants.{Running, Done, Fault}
use Rattle.x64_subset.specs.declared.proc.FaultKind.TheVariants.{Depth}
use Rattle.x64_subset.specs.declared.proc.Mark.{Mark}
use Rattle.x64_subset.specs.declared.proc.Mark.TheVariants.{None as NoMark, Out, Ended}
use Rattle.x64_subset.specs.Effect.{at_ip, calls, ends, goes_on, jumps, next, operated, returns}
use Rattle.x64_subset.specs.Whole.{stays}
use Rattle.module_image.specs.Flows.{Flows}
use Rattle.module_image.specs.Layout.{Layout, IsStart}

-- a processor that returns to the same addresses and stands at a start
pub moves : (t : Layout) (p q : Proc) → q.stack ≡ p.stack → q.depth ≡ p.depth → IsStart t q.ip → Flows t p → Flows t q
moves t p q stack depth start flows =
    let few = flows.few in
    record {
      stands = λ running. start;
      room = ap (λ (xs : List ℕ). length xs) stack ∙ flows.room;
      few = omega (arith, depth, few);
      returns = λ i lt. subst (λ (xs : List ℕ). IsStart t (slice_index xs i)) (sym stack) (flows.returns i (omega (arith, lt, depth)));
    }

-- one whose numbers alone changed
pub record IsBeside (p q : Proc) : Type 0 where
  pub stack : q.stack ≡ p.stack
  pub depth : q.depth ≡ p.depth
  pub place : q.ip ≡ p.ip

pub operated_beside : (op : AluOp) (rm source : ℕ) (p : Proc) → IsBeside p (operated op rm source p)
operated_beside Add rm source p = record { stack = refl; depth = refl; place = refl }
operated_beside Sub rm source p = record { stack = refl; depth = refl; place = refl }
operated_beside Xor rm source p = record { stack = refl; depth = refl; place = refl }
operated_beside Cmp rm source p = record { stack = refl; depth = refl; place = refl }
operated_beside Test rm source p = record { stack = refl; depth = refl; place = refl }
operated_beside Mov rm source p = record { stack = refl; depth = refl; place = refl }

-- it goes on to the next unit
pub goes_flows : (t : Layout) (p q : Proc) (len : ℕ) → IsBeside p q → IsStart t (after p.ip len) → Flows t p → Flows t (goes_on len q).0
goes_flows t p q len beside start flows =
    moves t p (at_ip (next len q) q) beside.stack beside.depth (subst (λ (ip : ℕ). IsStart t (after ip len)) (sym beside.place) start) flows

-- it jumps to a start
pub jumps_flows : (t : Layout) (p : Proc) (target : ℕ) → IsStart t target → Flows t p → Flows t (jumps target p).0
jumps_flows t p target start flows = moves t p (at_ip target p) refl refl start flows

pub either_flows : (t : Layout) (p : Proc) (target len : ℕ) (taken : Bool) → IsStart t target → IsStart t (after p.ip len) → Flows t p → Flows t (if taken then jumps target p else goes_on len p).0
either_flows t p target len true to start flows = jumps_flows t p target to flows
either_flows t p target len false to start flows = goes_flows t p p len (record { stack = refl; depth = refl; place = refl }) start flows

-- it ends
pub ends_flows : (t : Layout) (p : Proc) (life : Life) → (life ≡ Running → ⊥) → Flows t p → Flows t (ends life p).0
ends_flows t p life ended flows =
    record { stands = λ running. absurd (ended running); room = flows.room; few = flows.few; returns = flows.returns }

-- one more return address, a start as the others
pushed_start : (t : Layout) (p : Proc) (back : ℕ) → p.depth < 64 → IsStart t back → Flows t p → (i : ℕ) → i < p.depth + 1 → IsStart t (slice_index (slice_set p.stack p.depth back) i)
pushed_start t p back below start flows i lt =
    let room = flows.room in
    elim (cases_eq i p.depth) [
      | inl last ↦ (
          let there : slice_index (slice_set p.stack p.depth back) p.depth ≡ back = get_or-set_same p.stack p.depth back 0 (omega (arith, below, room)) in
          subst (IsStart t) (sym (ap (slice_index (slice_set p.stack p.depth back)) last ∙ there)) start)
      | inr other ↦ (
          let there : slice_index (slice_set p.stack p.depth back) i ≡ slice_index p.stack i = get_or-set_other p.stack p.depth i back 0 other in
          subst (IsStart t) (sym there) (flows.returns i (omega (arith, lt, other))))
    ]

-- it calls what begins at a start, and returns to one
pub calls_flows : (t : Layout) (p : Proc) (target len : ℕ) → IsStart t target → IsStart t (after p.ip len) → Flows t p → Flows t (calls target len p).0
calls_flows t p target len to start flows = by (p.depth == 64) refl
  where
    by : (full : Bool) → (p.depth == 64) ≡ full → Flows t (if full then ends (Fault Depth) p else (record p { stack = slice_set p.stack p.depth (next len p); depth = p.depth + 1; ip = target }, NoMark)).0
    by true is = ends_flows t p (Fault Depth) (λ running. cc) flows
    by false is =
        let few = flows.few in
        let other = eqb-false p.depth 64 is in
        let below : p.depth < 64 = omega (arith, few, other) in
        record {
          stands = λ running. to;
          room = length-set p.stack p.depth (next len p) ∙ flows.room;
          few = omega (arith, below);
          returns = pushed_start t p (next len p) below start flows;
        }

-- it returns to a start, or ends
pub returns_flows : (t : Layout) (p : Proc) → Flows t p → Flows t (returns p).0
returns_flows t p flows = by (p.depth == 0) refl
  where
    by : (done : Bool) → (p.depth == 0) ≡ done → Flows t (if done then ends Done p else (record p { depth = p.depth - 1; ip = slice_index p.stack (p.depth - 1) }, NoMark)).0
    by true is = ends_flows t p Done (λ running. cc) flows
    by false is =
        let few = flows.few in
        let other = eqb-false p.depth 0 is in
        record {
          stands = λ running. flows.returns (p.depth - 1) (omega (arith, other));
          room = flows.room;
          few = omega (arith, few);
          returns = λ i lt. flows.returns i (omega (arith, lt));
        }

-- it ends where it stood
pub stays_flows : (t : Layout) (ip : ℕ) (done : Proc × Mark) → IsStart t ip → Flows t done.0 → Flows t (stays ip done).0
stays_flows t ip (p, NoMark) start flows = flows
stays_flows t ip (p, Out port value) start flows = flows
stays_flows t ip (p, Ended) start flows = moves t p (at_ip ip p) refl refl start flows
