-- The steps of an open update: a write, a request, the request taken, the return.
use Rattle.std.proofs.Common.{◌≡◌, ◌∙◌, ◌+◌, ◌<◌, ◌≤◌, ℕ, zero, suc, Bool, true, false, if◌then◌else◌, List, [], ◌∷◌, ◌++◌, length, set, Contains, Some, slice_index_or, refl, sym, ap, arith, append_assoc}
use Rattle.std.proofs.lemmas.List.{length-append}
use Rattle.insn_forms.specs.declared.forms.Change.{Change}
use Rattle.insn_forms.specs.declared.forms.Form.{Form}
use Rattle.insn_forms.specs.History.{Memory, byte, written}
use Rattle.insn_forms.specs.Write.{Write}
use Rattle.poke_batch.specs.declared.batch.Due.TheVariants as due
use Rattle.poke_batch.specs.Poke.{Item}
use Rattle.poke_batch.specs.Poke.Item.{Puts, Syncs}
use Rattle.poke_batch.specs.Walk.{Walk, due_at, due_of, moved, moved_at}
use Rattle.key_state.specs.Changes.{AreStatesOf}
use Rattle.module_image.specs.Module.{IsAccepted, Module, States}
use Rattle.switching.specs.State.{Cpu, start}
use Rattle.switching.proofs.Chunk.{trap_stays}
use Rattle.switching.proofs.Invariant.{CpuFacts, Opened, count, joined, left_of}
use Rattle.switching.proofs.Parts.{poked}
use Rattle.switching.proofs.Rounds.{IsPoked, round}
use Rattle.switching.proofs.Writes.{byte_last, byte_pushed}

-- ---- what is due

not_write : (requested : Bool) (at byte : ℕ) → (if requested then due.Wait else due.Request) ≡ due.Write at byte → ⊥
not_write true at byte e = cc
not_write false at byte e = cc

not_return : (requested : Bool) → (if requested then due.Wait else due.Request) ≡ due.Return → ⊥
not_return true e = cc
not_return false e = cc

is_request : (requested : Bool) → (if requested then due.Wait else due.Request) ≡ due.Request → requested ≡ false
is_request true e = absurd (cc)
is_request false e = refl

is_wait : (requested : Bool) → (if requested then due.Wait else due.Request) ≡ due.Wait → requested ≡ true
is_wait true e = refl
is_wait false e = absurd (cc)

-- a write is due where one of the round is to come
pub record IsWriteDue (r : ℕ) (chunk : List Change) (todo : List Write) (at byte : ℕ) : Type 0 where
  pub write : Write
  pub more : List Write
  pub todo_is : todo ≡ write ∷ more
  pub at_is : write.at ≡ at
  pub byte_is : write.byte ≡ byte
  pub left_is : left_of r chunk todo ≡ Puts write ∷ left_of r chunk more

pub write_due : (r : ℕ) (chunk : List Change) (todo : List Write) (requested : Bool) (at byte : ℕ) → due_at (left_of r chunk todo) requested ≡ due.Write at byte → IsWriteDue r chunk todo at byte
write_due zero chunk [] requested at byte e = absurd (not_write requested at byte e)
write_due (suc zero) chunk [] requested at byte e = absurd (not_write requested at byte e)
write_due (suc (suc zero)) chunk [] requested at byte e = absurd (not_write requested at byte e)
write_due (suc (suc (suc r))) chunk todo requested at byte e = absurd (cc)
write_due zero chunk (w ∷ more) requested at byte e = record { write = w; more = more; todo_is = refl; at_is = cc; byte_is = cc; left_is = refl }
write_due (suc zero) chunk (w ∷ more) requested at byte e = record { write = w; more = more; todo_is = refl; at_is = cc; byte_is = cc; left_is = refl }
write_due (suc (suc zero)) chunk (w ∷ more) requested at byte e = record { write = w; more = more; todo_is = refl; at_is = cc; byte_is = cc; left_is = refl }

-- a request is due, or waits, where none is
pub record IsSyncDue (r : ℕ) (chunk : List Change) (todo : List Write) : Type 0 where
  pub round : r < 3
  pub over : todo ≡ []
  pub rest : List Item
  pub left_is : left_of r chunk todo ≡ Syncs ∷ rest

request_due : (r : ℕ) (chunk : List Change) (todo : List Write) (requested : Bool) → due_at (left_of r chunk todo) requested ≡ due.Request → IsSyncDue r chunk todo × (requested ≡ false)
request_due zero chunk [] requested e = (record { round = omega arith; over = refl; rest = _; left_is = refl }, is_request requested e)
request_due (suc zero) chunk [] requested e = (record { round = omega arith; over = refl; rest = _; left_is = refl }, is_request requested e)
request_due (suc (suc zero)) chunk [] requested e = (record { round = omega arith; over = refl; rest = _; left_is = refl }, is_request requested e)
request_due (suc (suc (suc r))) chunk todo requested e = absurd (cc)
request_due zero chunk (w ∷ more) requested e = absurd (cc)
request_due (suc zero) chunk (w ∷ more) requested e = absurd (cc)
request_due (suc (suc zero)) chunk (w ∷ more) requested e = absurd (cc)

pub wait_due : (r : ℕ) (chunk : List Change) (todo : List Write) (requested : Bool) → due_at (left_of r chunk todo) requested ≡ due.Wait → requested ≡ true
wait_due zero chunk [] requested e = is_wait requested e
wait_due (suc zero) chunk [] requested e = is_wait requested e
wait_due (suc (suc zero)) chunk [] requested e = is_wait requested e
wait_due (suc (suc (suc r))) chunk todo requested e = absurd (cc)
wait_due zero chunk (w ∷ more) requested e = absurd (cc)
wait_due (suc zero) chunk (w ∷ more) requested e = absurd (cc)
wait_due (suc (suc zero)) chunk (w ∷ more) requested e = absurd (cc)

-- a return is due after the third round
pub return_due : (r : ℕ) (chunk : List Change) (todo : List Write) (requested : Bool) → r ≤ 3 → due_at (left_of r chunk todo) requested ≡ due.Return → (r ≡ 3) × (left_of r chunk todo ≡ [])
return_due zero chunk [] requested most e = absurd (not_return requested e)
return_due (suc zero) chunk [] requested most e = absurd (not_return requested e)
return_due (suc (suc zero)) chunk [] requested most e = absurd (not_return requested e)
return_due (suc (suc (suc r))) chunk todo requested most e = (omega (arith, most), refl)
return_due zero chunk (w ∷ more) requested most e = absurd (cc)
return_due (suc zero) chunk (w ∷ more) requested most e = absurd (cc)
return_due (suc (suc zero)) chunk (w ∷ more) requested most e = absurd (cc)

-- ---- a write

-- no request of the chunk was taken only in the first round
pub count_zero : (took : Bool) (r : ℕ) → count took r ≡ 0 → (took ≡ false) × (r ≡ 0)
count_zero true r e = absurd (omega (arith, e))
count_zero false r e = (refl, e)

-- a breakpoint of the first round stays when one more byte is written
trap_pushed : (mem : Memory) (ws past done more : List Write) (w : Write) (r : ℕ) (chunk : List Change) (k : Change) → IsPoked chunk → ws ≡ past ++ done → r ≡ 0 → round r chunk ≡ done ++ w ∷ more → Contains chunk k → written ws mem k.at ≡ 0xcc → written (ws ++ w ∷ []) mem k.at ≡ 0xcc
trap_pushed mem ws past done more w r chunk k poked is first split has set =
    let all : List Write = past ++ (done ++ w ∷ []) in
    let same : all ≡ ws ++ w ∷ [] = sym (append_assoc past done (w ∷ [])) ∙ ap (λ (xs : List Write). xs ++ w ∷ []) (sym is) in
    let split_is : round 0 chunk ≡ (done ++ w ∷ []) ++ more = ap (λ (n : ℕ). round n chunk) (sym first) ∙ split ∙ sym (append_assoc done (w ∷ []) more) in
    let long = ap length is ∙ length-append past done in
    let longer = length-append ws (w ∷ []) in
    let before : byte mem all (length ws) k.at ≡ 0xcc =
    ap (λ (xs : List Write). byte mem xs (length ws) k.at) same ∙ byte_pushed mem ws (w ∷ []) (length ws) k.at (omega arith)
    ∙ byte_last mem ws (length ws) k.at (omega arith) ∙ set in
    sym (byte_last mem (ws ++ w ∷ []) (length ws + 1) k.at (omega (arith, longer)))
    ∙ ap (λ (xs : List Write). byte mem xs (length ws + 1) k.at) (sym same)
    ∙ trap_stays mem past (done ++ w ∷ []) more chunk k (length ws) (length ws + 1) poked split_is has (omega (arith, long)) (omega arith) before

cpu_written : (mem : Memory) (ws past done more : List Write) (w : Write) (r : ℕ) (chunk later : List Change) (passed_as : List (ℕ × ℕ)) (c : ℕ) (took : Bool) (p : Cpu) → IsPoked chunk → ws ≡ past ++ done → round r chunk ≡ done ++ w ∷ more → (took ≡ true → ⊥) → CpuFacts mem ws past chunk later passed_as c took (count took r) p → CpuFacts mem (ws ++ w ∷ []) past chunk later passed_as c took (count took r) p
cpu_written mem ws past done more w r chunk later passed_as c took p poked is split untaken f =
    let longer = length-append ws (w ∷ []) in
    let to = f.to in
    record {
      from = f.from;
      to = omega (arith, longer, to);
      current = λ has. absurd (untaken has);
      trap = λ trapped.
          let t = f.trap trapped in
          record {
            change = t.change;
            has = t.has;
            stands = t.stands;
            few = t.few;
            set = λ none. trap_pushed mem ws past done more w r chunk t.change poked is (count_zero took r none).1 split t.has (t.set none);
          };
      as_new = λ k has new none. byte_pushed mem ws (w ∷ []) p.mark k.at to ∙ f.as_new k has new none;
      not_yet = f.not_yet;
    }

module _ (m : Module) (ws : List Write) (cpus : List Cpu) (states : States) (forms : ℕ → Form) (passed_as : List (ℕ × ℕ)) (u : Walk) (accepted : IsAccepted m) (now : AreStatesOf m states) (o : Opened m ws cpus states forms passed_as u) where
  chunk_poked : IsPoked u.chunk
  chunk_poked = poked m states u.changes o.finished u.chunk (joined u.later) accepted now o.parts

  pub after_write : (at byte : ℕ) → due_of (Some u) ≡ due.Write at byte → (v : Walk) × (moved u ≡ Some v) × (v.changes ≡ u.changes) × Opened m (ws ++ record { at = at; byte = byte } ∷ []) cpus states forms passed_as v
  after_write at byte is_due =
      let place = o.place in
      let d = write_due place.r u.chunk place.todo u.requested at byte (ap (λ (left : List Item). due_at left u.requested) (sym place.left_is) ∙ is_due) in
      let w : Write = record { at = at; byte = byte } in
      let w_is : d.write ≡ w = (let by_at : ℕ → Write = λ a. record { at = a; byte = d.write.byte } in let by_byte : ℕ → Write = λ b. record { at = at; byte = b } in ap by_at d.at_is ∙ ap by_byte d.byte_is) in
      let todo : place.todo ≡ w ∷ d.more = d.todo_is ∙ ap (λ (x : Write). x ∷ d.more) w_is in
      let left : u.left ≡ Puts d.write ∷ left_of place.r u.chunk d.more = place.left_is ∙ d.left_is in
      let split : round place.r u.chunk ≡ place.done ++ w ∷ d.more = place.split ∙ ap (λ (xs : List Write). place.done ++ xs) todo in (
        record u { left = left_of place.r u.chunk d.more },
        ap (λ (items : List Item). moved_at items u) left,
        refl,
        record {
          finished = o.finished;
          parts = o.parts;
          forms_are = o.forms_are;
          place = record {
            r = place.r;
            past = place.past;
            done = place.done ++ w ∷ [];
            todo = d.more;
            most = place.most;
            split = split ∙ sym (append_assoc place.done (w ∷ []) d.more);
            over = place.over;
            left_is = refl;
            writes = ap (λ (xs : List Write). xs ++ w ∷ []) place.writes ∙ append_assoc place.past place.done (w ∷ []);
            asked = λ requested. (let none = (place.asked requested).0 in absurd (cc));
          };
          bytes = o.bytes;
          text = o.text;
          cpus_are = record {
            long = o.cpus_are.long;
            asked = o.cpus_are.asked;
            each = λ c p here.
                cpu_written (start m) ws place.past place.done d.more w place.r u.chunk (joined u.later) passed_as c (slice_index_or u.took c false) p chunk_poked place.writes split
                (λ has. let none = (place.asked (o.cpus_are.asked c has)).0 in absurd (cc))
                (o.cpus_are.each c p here);
          };
        },
      )

  -- ---- a request

  pub after_request : due_of (Some u) ≡ due.Request → (v : Walk) × (moved u ≡ Some v) × (v.changes ≡ u.changes) × Opened m ws cpus states forms passed_as v
  after_request is_due =
      let place = o.place in
      let d = (request_due place.r u.chunk place.todo u.requested (ap (λ (left : List Item). due_at left u.requested) (sym place.left_is) ∙ is_due)).0 in (
        record u { requested = true },
        ap (λ (items : List Item). moved_at items u) (place.left_is ∙ d.left_is),
        refl,
        record {
          finished = o.finished;
          parts = o.parts;
          forms_are = o.forms_are;
          place = record {
            r = place.r;
            past = place.past;
            done = place.done;
            todo = place.todo;
            most = place.most;
            split = place.split;
            over = place.over;
            left_is = place.left_is;
            writes = place.writes;
            asked = λ _. (d.over, d.round);
          };
          bytes = o.bytes;
          text = o.text;
          cpus_are = record { long = o.cpus_are.long; asked = λ c has. refl; each = o.cpus_are.each };
        },
      )
