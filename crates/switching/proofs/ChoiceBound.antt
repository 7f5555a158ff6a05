-- How many events may still come: a number that each event of a chosen run lowers.
--
-- For the laws:
--   bound                      of a state with n processors, and of how many events have come since the last one of the patch
--   front_fresh                where none have, what is left of a chunk costs no more than its items and the return
--   front_idle                 a turn before the sixteenth lowers it
--   items_most                 what an update of at most 1024 changes costs
--   steps_most                 what the steps of a script cost
use Rattle.std.proofs.Common.{◌≡◌, ℕ, zero, suc, ◌+◌, ◌-◌, ◌*◌, ◌<◌, ◌≤◌, Bool, true, false, if◌then◌else◌, List, [], ◌∷◌, ◌++◌, length, map, take, drop, slice_get, sum, set, Option, Some, None, refl, ap, sym, ◌∙◌, arith, length-append, length-drop, unwrap_or}
use Rattle.std.specs.Prelude.{nat_lt, slice_index_or, replicate}
use Rattle.std.specs.List.{flat_map, list_all}
use Rattle.std.proofs.Math.Nat.{suc-mul}
use Rattle.std.proofs.lemmas.Bool.{le-ltb, lt-ltb}
use Rattle.std.proofs.lemmas.List.{length-take}
use Rattle.std.proofs.lemmas.List.Sums.{sum-map, sum_by-cons}
use Rattle.std.proofs.lemmas.Option.{same_Some}
use Rattle.insn_forms.specs.declared.forms.Change.{Change}
use Rattle.insn_forms.specs.declared.forms.Form.{Form}
use Rattle.insn_forms.specs.Spelling.{spell}
use Rattle.insn_forms.specs.Write.{Write}
use Rattle.insn_forms.proofs.Spellings.{length-spell, size_most}
use Rattle.poke_batch.specs.Poke.{Item, cut, firsts, from_firsts, from_tails, items, poke, spelled, tails, traps, writes_from}
use Rattle.poke_batch.specs.Poke.Item.{Puts, Syncs}
use Rattle.poke_batch.specs.Walk.{Walk}
use Rattle.script_text.specs.declared.script.ScriptStep.{ScriptStep}
use Rattle.script_text.specs.declared.script.ScriptStep.TheVariants.{Update, Run, Drop}
use Rattle.script_text.specs.Script.{all_drops, all_turns, all_updates, drop_count, turn_count, update_count}
use Rattle.switching.specs.State.{Cpu, State}

-- ---- the items of a poke

-- an item with the turns before it: a write has at most 16, and so has a request; each of the n takings has at most 32
abbrev pub item_cost : ℕ → Item → ℕ
item_cost n (Puts w) = 17
item_cost n Syncs = 17 + 33 * n

abbrev pub items_cost : ℕ → List Item → ℕ
items_cost n [] = 0
items_cost n (item ∷ items) = item_cost n item + items_cost n items

pub items_cost-append : (n : ℕ) (xs ys : List Item) → items_cost n (xs ++ ys) ≡ items_cost n xs + items_cost n ys
items_cost-append n [] ys = omega arith
items_cost-append n (x ∷ xs) ys =
    let rest : items_cost n (xs ++ ys) ≡ items_cost n xs + items_cost n ys = items_cost-append n xs ys in omega arith

puts_cost : (n : ℕ) (writes : List Write) → items_cost n (map Puts writes) ≡ 17 * length writes
puts_cost n [] = refl
puts_cost n (w ∷ writes) = let rest : items_cost n (map Puts writes) ≡ 17 * length writes = puts_cost n writes in omega arith

-- a site has at most six writes: its breakpoint, four bytes, its first byte
traps_long : (chunk : List Change) → length (traps chunk) ≡ length chunk
traps_long [] = refl
traps_long (c ∷ chunk) = ap suc (traps_long chunk)

firsts_long : (chunk : List Change) → length (firsts chunk) ≡ length chunk
firsts_long [] = refl
firsts_long (c ∷ chunk) = ap suc (firsts_long chunk)

writes_from_long : (at : ℕ) (bytes : List ℕ) → length (writes_from at bytes) ≡ length bytes
writes_from_long at [] = refl
writes_from_long at (byte ∷ bytes) = ap suc (writes_from_long (at + 1) bytes)

spelled_most : (form : Form) (at : ℕ) → length (spelled form at) ≤ 5
spelled_most form at = by (spell form at) refl
  where
    by : (o : Option (List ℕ)) → spell form at ≡ o → length (unwrap_or o []) ≤ 5
    by None is = omega arith
    by (Some code) is = let same = length-spell form at code is in let most = size_most form in omega (arith, same, most)

tails_long : (chunk : List Change) → length (tails chunk) ≤ 4 * length chunk
tails_long [] = omega arith
tails_long (c ∷ chunk) =
    let rest : length (tails chunk) ≤ 4 * length chunk = tails_long chunk in
    let here = length-append (writes_from (c.at + 1) (drop 1 (spelled c.new c.at))) (tails chunk) in
    let one = writes_from_long (c.at + 1) (drop 1 (spelled c.new c.at)) in
    let less = length-drop 1 (spelled c.new c.at) in
    let most = spelled_most c.new c.at in
    omega (arith, rest, here, one, less, most)

poke_cost : (n : ℕ) (chunk : List Change) → items_cost n (poke chunk) ≤ 102 * length chunk + 3 * (17 + 33 * n)
poke_cost n chunk =
    let first = items_cost-append n (map Puts (traps chunk)) (Syncs ∷ from_tails chunk) in
    let second = items_cost-append n (map Puts (tails chunk)) (Syncs ∷ from_firsts chunk) in
    let third = items_cost-append n (map Puts (firsts chunk)) (Syncs ∷ []) in
    let a = puts_cost n (traps chunk) in
    let b = puts_cost n (tails chunk) in
    let c = puts_cost n (firsts chunk) in
    let d = traps_long chunk in
    let e = tails_long chunk in
    let f = firsts_long chunk in
    omega (arith, first, second, third, a, b, c, d, e, f)

-- ---- the chunks of an update: full ones, and one for the rest

chunks_cost : (n k fuel : ℕ) (changes : List Change) → length changes ≤ 256 * k → items_cost n (flat_map poke (cut fuel changes)) ≤ 102 * length changes + k * (51 + 99 * n)
chunks_cost n k zero changes few = omega arith
chunks_cost n k (suc fuel) [] few = omega arith
chunks_cost n zero (suc fuel) (c ∷ changes) few = absurd (omega arith)
chunks_cost n (suc k) (suc fuel) (c ∷ changes) few =
    let first : List Change = take 256 (c ∷ changes) in
    let later : List Change = drop 256 (c ∷ changes) in
    let long = length-take 256 (c ∷ changes) in
    let short = length-drop 256 (c ∷ changes) in
    let rest : items_cost n (flat_map poke (cut fuel later)) ≤ 102 * length later + k * (51 + 99 * n) = chunks_cost n k fuel later (omega (arith, short, few)) in
    let both = items_cost-append n (poke first) (flat_map poke (cut fuel later)) in
    let one = poke_cost n first in
    let more = suc-mul k (51 + 99 * n) in
    omega (arith, long, short, rest, both, one, more)

-- an update of at most 1024 changes: 6144 writes, 12 requests, and 16 processors that take each
pub items_most : (n : ℕ) (changes : List Change) → length changes ≤ 1024 → n ≤ 16 → items_cost n (items changes) ≤ 110988
items_most n changes few most =
    let cost : items_cost n (items changes) ≤ 102 * length changes + 4 * (51 + 99 * n) = chunks_cost n 4 (length changes) changes few in
    omega (arith, cost, few, most)

-- ---- who has still to take a request, and who is in the handler

abbrev pub untaken : List Bool → ℕ
untaken [] = 0
untaken (true ∷ took) = untaken took
untaken (false ∷ took) = suc (untaken took)

abbrev pub one_if : Bool → ℕ
one_if true = 1
one_if false = 0

abbrev pub trapped : List Cpu → ℕ
trapped [] = 0
trapped (p ∷ cpus) = one_if p.state.trapped + trapped cpus

pub untaken_few : (took : List Bool) → untaken took ≤ length took
untaken_few [] = omega arith
untaken_few (true ∷ took) = let rest = untaken_few took in omega (arith, rest)
untaken_few (false ∷ took) = let rest = untaken_few took in omega (arith, rest)

-- where not all have taken it, one hasn't
pub untaken_some : (took : List Bool) → list_all (λ t. t) took ≡ false → 1 ≤ untaken took
untaken_some [] none = absurd (cc)
untaken_some (true ∷ took) some = untaken_some took some
untaken_some (false ∷ took) some = omega arith

pub untaken_nobody : (n : ℕ) → untaken (replicate n false) ≡ n
untaken_nobody zero = refl
untaken_nobody (suc n) = ap suc (untaken_nobody n)

-- one that takes it is one less
pub untaken_set : (took : List Bool) (c : ℕ) → c < length took → slice_index_or took c false ≡ false → suc (untaken (set took c true)) ≡ untaken took
untaken_set [] c below is = absurd (omega arith)
untaken_set (false ∷ took) zero below is = refl
untaken_set (true ∷ took) zero below is = absurd (cc)
untaken_set (true ∷ took) (suc c) below is = untaken_set took c (omega arith) is
untaken_set (false ∷ took) (suc c) below is = ap suc (untaken_set took c (omega arith) is)

pub trapped_few : (cpus : List Cpu) → trapped cpus ≤ length cpus
trapped_few [] = omega arith
trapped_few (p ∷ cpus) =
    let rest = trapped_few cpus in let one = one_most p.state.trapped in omega (arith, rest, one)
  where
    one_most : (b : Bool) → one_if b ≤ 1
    one_most true = omega arith
    one_most false = omega arith

-- one that leaves the handler is one less
pub trapped_less : (cpus : List Cpu) (c : ℕ) (p q : Cpu) → slice_get cpus c ≡ Some p → p.state.trapped ≡ true → q.state.trapped ≡ false → suc (trapped (set cpus c q)) ≡ trapped cpus
trapped_less [] c p q here was isn = absurd (cc)
trapped_less (r ∷ cpus) zero p q here was isn =
    let there : r.state.trapped ≡ true = ap (λ (x : Cpu). x.state.trapped) (same_Some r p here) ∙ was in
    ap (λ (b : Bool). suc (one_if b + trapped cpus)) isn ∙ sym (ap (λ (b : Bool). one_if b + trapped cpus) there ∙ omega arith)
trapped_less (r ∷ cpus) (suc c) p q here was isn =
    let rest : suc (trapped (set cpus c q)) ≡ trapped cpus = trapped_less cpus c p q here was isn in omega (arith, rest)

-- ---- the open update

-- a taking may be delayed by 16 turns, and then by the handlers of those that are trapped
abbrev pub waiting : ℕ → ℕ → ℕ
waiting idle t = if nat_lt idle 16 then 32 - idle else t

-- the events up to the end of the open chunk, with the return: u processors haven't taken the request, t are trapped
abbrev pub front : ℕ → List Item → Bool → ℕ → ℕ → ℕ → ℕ
front n [] requested u idle t = 1 + (16 - idle)
front n (Puts w ∷ left) requested u idle t = 1 + (16 - idle) + (items_cost n left + 17)
front n (Syncs ∷ left) false u idle t = 1 + (16 - idle) + 33 * n + (items_cost n left + 17)
front n (Syncs ∷ left) true u idle t = 33 * (u - 1) + 1 + waiting idle t + (items_cost n left + 17)

-- after an event of the patch it costs no more than the items that are left, and the return
pub front_fresh : (n : ℕ) (left : List Item) (requested : Bool) (u t : ℕ) → 1 ≤ u → u ≤ n → front n left requested u 0 t ≤ items_cost n left + 17
front_fresh n [] requested u t some few = omega arith
front_fresh n (Puts w ∷ left) requested u t some few = omega arith
front_fresh n (Syncs ∷ left) false u t some few = omega arith
front_fresh n (Syncs ∷ left) true u t some few = omega arith

waiting_early : (idle t : ℕ) → idle < 16 → waiting idle t ≡ 32 - idle
waiting_early idle t early = ap (λ (b : Bool). if b then 32 - idle else t) (lt-ltb idle 16 early)

-- a turn before the sixteenth lowers it
waiting_idle : (idle t new : ℕ) → idle < 16 → new ≤ 16 → suc (waiting (idle + 1) new) ≤ waiting idle t
waiting_idle idle t new early few =
    let now = waiting_early idle t early in omega (arith, now, by (nat_lt (idle + 1) 16))
  where
    by : (b : Bool) → suc (if b then 32 - (idle + 1) else new) ≤ 32 - idle
    by true = omega arith
    by false = omega arith

pub front_idle : (n : ℕ) (left : List Item) (requested : Bool) (u idle t new : ℕ) → idle < 16 → new ≤ 16 → suc (front n left requested u (idle + 1) new) ≤ front n left requested u idle t
front_idle n [] requested u idle t new early few = omega arith
front_idle n (Puts w ∷ left) requested u idle t new early few = omega arith
front_idle n (Syncs ∷ left) false u idle t new early few = omega arith
front_idle n (Syncs ∷ left) true u idle t new early few =
    let less = waiting_idle idle t new early few in omega (arith, less)

-- after it the handler of one that is trapped does
waiting_late : (idle t : ℕ) → 16 ≤ idle → waiting idle t ≡ t
waiting_late idle t late = ap (λ (b : Bool). if b then 32 - idle else t) (le-ltb idle 16 late)

pub front_late : (n : ℕ) (left : List Item) (u idle t new : ℕ) → 16 ≤ idle → suc new ≡ t → suc (front n (Syncs ∷ left) true u (idle + 1) new) ≤ front n (Syncs ∷ left) true u idle t
front_late n left u idle t new late less =
    let now = waiting_late idle t late in
    let later = waiting_late (idle + 1) new (omega (arith, late)) in
    omega (arith, now, later, less)

-- ---- the steps of a script

-- an update: its beginning, its items and its return
abbrev pub update_most : ℕ
update_most = 111022

abbrev pub steps_bound : ℕ → List ScriptStep → ℕ
steps_bound turns_used [] = 0
steps_bound turns_used (Update command ∷ rest) = update_most + steps_bound 0 rest
steps_bound turns_used (Run turns ∷ rest) = (turns - turns_used) + steps_bound 0 rest
steps_bound turns_used (Drop place ∷ rest) = 17 + steps_bound 0 rest

-- a sum over a step and those after it
pub sum_more : (f : ScriptStep → ℕ) (step : ScriptStep) (rest : List ScriptStep) → sum (map f (step ∷ rest)) ≡ f step + sum (map f rest)
sum_more f step rest =
    sum-map f (step ∷ rest) ∙ sum_by-cons f step rest ∙ ap (λ (n : ℕ). f step + n) (sym (sum-map f rest))

pub steps_most : (steps : List ScriptStep) → steps_bound 0 steps ≡ update_most * all_updates steps + 17 * all_drops steps + all_turns steps
steps_most [] = refl
steps_most (step ∷ rest) =
    let updates = sum_more update_count step rest in
    let drops = sum_more drop_count step rest in
    let turned = sum_more turn_count step rest in
    by step (steps_most rest) updates drops turned
  where
    by : (step : ScriptStep) → steps_bound 0 rest ≡ update_most * all_updates rest + 17 * all_drops rest + all_turns rest → all_updates (step ∷ rest) ≡ update_count step + all_updates rest → all_drops (step ∷ rest) ≡ drop_count step + all_drops rest → all_turns (step ∷ rest) ≡ turn_count step + all_turns rest → steps_bound 0 (step ∷ rest) ≡ update_most * all_updates (step ∷ rest) + 17 * all_drops (step ∷ rest) + all_turns (step ∷ rest)
    by (Update command) more updates drops turned = omega (arith, more, updates, drops, turned)
    by (Run turns) more updates drops turned = omega (arith, more, updates, drops, turned)
    by (Drop place) more updates drops turned = omega (arith, more, updates, drops, turned)

-- ---- a state

abbrev pub open_bound : ℕ → Option Walk → List Cpu → ℕ → ℕ → List ScriptStep → ℕ
open_bound n None cpus idle turns_used steps = steps_bound turns_used steps
open_bound n (Some walk) cpus idle turns_used steps =
    front n walk.left walk.requested (untaken walk.took) idle (trapped cpus) + items_cost n (flat_map poke walk.later) + steps_bound 0 (drop 1 steps)

abbrev pub bound : ℕ → State → ℕ → ℕ
bound n s idle = open_bound n s.opened s.cpus idle s.turns s.steps
