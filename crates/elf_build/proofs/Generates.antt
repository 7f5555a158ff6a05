-- The plan of a module with n blocks fits.
use Rattle.std.proofs.Common.{◌≡◌, ◌≤◌, ◌<◌, ◌+◌, ◌-◌, ◌*◌, ◌/◌, ◌%◌, ◌^◌, ◌==◌, ◌&&◌, ℕ, zero, suc, Bool, true, false, not, cond, List, [], ◌∷◌, length, slice_get, refl, sym, ap, ◌∙◌, arith, nat_lt, nat_le, Some, None, true≢false}
use Rattle.std.specs.List.{list_all}
use Rattle.std.specs.Char.{is_digit}
use Rattle.std.proofs.lemmas.Bool.Decides.{nat_tests, Decides-eqb}
use Rattle.std.proofs.lemmas.List.{length-append}
use Rattle.std.proofs.lemmas.List.Folds.{list_all-append}
use Rattle.std.proofs.lemmas.Option.{none-some}
use Rattle.poke_base.specs.Number.{decimal, is_numeral}
use Rattle.poke_base.proofs.Numbers.{dec_number-decimal}
use Rattle.elf_build.specs.declared.generation.Block.{Block}
use Rattle.elf_build.specs.declared.generation.Block.TheVariants.{FarSwitch, NearSwitch, Call as CallBlock, Trace as TraceBlock, TailCall}
use Rattle.elf_build.specs.declared.plan.Plan.{Plan}
use Rattle.elf_build.specs.declared.plan.PlanSite.{PlanSite}
use Rattle.elf_build.specs.declared.plan.PlanKey.{PlanKey}
use Rattle.elf_build.specs.declared.plan.PlanFunction.{PlanFunction}
use Rattle.elf_build.specs.Fits.{fits, function_fits, has_place, is_callee, is_in_text, is_name, is_small, is_switch, key_fits, site_fits}
use Rattle.elf_build.specs.Generated.{IsGenerated, block_bytes, block_functions, block_len, block_of, block_site, blocks, first_functions, functions_from, functions_of, head, keys, sites_from, text_from, text_of, trace_name}
use Rattle.elf_build.proofs.Appends.{and-left, and-right}

-- two tests that pass
both : (a b : Bool) → a ≡ true → b ≡ true → (a && b) ≡ true
both true b first second = second
both false b first second = absurd (cc)

-- ---- blocks

-- a block takes 4 to 12 bytes
pub block_len-le : (block : Block) → block_len block ≤ 12
block_len-le FarSwitch = omega arith
block_len-le NearSwitch = omega arith
block_len-le CallBlock = omega arith
block_len-le TraceBlock = omega arith
block_len-le TailCall = omega arith

-- as many as its length says
length-block_bytes : (block : Block) (at : ℕ) → length (block_bytes block at) ≡ block_len block
length-block_bytes FarSwitch at = refl
length-block_bytes NearSwitch at = refl
length-block_bytes CallBlock at = refl
length-block_bytes TraceBlock at = refl
length-block_bytes TailCall at = refl

-- how many bytes n blocks take, from one on
abbrev span : ℕ → ℕ → ℕ
span zero i = 0
span (suc left) i = block_len (block_of i) + span left (i + 1)

span-le : (left i : ℕ) → span left i ≤ 12 * left
span-le zero i = omega arith
span-le (suc left) i = let one = block_len-le (block_of i) in let rest = span-le left (i + 1) in omega arith

length-text_from : (left i at : ℕ) → length (text_from left i at) ≡ span left i + 11
length-text_from zero i at = refl
length-text_from (suc left) i at =
    let rest = length-text_from left (i + 1) (at + block_len (block_of i)) in
    let one = length-block_bytes (block_of i) at in
    let sum = length-append (block_bytes (block_of i) at) (text_from left (i + 1) (at + block_len (block_of i))) in
    omega arith

length-text_of : (n : ℕ) → length (text_of n) ≡ span n 0 + 28
length-text_of n = let rest = length-text_from n 0 blocks in let sum = length-append head (text_from n 0 blocks) in omega arith

length-sites_from : (left i at : ℕ) → length (sites_from left i at) ≡ left
length-sites_from zero i at = refl
length-sites_from (suc left) i at = ap suc (length-sites_from left (i + 1) (at + block_len (block_of i)))

length-block_functions : (block : Block) (i at : ℕ) → length (block_functions block i at) ≤ 1
length-block_functions FarSwitch i at = omega arith
length-block_functions NearSwitch i at = omega arith
length-block_functions CallBlock i at = omega arith
length-block_functions TraceBlock i at = omega arith
length-block_functions TailCall i at = omega arith

length-functions_from : (left i at : ℕ) → length (functions_from left i at) ≤ left
length-functions_from zero i at = omega arith
length-functions_from (suc left) i at =
    let rest = length-functions_from left (i + 1) (at + block_len (block_of i)) in
    let one = length-block_functions (block_of i) i at in
    let sum = length-append (block_functions (block_of i) i at) (functions_from left (i + 1) (at + block_len (block_of i))) in
    omega arith

-- ---- places

-- an address from the base on, and less than the text is long after it
in_text : (plan : Plan) (at : ℕ) → plan.base ≤ at → at < plan.base + length plan.text.items → is_in_text plan at ≡ true
in_text plan at low high =
    let below : at - plan.base < length plan.text.items = omega arith in
    both (nat_le plan.base at) (nat_lt (at - plan.base) (length plan.text.items)) (grind (arith, nat_tests)) (grind (arith, nat_tests))

-- a key's number, of those that blocks have
switch_key : (list : List PlanKey) (key : ℕ) → list ≡ keys → key < 2 → is_switch (slice_get list key) ≡ true
switch_key list zero is low = ap (λ (xs : List PlanKey). is_switch (slice_get xs 0)) is
switch_key list (suc zero) is low = ap (λ (xs : List PlanKey). is_switch (slice_get xs 1)) is
switch_key list (suc (suc key)) is low = absurd (omega arith)

call_key : (list : List PlanKey) → list ≡ keys → is_callee (slice_get list 2) ≡ true
call_key list is = ap (λ (xs : List PlanKey). is_callee (slice_get xs 2)) is

tail_key : (list : List PlanKey) → list ≡ keys → is_callee (slice_get list 3) ≡ true
tail_key list is = ap (λ (xs : List PlanKey). is_callee (slice_get xs 3)) is

-- the site of a block fits, where the block and what follows it lie in the text
site-fits : (plan : Plan) (block : Block) (i at : ℕ) → plan.keys.items ≡ keys → plan.base ≤ at → at + block_len block < plan.base + length plan.text.items → site_fits plan (block_site block i at) ≡ true
site-fits plan FarSwitch i at is low high =
    let key : i / 5 % 2 < 2 = omega arith in
    both (is_in_text plan at && is_in_text plan (at + 7)) (is_switch (slice_get plan.keys.items (i / 5 % 2)))
    (both (is_in_text plan at) (is_in_text plan (at + 7)) (in_text plan at low (omega arith)) (in_text plan (at + 7) (omega arith) high))
    (switch_key plan.keys.items (i / 5 % 2) is key)
site-fits plan NearSwitch i at is low high =
    let key : i / 5 % 2 < 2 = omega arith in
    both (is_in_text plan at && is_in_text plan (at + 4)) (is_switch (slice_get plan.keys.items (i / 5 % 2)))
    (both (is_in_text plan at) (is_in_text plan (at + 4)) (in_text plan at low (omega arith)) (in_text plan (at + 4) (omega arith) high))
    (switch_key plan.keys.items (i / 5 % 2) is key)
site-fits plan CallBlock i at is low high =
    both (is_in_text plan at) (is_callee (slice_get plan.keys.items 2)) (in_text plan at low (omega arith)) (call_key plan.keys.items is)
site-fits plan TraceBlock i at is low high = in_text plan at low (omega arith)
site-fits plan TailCall i at is low high =
    both (is_in_text plan (at + 7)) (is_callee (slice_get plan.keys.items 3)) (in_text plan (at + 7) (omega arith) (omega arith)) (tail_key plan.keys.items is)

sites-fit : (plan : Plan) (left i at : ℕ) → plan.keys.items ≡ keys → plan.base ≤ at → at + span left i < plan.base + length plan.text.items → list_all (site_fits plan) (sites_from left i at) ≡ true
sites-fit plan zero i at is low high = refl
sites-fit plan (suc left) i at is low high =
    let next = at + block_len (block_of i) in
    both (site_fits plan (block_site (block_of i) i at)) (list_all (site_fits plan) (sites_from left (i + 1) next))
    (site-fits plan (block_of i) i at is low (omega arith))
    (sites-fit plan left (i + 1) next is (omega arith) (omega arith))

-- ---- names

-- what is left when a test was passed
passed : {X : Type 0} (test : Bool) (x y : X) → cond test (Some x) None ≡ Some y → test ≡ true
passed true x y is = refl
passed false x y is = absurd (none-some y is)

-- a digit isn't zero
digit-not-zero : (byte : ℕ) → is_digit byte 10 ≡ true → not (byte == 0) ≡ true
digit-not-zero byte digit = go (byte == 0) refl
  where
    go : (test : Bool) → (byte == 0) ≡ test → not test ≡ true
    go true is = absurd (true≢false (sym digit ∙ ap (λ (b : ℕ). is_digit b 10) ((Decides-eqb byte 0).0 is)))
    go false is = refl

digits-not-zero : (word : List ℕ) → list_all (λ byte. is_digit byte 10) word ≡ true → list_all (λ byte. not (byte == 0)) word ≡ true
digits-not-zero [] all = refl
digits-not-zero (byte ∷ word) all =
    both (not (byte == 0)) (list_all (λ byte. not (byte == 0)) word)
    (digit-not-zero byte (and-left (is_digit byte 10) (list_all (λ byte. is_digit byte 10) word) all))
    (digits-not-zero word (and-right (is_digit byte 10) (list_all (λ byte. is_digit byte 10) word) all))

-- the name of a traced block is a name
trace_name-is : (i : ℕ) → i < 2 ^ 64 → is_name (trace_name i) ≡ true
trace_name-is i low =
    let numeral : is_numeral 10 20 (decimal i) ≡ true = and-left (is_numeral 10 20 (decimal i)) _ (passed _ _ i (dec_number-decimal i low)) in
    let lengths = and-left (nat_lt 0 (length (decimal i)) && nat_le (length (decimal i)) 20) (list_all (λ byte. is_digit byte 10) (decimal i)) numeral in
    let short : nat_le (length (decimal i)) 20 ≡ true = and-right (nat_lt 0 (length (decimal i))) (nat_le (length (decimal i)) 20) lengths in
    let digits = and-right (nat_lt 0 (length (decimal i)) && nat_le (length (decimal i)) 20) (list_all (λ byte. is_digit byte 10) (decimal i)) numeral in
    let long : nat_lt 0 (suc (length (decimal i))) ≡ true = grind (arith, nat_tests) in
    let few : nat_le (suc (length (decimal i))) 64 ≡ true = grind (arith, nat_tests) in
    both (nat_lt 0 (length (trace_name i)) && nat_le (length (trace_name i)) 64) (list_all (λ byte. not (byte == 0)) (trace_name i))
    (both (nat_lt 0 (length (trace_name i))) (nat_le (length (trace_name i)) 64) long few) (digits-not-zero (decimal i) digits)

-- ---- functions

block-functions-fit : (plan : Plan) (block : Block) (i at : ℕ) → i < 2 ^ 64 → is_in_text plan at ≡ true → list_all (function_fits plan) (block_functions block i at) ≡ true
block-functions-fit plan FarSwitch i at low inside = refl
block-functions-fit plan NearSwitch i at low inside = refl
block-functions-fit plan CallBlock i at low inside = refl
block-functions-fit plan TraceBlock i at low inside =
    both (is_name (trace_name i) && is_in_text plan at) true (both (is_name (trace_name i)) (is_in_text plan at) (trace_name-is i low) inside) refl
block-functions-fit plan TailCall i at low inside = refl

functions-fit : (plan : Plan) (left i at : ℕ) → i + left < 2 ^ 64 → plan.base ≤ at → at + span left i < plan.base + length plan.text.items → list_all (function_fits plan) (functions_from left i at) ≡ true
functions-fit plan zero i at few low high = refl
functions-fit plan (suc left) i at few low high =
    let next = at + block_len (block_of i) in
    list_all-append (function_fits plan) (block_functions (block_of i) i at) (functions_from left (i + 1) next)
    ∙ both (list_all (function_fits plan) (block_functions (block_of i) i at)) (list_all (function_fits plan) (functions_from left (i + 1) next))
    (block-functions-fit plan (block_of i) i at (omega arith) (in_text plan at low (omega arith)))
    (functions-fit plan left (i + 1) next (omega arith) (omega arith) (omega arith))

named-fits : (plan : Plan) (at : ℕ) → plan.base ≡ 0x401000 → 28 ≤ length plan.text.items → plan.base ≤ at → at < plan.base + 28 → is_in_text plan at ≡ true
named-fits plan at is long low high = in_text plan at low (omega arith)

first-functions-fit : (plan : Plan) → plan.base ≡ 0x401000 → 28 ≤ length plan.text.items → list_all (function_fits plan) first_functions ≡ true
first-functions-fit plan is long =
    both (is_in_text plan 0x401000) _ (named-fits plan 0x401000 is long (omega arith) (omega arith))
    (both (is_in_text plan 0x401004) _ (named-fits plan 0x401004 is long (omega arith) (omega arith))
    (both (is_in_text plan 0x401008) _ (named-fits plan 0x401008 is long (omega arith) (omega arith))
    (both (is_in_text plan 0x40100c) true (named-fits plan 0x40100c is long (omega arith) (omega arith)) refl)))

-- ---- the plan

generated-small : (n : ℕ) (plan : Plan) → n ≤ 1000 → IsGenerated n plan → is_small plan ≡ true
generated-small n plan few g =
    let text : length plan.text.items ≡ span n 0 + 28 = ap (λ (xs : List ℕ). length xs) g.text ∙ length-text_of n in
    let sites : length plan.sites.items ≡ n = ap (λ (xs : List PlanSite). length xs) g.sites ∙ length-sites_from n 0 blocks in
    let key_count : length plan.keys.items ≡ 4 = ap (λ (xs : List PlanKey). length xs) g.keys_are in
    let functions : length plan.functions.items ≡ length (functions_of n) = ap (λ (xs : List PlanFunction). length xs) g.functions in
    let sum = length-append first_functions (functions_from n 0 blocks) in
    let traced = length-functions_from n 0 blocks in
    let spans = span-le n 0 in
    let a : nat_lt 0 (length plan.text.items) ≡ true = grind (arith, nat_tests) in
    let b : nat_le (length plan.text.items) 65536 ≡ true = grind (arith, nat_tests) in
    let c : nat_le (length plan.sites.items) 1024 ≡ true = grind (arith, nat_tests) in
    let d : nat_le (length plan.keys.items) 1024 ≡ true = grind (arith, nat_tests) in
    let e : nat_le (length plan.functions.items) 2048 ≡ true = grind (arith, nat_tests) in
    both _ _ (both _ _ (both _ _ (both _ _ a b) c) d) e

generated-place : (plan : Plan) → plan.base ≡ 0x401000 → has_place plan ≡ true
generated-place plan is = ap (λ (base : ℕ). base % 4096 == 0 && nat_le base (2 ^ 64 - 1048576)) is

pub generated-fits : (n : ℕ) (plan : Plan) → n ≤ 1000 → IsGenerated n plan → fits plan ≡ true
generated-fits n plan few g =
    let text : length plan.text.items ≡ span n 0 + 28 = ap (λ (xs : List ℕ). length xs) g.text ∙ length-text_of n in
    let base = g.base in
    let sites : list_all (site_fits plan) plan.sites.items ≡ true =
    ap (λ (xs : List PlanSite). list_all (site_fits plan) xs) g.sites ∙ sites-fit plan n 0 blocks g.keys_are (omega arith) (omega arith) in
    let key_list : list_all key_fits plan.keys.items ≡ true = ap (λ (xs : List PlanKey). list_all key_fits xs) g.keys_are in
    let functions : list_all (function_fits plan) plan.functions.items ≡ true =
    ap (λ (xs : List PlanFunction). list_all (function_fits plan) xs) g.functions
    ∙ list_all-append (function_fits plan) first_functions (functions_from n 0 blocks)
    ∙ both _ _ (first-functions-fit plan base (omega arith)) (functions-fit plan n 0 blocks (omega arith) (omega arith) (omega arith)) in
    both _ _ (both _ _ (both _ _ (both _ _ (generated-place plan base) (generated-small n plan few g)) sites) key_list) functions
