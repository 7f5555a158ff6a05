-- What the names of a generated module stand for.
use Rattle.std.proofs.Common.{◌≡◌, ◌<◌, ◌≤◌, ◌+◌, ◌∙◌, ◌++◌, ◌==◌, nat_lt, if◌then◌else◌, ℕ, zero, suc, false, List, [], ◌∷◌, length, map, codes, Some, refl, ap, arith}
use Rattle.std.specs.List.{AllByRecursion as Each}
use Rattle.std.proofs.lemmas.Bool.{ne_eqb}
use Rattle.elf_module.specs.Elf.{Elf, SymbolRecord}
use Rattle.elf_build.specs.declared.generation.Block.{Block}
use Rattle.elf_build.specs.declared.generation.Block.TheVariants.{FarSwitch, NearSwitch, Call as CallBlock, Trace as TraceBlock, TailCall}
use Rattle.elf_build.specs.declared.plan.Plan.{Plan}
use Rattle.elf_build.specs.declared.plan.PlanFunction.{PlanFunction}
use Rattle.elf_build.specs.File.{data_at, file_of}
use Rattle.elf_build.specs.Generated.{IsGenerated, block_functions, block_len, block_of, blocks, functions_from as plan_functions_from, functions_of, keys as plan_keys}
use Rattle.written_module.specs.Written.{ReadsBack, function_symbol, key_symbols_from, no_symbol}
use Rattle.module_parts.specs.declared.key.KeyClass.TheVariants.{Jump, Call}
use Rattle.module_names.specs.Keys.{place_in}
use Rattle.module_names.specs.Names.{Named, functions, functions_from, key_names, keys_from, tracer, tracer_name, value_of}
use Rattle.generated_module.specs.Accepted.{elf_of}
use Rattle.generated_module.proofs.Each.{each-append}
use Rattle.generated_module.proofs.Blocks.{Stands, stands-next}
use Rattle.generated_module.proofs.FileKeys.{call-addresses, jump-addresses}
use Rattle.generated_module.proofs.FileSections.{index-is}

-- a function's name, and where it is
abbrev pub named : PlanFunction → Named
named f = (f.name.items, f.at)

-- the symbols of functions name the functions
functions-named : (fs : List PlanFunction) (rest : List SymbolRecord) → functions_from 1 (map function_symbol fs ++ rest) ≡ map named fs ++ functions_from 1 rest
functions-named [] rest = refl
functions-named (f ∷ fs) rest = ap (λ (ns : List Named). named f ∷ ns) (functions-named fs rest)

-- and no key that stands elsewhere
not-placed : (at key more : ℕ) → at < key → at < more → place_in at (key ∷ more ∷ []) ≡ 2
not-placed at key more low low' =
    let first : (key == at) ≡ false = ne_eqb key at (λ same. absurd (omega (arith, same, low))) in
    let second : (more == at) ≡ false = ne_eqb more at (λ same. absurd (omega (arith, same, low'))) in
    rw (first, second) refl

functions-no-keys : (number key more : ℕ) (fs : List PlanFunction) (rest : List SymbolRecord) → 0x451000 ≤ key → 0x451000 ≤ more → Each (λ (f : PlanFunction). f.at < 0x451000) fs → keys_from number (key ∷ more ∷ []) (map function_symbol fs ++ rest) ≡ keys_from number (key ∷ more ∷ []) rest
functions-no-keys number key more [] rest low low' all = refl
functions-no-keys number key more (f ∷ fs) rest low low' all =
    let below = all.0 in
    let none = not-placed f.at key more (omega (arith, below, low)) (omega (arith, below, low')) in
    let tail = map function_symbol fs ++ rest in
    let keys = key ∷ more ∷ [] in
    ap (λ (place : ℕ). if nat_lt place 2 then (f.name.items, number + place) ∷ keys_from number keys tail else keys_from number keys tail) none
    ∙ functions-no-keys number key more fs rest low low' all.1

-- functions lie in the text
block-below : (b : Block) (i at : ℕ) → at < 0x451000 → Each (λ (f : PlanFunction). f.at < 0x451000) (block_functions b i at)
block-below FarSwitch i at low = tt
block-below NearSwitch i at low = tt
block-below CallBlock i at low = tt
block-below TraceBlock i at low = (low, tt)
block-below TailCall i at low = tt

functions-below-from : (base : ℕ) (file : List ℕ) (left i at : ℕ) → Stands base file left i at → Each (λ (f : PlanFunction). f.at < 0x451000) (plan_functions_from left i at)
functions-below-from base file zero i at st = tt
functions-below-from base file (suc left) i at st =
    let whole = st.whole in
    let small = st.small in
    let later = at + block_len (block_of i) in
    each-append (λ (f : PlanFunction). f.at < 0x451000) (block_functions (block_of i) i at) (plan_functions_from left (i + 1) later)
    (block-below (block_of i) i at (omega (arith, whole, small))) (functions-below-from base file left (i + 1) later (stands-next base file left i at st))

pub functions-below : (base : ℕ) (file : List ℕ) (n : ℕ) → Stands base file n 0 blocks → Each (λ (f : PlanFunction). f.at < 0x451000) (functions_of n)
functions-below base file n st =
    (omega arith, (omega arith, (omega arith, (omega arith, functions-below-from base file n 0 blocks st))))

-- the symbols of the keys
abbrev key_symbols : List SymbolRecord
key_symbols = key_symbols_from 0x451000 plan_keys

module _ (n : ℕ) (few : 10 ≤ n) (plan : Plan) (made : IsGenerated n plan) (back : ReadsBack plan) where
  abbrev elf : Elf
  elf = elf_of (file_of plan)

  -- the symbols: functions, then keys
  symbols-are : elf.symbols ≡ no_symbol ∷ (map function_symbol (functions_of n) ++ key_symbols)
  symbols-are =
      let base = made.base in
      let place : data_at plan ≡ 0x451000 = omega (arith, base) in
      let functions_are = made.functions in
      let keys_are = made.keys_are in
      back.symbols ∙ (λ i. no_symbol ∷ (map function_symbol (functions_are i) ++ key_symbols_from (place i) (keys_are i)))

  -- functions
  pub functions-are : functions elf ≡ map named (functions_of n) ++ []
  functions-are =
      let index = index-is n plan made back in
      (λ i. functions_from (index i) (symbols-are i)) ∙ functions-named (functions_of n) key_symbols

  -- the function that traced sites call
  pub tracer-is : tracer elf ≡ Some 0x401008
  tracer-is = ap (value_of tracer_name) functions-are

  -- keys
  pub jump-names : Each (λ (f : PlanFunction). f.at < 0x451000) (functions_of n) → key_names elf Jump ≡ (codes "jk0", 0) ∷ (codes "jk1", 1) ∷ []
  jump-names below =
      let addresses = jump-addresses n few plan made back in
      (λ i. keys_from 0 (addresses i) (symbols-are i)) ∙ functions-no-keys 0 0x451000 0x451010 (functions_of n) key_symbols (omega arith) (omega arith) below

  pub call-names : Each (λ (f : PlanFunction). f.at < 0x451000) (functions_of n) → key_names elf Call ≡ (codes "ca", 2) ∷ (codes "cb", 3) ∷ []
  call-names below =
      let jumps = jump-addresses n few plan made back in
      let calls = call-addresses n few plan made back in
      (λ i. keys_from (length (jumps i)) (calls i) (symbols-are i)) ∙ functions-no-keys 2 0x451020 0x451030 (functions_of n) key_symbols (omega arith) (omega arith) below
