-- The plan of the modules that are made to try things on.
use Rattle.std.specs.Prelude.{◌≡◌, ◌==◌, ℕ, zero, suc, ◌+◌, ◌/◌, ◌%◌, true, false, if◌then◌else◌, List, [], ◌∷◌, ◌++◌, codes}
use Rattle.poke_base.specs.Number.{decimal}
use Rattle.elf_build.specs.declared.generation.Block.{Block}
use Rattle.elf_build.specs.declared.generation.Block.TheVariants.{FarSwitch, NearSwitch, Call as CallBlock, Trace as TraceBlock, TailCall}
use Rattle.elf_build.specs.declared.plan.Plan.{Plan}
use Rattle.elf_build.specs.declared.plan.PlanSite.{PlanSite}
use Rattle.elf_build.specs.declared.plan.PlanSite.TheVariants.{Jump, Call, Trace}
use Rattle.elf_build.specs.declared.plan.PlanKey.{PlanKey}
use Rattle.elf_build.specs.declared.plan.KeyStart.{KeyStart}
use Rattle.elf_build.specs.declared.plan.KeyStart.TheVariants.{Count, Func}
use Rattle.elf_build.specs.declared.plan.PlanFunction.{PlanFunction}
use Rattle.elf_build.specs.File.{lead}

-- the addresses of the functions that the text begins with, and of the first block
abbrev pub fa : ℕ
fa = 0x401000

abbrev pub fb : ℕ
fb = 0x401004

abbrev pub ftrace_caller : ℕ
ftrace_caller = 0x401008

abbrev pub main : ℕ
main = 0x40100c

abbrev pub blocks : ℕ
blocks = 0x401011

-- the functions, and how main begins: add esi, 1; ret; add edi, 1; ret; add ebx, 1; ret; mov ecx, 3
abbrev pub head : List ℕ
head =
    0x83 ∷ 0xc6 ∷ 0x01 ∷ 0xc3 ∷ 0x83 ∷ 0xc7 ∷ 0x01 ∷ 0xc3 ∷ 0x83 ∷ 0xc3 ∷ 0x01 ∷ 0xc3 ∷ 0xb9 ∷ 0x03 ∷ 0x00 ∷ 0x00 ∷ 0x00 ∷ []

-- the block with this number
abbrev pub block_of : ℕ → Block
block_of i =
    if i % 5 == 0 then FarSwitch else if i % 5 == 1 then NearSwitch else if i % 5 == 2 then CallBlock
    else if i % 5 == 3 then TraceBlock else TailCall

-- how many bytes a block takes
abbrev pub block_len : Block → ℕ
block_len FarSwitch = 7
block_len NearSwitch = 4
block_len CallBlock = 5
block_len TraceBlock = 5
block_len TailCall = 12

-- the bytes of a block at an address: nop, inc eax; nop, inc edx; call fa; nop; call over a jump to jmp fb
abbrev pub block_bytes : Block → ℕ → List ℕ
block_bytes FarSwitch at = 0x0f ∷ 0x1f ∷ 0x44 ∷ 0x00 ∷ 0x00 ∷ 0xff ∷ 0xc0 ∷ []
block_bytes NearSwitch at = 0x66 ∷ 0x90 ∷ 0xff ∷ 0xc2 ∷ []
block_bytes CallBlock at = 0xe8 ∷ lead 4 (at + 5) fa
block_bytes TraceBlock at = 0x0f ∷ 0x1f ∷ 0x44 ∷ 0x00 ∷ 0x00 ∷ []
block_bytes TailCall at = 0xe8 ∷ 0x02 ∷ 0x00 ∷ 0x00 ∷ 0x00 ∷ 0xeb ∷ 0x05 ∷ 0xe9 ∷ lead 4 (at + 12) fb

-- after the blocks: dec ecx; a jump back to the first block while it isn't zero; out 10, al; ret
abbrev pub end_bytes : ℕ → List ℕ
end_bytes at = (0xff ∷ 0xc9 ∷ 0x0f ∷ 0x85 ∷ lead 4 (at + 8) blocks) ++ 0xe6 ∷ 0x10 ∷ 0xc3 ∷ []

-- the blocks that are left, from this one and its address on, and what stands after them
abbrev pub text_from : ℕ → ℕ → ℕ → List ℕ
text_from zero i at = end_bytes at
text_from (suc left) i at = block_bytes (block_of i) at ++ text_from left (i + 1) (at + block_len (block_of i))

abbrev pub text_of : ℕ → List ℕ
text_of n = head ++ text_from n 0 blocks

-- a switch over the block, by one key for five blocks and by the other for the next five
abbrev pub switch_site : ℕ → ℕ → ℕ → PlanSite
switch_site i at target = Jump at target (i / 5 % 2) (i / 10 % 2 == 1)

-- the site of a block at an address
abbrev pub block_site : Block → ℕ → ℕ → PlanSite
block_site FarSwitch i at = switch_site i at (at + 7)
block_site NearSwitch i at = switch_site i at (at + 4)
block_site CallBlock i at = Call at 2 false
block_site TraceBlock i at = Trace at
block_site TailCall i at = Call (at + 7) 3 true

abbrev pub sites_from : ℕ → ℕ → ℕ → List PlanSite
sites_from zero i at = []
sites_from (suc left) i at = block_site (block_of i) i at ∷ sites_from left (i + 1) (at + block_len (block_of i))

abbrev pub sites_of : ℕ → List PlanSite
sites_of n = sites_from n 0 blocks

abbrev pub key : List ℕ → KeyStart → PlanKey
key name start = record { name = record { items = name }; start = start }

abbrev pub keys : List PlanKey
keys = key (codes "jk0") (Count 0) ∷ key (codes "jk1") (Count 1) ∷ key (codes "ca") (Func fa) ∷ key (codes "cb") (Func fb) ∷ []

abbrev pub function : List ℕ → ℕ → PlanFunction
function name at = record { name = record { items = name }; at = at }

abbrev pub first_functions : List PlanFunction
first_functions =
    function (codes "fa") fa ∷ function (codes "fb") fb ∷ function (codes "ftrace_caller") ftrace_caller
    ∷ function (codes "main") main ∷ []

-- t and the block's number
abbrev pub trace_name : ℕ → List ℕ
trace_name i = 116 ∷ decimal i

-- a block that is traced is a function
abbrev pub block_functions : Block → ℕ → ℕ → List PlanFunction
block_functions FarSwitch i at = []
block_functions NearSwitch i at = []
block_functions CallBlock i at = []
block_functions TraceBlock i at = function (trace_name i) at ∷ []
block_functions TailCall i at = []

abbrev pub functions_from : ℕ → ℕ → ℕ → List PlanFunction
functions_from zero i at = []
functions_from (suc left) i at =
    block_functions (block_of i) i at ++ functions_from left (i + 1) (at + block_len (block_of i))

abbrev pub functions_of : ℕ → List PlanFunction
functions_of n = first_functions ++ functions_from n 0 blocks

-- the plan is that of a module with n blocks
pub record IsGenerated (n : ℕ) (plan : Plan) : Type 0 where
  pub base : plan.base ≡ 0x401000
  pub text : plan.text.items ≡ text_of n
  pub sites : plan.sites.items ≡ sites_of n
  pub keys_are : plan.keys.items ≡ keys
  pub functions : plan.functions.items ≡ functions_of n
