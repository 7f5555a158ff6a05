-- Where jumps, calls, keys and functions lead, and the first of them that leads where no unit begins.
use Rattle.std.specs.Prelude.{◌≡◌, ◌==◌, ◌<◌, ℕ, if◌then◌else◌, List, [], ◌∷◌, slice_get, Option, Some, None}
use Rattle.x64_subset.specs.declared.insn.Insn.{Insn}
use Rattle.x64_subset.specs.declared.insn.Insn.TheVariants.{Jmp8, Jmp32, Call as CallTo, Jcc8, Jcc32}
use Rattle.module_parts.specs.declared.key.Key.{Key}
use Rattle.module_parts.specs.declared.key.KeyClass.{KeyClass}
use Rattle.module_parts.specs.declared.key.KeyClass.TheVariants.{Jump as JumpKey, Call as CallKey}
use Rattle.module_parts.specs.declared.site.Site.{Site}
use Rattle.module_parts.specs.declared.site.SiteKind.{SiteKind}
use Rattle.module_parts.specs.declared.site.SiteKind.TheVariants.{Jump, Call, Tail, Trace}
use Rattle.module_parts.specs.declared.unit.Unit.{Unit}
use Rattle.module_parts.specs.declared.unit.Unit.TheVariants.{Nothing, Plain, Site as PatchedSite}
use Rattle.module_parts.specs.declared.unit.Aim.{Aim}
use Rattle.module_image.specs.Layout.{Layout, IsStart, unit_at}

-- where a plain instruction may lead
abbrev pub insn_target : Insn → Option ℕ
insn_target (Jmp8 target) = Some target
insn_target (Jmp32 target) = Some target
insn_target (CallTo target) = Some target
insn_target (Jcc8 condition target) = Some target
insn_target (Jcc32 condition target) = Some target
insn_target _ = None

abbrev pub plain_target : Unit → Option ℕ
plain_target Nothing = None
plain_target (Plain insn len) = insn_target insn
plain_target (PatchedSite n) = None

-- a plain jump or call at a start
pub record IsPlainAim (t : Layout) (aim : Aim) : Type 0 where
  pub start : IsStart t aim.from
  pub leads : plain_target (unit_at t aim.from) ≡ Some aim.to

-- those of jump sites, foreign ones too
abbrev pub jump_aim : ℕ → SiteKind → List Aim → List Aim
jump_aim at (Jump target key likely) aims = record { from = at; to = target } ∷ aims
jump_aim at (Call key) aims = aims
jump_aim at (Tail key) aims = aims
jump_aim at Trace aims = aims

abbrev pub jump_aims : List Site → List Aim
jump_aims [] = []
jump_aims (s ∷ ss) = jump_aim s.at s.kind (jump_aims ss)

-- those of the keys of calls that have a function
abbrev pub key_aim : KeyClass → ℕ → ℕ → List Aim → List Aim
key_aim JumpKey at start aims = aims
key_aim CallKey at start aims = if start == 0 then aims else record { from = at; to = start } ∷ aims

abbrev pub key_aims : List Key → List Aim
key_aims [] = []
key_aims (k ∷ ks) = key_aim k.class k.at k.start (key_aims ks)

-- a function leads to itself
abbrev pub function_aim : ℕ → Aim
function_aim at = record { from = at; to = at }

-- no plain jump or call before an address leads astray
abbrev pub PlainReachBelow : Layout → ℕ → Type 0
PlainReachBelow t end = (aim : Aim) → aim.from < end → IsPlainAim t aim → IsStart t aim.to

abbrev pub AllPlainReach : Layout → Type 0
AllPlainReach t = (aim : Aim) → IsPlainAim t aim → IsStart t aim.to

-- none of the first n aims of a list, and none at all
abbrev pub ReachBelow : Layout → List Aim → ℕ → Type 0
ReachBelow t aims n = (k : ℕ) (aim : Aim) → k < n → slice_get aims k ≡ Some aim → IsStart t aim.to

abbrev pub AllReach : Layout → List Aim → Type 0
AllReach t aims = (k : ℕ) (aim : Aim) → slice_get aims k ≡ Some aim → IsStart t aim.to

-- the first that does, by address and by place in the list
pub record IsFirstBadPlain (t : Layout) (aim : Aim) : Type 0 where
  pub is : IsPlainAim t aim
  pub bad : IsStart t aim.to → ⊥
  pub below : PlainReachBelow t aim.from

pub record IsFirstBad (t : Layout) (aims : List Aim) (aim : Aim) : Type 0 where
  pub place : ℕ
  pub here : slice_get aims place ≡ Some aim
  pub bad : IsStart t aim.to → ⊥
  pub before : ReachBelow t aims place

-- the first of all: of plain instructions, of jump sites, of keys, of functions
pub data IsFirstBadOf (t : Layout) (jumps keys functions : List Aim) (aim : Aim) : Type 0 where
  of_plain : IsFirstBadPlain t aim → IsFirstBadOf t jumps keys functions aim
  of_jumps : AllPlainReach t → IsFirstBad t jumps aim → IsFirstBadOf t jumps keys functions aim
  of_keys : AllPlainReach t → AllReach t jumps → IsFirstBad t keys aim → IsFirstBadOf t jumps keys functions aim
  of_functions : AllPlainReach t → AllReach t jumps → AllReach t keys → IsFirstBad t functions aim → IsFirstBadOf t jumps keys functions aim

-- all lead to starts
pub record AllLead (t : Layout) (jumps keys functions : List Aim) : Type 0 where
  pub plain : AllPlainReach t
  pub of_jumps : AllReach t jumps
  pub of_keys : AllReach t keys
  pub of_functions : AllReach t functions
