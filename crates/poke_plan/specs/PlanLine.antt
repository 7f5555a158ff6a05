-- What a plan file says: one line `ADDRESS OLDHEX FORM`.
use Rattle.std.specs.Prelude.{◌≡◌, ◌≤◌, ◌<◌, ◌==◌, ℕ, Bool, nat_le, if◌then◌else◌, List, [], ◌∷◌, length, codes, Option, Some, None, IsSome, option_and_then, Result, Ok, Err}
use Rattle.std.specs.Result.{result_ok}
use Rattle.std.specs.List.{before_first, after_first}
use Rattle.std.specs.Str.{bytes_eq}
use Rattle.hex.specs.Hex.{decode_of}
use Rattle.poke_base.specs.Text.{words}
use Rattle.poke_base.specs.Number.{hex_number}
use Rattle.insn_forms.specs.declared.forms.Form.{Form}
use Rattle.insn_forms.specs.declared.forms.Form.TheVariants.{Nop2, Nop5, Jmp8, Jmp32, Call, Ret}
use Rattle.insn_forms.specs.declared.forms.Change.{Change}
use Rattle.insn_forms.specs.Spelling.{spell, size}
use Rattle.poke_plan.specs.declared.plan_line.Wish.{Wish}
use Rattle.poke_plan.specs.declared.plan_line.Plan.{Plan}
use Rattle.poke_plan.specs.declared.plan_line.PlanRefused.{PlanRefused}
use Rattle.poke_plan.specs.declared.plan_line.PlanRefused.TheVariants.{TooLong, Line, NoReach, Old}

abbrev pub is_line_feed : ℕ → Bool
is_line_feed byte = byte == 10

-- a line, where nothing stands after it
abbrev pub if_last : List ℕ → List ℕ → Option (List ℕ)
if_last line [] = Some line
if_last line (byte ∷ more) = None

-- the only line of a text, with a line feed at its end or without
abbrev pub only_line : List ℕ → Option (List ℕ)
only_line text = if_last (before_first is_line_feed text) (after_first is_line_feed text)

-- an address in hexadecimal, at most ffffffffffffff00
abbrev pub if_address : ℕ → Option ℕ
if_address at = if nat_le at 0xffffffffffffff00 then Some at else None

abbrev pub address_of : List ℕ → Option ℕ
address_of word = option_and_then if_address (hex_number word)

-- an even number of hexadecimal digits of either case
abbrev pub bytes_of : List ℕ → Option (List ℕ)
bytes_of word = result_ok (decode_of word)

-- a form without a target
abbrev pub plain_form : List ℕ → Option Form
plain_form word =
    if bytes_eq word (codes "nop2") then Some Nop2
    else if bytes_eq word (codes "nop5") then Some Nop5
    else if bytes_eq word (codes "ret") then Some Ret
    else None

-- a form with a target
abbrev pub form_to : List ℕ → ℕ → Option Form
form_to word target =
    if bytes_eq word (codes "jmp8") then Some (Jmp8 target)
    else if bytes_eq word (codes "jmp32") then Some (Jmp32 target)
    else if bytes_eq word (codes "call") then Some (Call target)
    else None

abbrev pub form_of : List (List ℕ) → Option Form
form_of [] = None
form_of (word ∷ []) = plain_form word
form_of (word ∷ target ∷ []) = option_and_then (form_to word) (hex_number target)
form_of (word ∷ target ∷ more ∷ rest) = None

-- what an address, bytes and a form say together
abbrev pub wish : Option ℕ → Option (List ℕ) → Option Form → Option Wish
wish (Some at) (Some bytes) (Some form) = Some (record { at = at; bytes = record { items = bytes }; form = form })
wish _ _ _ = None

abbrev pub wish_of_words : List (List ℕ) → Option Wish
wish_of_words [] = None
wish_of_words (address ∷ []) = None
wish_of_words (address ∷ bytes ∷ form) = wish (address_of address) (bytes_of bytes) (form_of form)

-- what a text says, where it is one line of the grammar
unfoldable pub wish_of : List ℕ → Option Wish
wish_of text = option_and_then (λ line. wish_of_words (words line)) (only_line text)

-- the bytes of the wish are the old form of this change, and the change is of one size
pub record IsWished (w : Wish) (change : Change) : Type 0 where
  pub at : change.at ≡ w.at
  pub new : change.new ≡ w.form
  pub one_size : size change.old ≡ size change.new
  pub old : spell change.old change.at ≡ Some w.bytes.items
  pub reaches : IsSome (spell change.new change.at)

-- what a plan file says: a change, or the first of four refusals
abbrev pub PokeLine : List ℕ → Result Change PlanRefused → Type 0
PokeLine text (Err TooLong) = 256 < length text
PokeLine text (Err Line) = (length text ≤ 256) × (wish_of text ≡ None)
PokeLine text (Err NoReach) = (length text ≤ 256) × (w : Wish) × (wish_of text ≡ Some w) × (spell w.form w.at ≡ None)
PokeLine text (Err Old) =
    (length text ≤ 256) × (w : Wish) × (wish_of text ≡ Some w) × IsSome (spell w.form w.at)
    × ((change : Change) → ¬ IsWished w change)
PokeLine text (Ok change) = (length text ≤ 256) × (w : Wish) × (wish_of text ≡ Some w) × IsWished w change

-- the change that was read, or the refusal
abbrev pub change_of : Result Plan PlanRefused → Result Change PlanRefused
change_of (Ok plan) = Ok plan.change
change_of (Err why) = Err why

-- a plan whose change can be poked, with the bytes of its old form
pub record IsPlan (plan : Plan) : Type 0 where
  pub held_at : plan.held.at ≡ plan.change.at
  pub old : spell plan.change.old plan.change.at ≡ Some plan.held.bytes.items
  pub new : IsSome (spell plan.change.new plan.change.at)
  pub one_size : size plan.change.old ≡ size plan.change.new
  pub below : plan.change.at ≤ 0xffffffffffffff00

-- the bytes of a wish spell this form, which is as long as the wanted one
pub record IsOldForm (w : Wish) (old : Form) : Type 0 where
  pub one_size : size old ≡ size w.form
  pub spelt : spell old w.at ≡ Some w.bytes.items
