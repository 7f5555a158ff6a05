-- What the calls on the shared words answer, by the views before and after.
use Rattle.std.specs.Prelude.{◌≡◌, ◌⊎◌, Bool, ◌||◌, ℕ, Some, take, is_none, MatchBool}
use Rattle.insn_forms.specs.History.{IsCandidate}
use Rattle.live_text.specs.declared.text.Put.{Put}
use Rattle.live_text.specs.declared.text.Put.TheVariants.{Stored, Wait, Finished}
use Rattle.live_text.specs.declared.view.View.{View}
use Rattle.live_text.specs.Past.{memory, history}
use Rattle.live_text.specs.Steps.{wrote, requested, fetched}
use Rattle.live_text.specs.Rule.{cached}
use Rattle.live_text.specs.Seats.{KnowsAll, WriteDue, RequestDue, NoneDue}

-- the patch seat stores the due item where it knows that all have acknowledged; else it waits
abbrev pub Puts : View → View → Put → Type 0
Puts v w Stored = KnowsAll v.patch × (WriteDue v × (w ≡ wrote v) ⊎ RequestDue v × (w ≡ requested v))
Puts v w Wait = (¬ KnowsAll v.patch) × (w ≡ v)
Puts v w Finished = KnowsAll v.patch × NoneDue v × (w ≡ v)

-- a processor reads byte b: it loads it where it has to be fresh or isn't cached, and else takes what is cached
abbrev pub Reads : Bool → ℕ → View → ℕ → View → Type 0
Reads fresh b v n w =
    MatchBool (fresh || is_none (cached v.cpu b)) (w ≡ fetched b n v) ((w ≡ v) × (cached v.cpu b ≡ Some n))

-- the value is one that byte b had from the seat's mark on, as far as the seat knows
abbrev pub HadSince : View → ℕ → ℕ → Type 0
HadSince v b n = IsCandidate (memory v.shape) (take v.cpu.known (history v.shape)) v.cpu.mark b n
