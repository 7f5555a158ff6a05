-- A byte after one write more, and the first number of writes after which it has a value.
use Rattle.std.proofs.Common.{◌≡◌, ◌≢◌, ℕ, zero, suc, ◌+◌, ◌-◌, ◌<◌, ◌≤◌, ◌==◌, Bool, true, false, if◌then◌else◌, List, [], ◌∷◌, ◌++◌, length, map, take, replicate, get_or, refl, ap, sym, ◌∙◌, subst, arith, None}
use Rattle.std.specs.Prelude.{slice_get, unwrap_or}
use Rattle.std.proofs.lemmas.Bool.Decides.{Decides-eqb}
use Rattle.std.proofs.lemmas.List.{take_more, length-map, get_or-map}
use Rattle.std.proofs.lemmas.Bool.{le-ltb}
use Rattle.std.proofs.lemmas.Option.{unwrap_or-slice_get}
use Rattle.insn_forms.specs.Write.{Write}
use Rattle.insn_forms.specs.History.{Memory, text_memory, put, written}
use Rattle.live_text.specs.declared.view.Shape.{Shape}
use Rattle.live_text.specs.declared.view.PlacedWrite.{PlacedWrite}
use Rattle.live_text.specs.Past.{memory, write_of, history, value, place_at, seek, Found}
use Rattle.live_text.proofs.Writes.{written_append, put_there, put_elsewhere}

-- what a write writes
abbrev pub no_write : PlacedWrite
no_write = record { place = 0; byte = 0 }

abbrev pub byte_at : Shape → ℕ → ℕ
byte_at p k = (get_or p.writes k no_write).byte

-- a list of one element, and what lies after it
pub same_everywhere : {A : Type 0} (n i : ℕ) (a : A) → get_or (replicate n a) i a ≡ a
same_everywhere zero i a = refl
same_everywhere (suc n) zero a = refl
same_everywhere (suc n) (suc i) a = same_everywhere n i a

-- before all writes
text_at : (bytes : List ℕ) (b : ℕ) → text_memory 0 bytes b ≡ get_or bytes b 0
text_at bytes b =
    ap (λ t. unwrap_or (if t then None else slice_get bytes (b - 0)) 0) (le-ltb b 0 (omega arith))
    ∙ ap (λ (i : ℕ). unwrap_or (slice_get bytes i) 0) same
    ∙ unwrap_or-slice_get bytes b 0
  where
    same : b - 0 ≡ b
    same = omega arith

pub value_start : (p : Shape) (b : ℕ) → value p 0 b ≡ get_or p.starts b 0
unfolding value
value_start p b = text_at p.starts b

write_more : (ws : List PlacedWrite) (k : ℕ) → k < length ws → take (k + 1) (map write_of ws) ≡ take k (map write_of ws) ++ write_of (get_or ws k no_write) ∷ []
write_more ws k below =
    take_more (map write_of ws) k (write_of no_write) (subst (λ (n : ℕ). k < n) (sym (length-map ws write_of)) below)
    ∙ ap (λ (w : Write). take k (map write_of ws) ++ w ∷ []) (get_or-map write_of ws k no_write (write_of no_write) below)

-- one write more
value_more : (p : Shape) (k b : ℕ) → k < length p.writes → value p (k + 1) b ≡ put (write_of (get_or p.writes k no_write)) (written (take k (history p)) (memory p)) b
unfolding value
value_more p k b below =
    ap (λ (ws : List Write). written ws (memory p) b) (write_more p.writes k below)
    ∙ ap (λ (m : Memory). m b) (written_append (take k (history p)) (write_of (get_or p.writes k no_write) ∷ []) (memory p))

pub value_here : (p : Shape) (k b : ℕ) → k < length p.writes → place_at p k ≡ b → value p (k + 1) b ≡ byte_at p k
value_here p k b below is = value_more p k b below ∙ put_there (write_of (get_or p.writes k no_write)) (written (take k (history p)) (memory p)) b is

pub value_other : (p : Shape) (k b : ℕ) → k < length p.writes → place_at p k ≢ b → value p (k + 1) b ≡ value p k b
unfolding value
value_other p k b below other = value_more p k b below ∙ put_elsewhere (write_of (get_or p.writes k no_write)) (written (take k (history p)) (memory p)) b other

-- what was sought: a number of writes in the range after which the byte has the value
pub record IsSought (p : Shape) (low k high b v : ℕ) : Type 0 where
  pub from : low ≤ k
  pub to : k ≤ high
  pub same : value p k b ≡ v

-- the value is found by the time that it is there
sought_on : (p : Shape) (b v low n at : ℕ) (t : Bool) → (value p low b == v) ≡ t → low ≤ at → value p at b ≡ v → ((low + 1 ≤ at) → IsSought p (low + 1) (seek p b v (low + 1) n) at b v) → IsSought p low (if t then low else seek p b v (low + 1) n) at b v
sought_on p b v low n at true here from is later =
    record { from = omega arith; to = from; same = (Decides-eqb (value p low b) v).0 here }
sought_on p b v low n at false other from is later =
    let moved : low ≢ at = λ (e : low ≡ at).
    (let yes : (value p low b == v) ≡ true = (Decides-eqb (value p low b) v).1 (ap (λ (k : ℕ). value p k b) e ∙ is) in absurd (cc)) in
    let rest : IsSought p (low + 1) (seek p b v (low + 1) n) at b v = later (omega arith) in
    let low_less : low + 1 ≤ seek p b v (low + 1) n = rest.from in
    record { from = omega arith; to = rest.to; same = rest.same }

pub sought : (p : Shape) (b v low n at : ℕ) → low ≤ at → at ≤ low + n → value p at b ≡ v → IsSought p low (seek p b v low n) at b v
sought p b v low zero at from to is =
    let same : low ≡ at = omega arith in
    record { from = omega arith; to = omega arith; same = ap (λ (k : ℕ). value p k b) same ∙ is }
sought p b v low (suc n) at from to is =
    sought_on p b v low n at (value p low b == v) refl from is
    (λ more. sought p b v (low + 1) n at more (omega arith) is)

-- a value that is there after some number of writes is found
pub found : (p : Shape) (low at high b v : ℕ) → low ≤ at → at ≤ high → value p at b ≡ v → Found p low high b v
found p low at high b v from to is =
    let s : IsSought p low (seek p b v low (high - low)) at b v = sought p b v low (high - low) at from (omega arith) is in
    let before : seek p b v low (high - low) ≤ at = s.to in
    record { by = omega arith; same = s.same }

-- it isn't sought before
either_from : (low later : ℕ) (t : Bool) → low + 1 ≤ later → low ≤ (if t then low else later)
either_from low later true more = omega arith
either_from low later false more = omega arith

pub seek_from : (p : Shape) (b v low n : ℕ) → low ≤ seek p b v low n
seek_from p b v low zero = omega arith
seek_from p b v low (suc n) =
    either_from low (seek p b v (low + 1) n) (value p low b == v) (seek_from p b v (low + 1) n)

-- what was found stays so with more writes
pub found_longer : (p : Shape) (low high more b v : ℕ) → high ≤ more → Found p low high b v → Found p low more b v
found_longer p low high more b v le f =
    let by : seek p b v low (high - low) ≤ high = f.by in
    found p low (seek p b v low (high - low)) more b v (seek_from p b v low (high - low)) (omega arith) f.same
