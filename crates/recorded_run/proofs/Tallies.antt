-- What stands after a trace, of tracers that are as expected.
use Rattle.std.proofs.Common.{◌≡◌, ◌≢◌, ◌∙◌, ◌+◌, ℕ, zero, suc, List, [], ◌∷◌, ◌++◌, length, take, drop, map, Contains, Option, Some, None, slice_get, refl, sym, ap, arith, append_assoc}
use Rattle.std.specs.List.{flat_map}
use Rattle.script_runner.specs.Operations.{Operation}
use Rattle.script_runner.specs.Operations.Operation.{Hits, DropsAt}
use Rattle.tracer_ops.specs.declared.tracer.TracerRule.TheVariants.{Untold}
use Rattle.tracer_ops.specs.Meaning.{Meaning, total}
use Rattle.tracer_ops.specs.Tracers.{AreAs, all_hit}
use Rattle.recorded_run.specs.declared.tracing.Dropped.{Dropped}
use Rattle.recorded_run.specs.Fed.{AreAnswers, Fed, IsAnswer, IsFed, fed, fed_by}
use Rattle.recorded_run.specs.Tally.{AreTotals, IsTally, dropped_line, tracer_line, tracer_lines}
use Rattle.switching.proofs.Lookups.{first_in, later_in}
use Rattle.recorded_run.proofs.Matching.{total_as}

-- ---- totals

-- some that tracers may answer
pub some_totals : List Meaning → List ℕ
some_totals ts = map (λ (t : Meaning). total t.numbers) ts

pub are_some_totals : (ts : List Meaning) → AreTotals ts (some_totals ts)
unfolding some_totals
are_some_totals [] = tt
are_some_totals (t ∷ ts) = (λ told. refl, are_some_totals ts)

totals_as : (ts us : List Meaning) (totals : List ℕ) → AreAs ts us → AreTotals ts totals → AreTotals us totals
totals_as [] [] totals h are = are
totals_as [] (u ∷ us) totals h are = absurd h
totals_as (t ∷ ts) [] totals h are = absurd h
totals_as (t ∷ ts) (u ∷ us) [] h are = absurd are
totals_as (t ∷ ts) (u ∷ us) (n ∷ totals) h are = (total_as t u n h.0 are.0, totals_as ts us totals h.1 are.1)

pub totals-append : (ts us : List Meaning) (totals more : List ℕ) → AreTotals ts totals → AreTotals us more → AreTotals (ts ++ us) (totals ++ more)
totals-append [] us [] more are also = also
totals-append [] us (n ∷ totals) more are also = absurd are
totals-append (t ∷ ts) us [] more are also = absurd are
totals-append (t ∷ ts) us (n ∷ totals) more are also = (are.0, totals-append ts us totals more are.1 also)

pub totals_length : (ts : List Meaning) (totals : List ℕ) → AreTotals ts totals → length totals ≡ length ts
totals_length [] [] are = refl
totals_length [] (n ∷ totals) are = absurd are
totals_length (t ∷ ts) [] are = absurd are
totals_length (t ∷ ts) (n ∷ totals) are = (let rest = totals_length ts totals are.1 in omega (arith, rest))

-- the lines of totals, and then those of further ones
pub tracer_lines-append : (place : ℕ) (totals more : List ℕ) → tracer_lines place (totals ++ more) ≡ tracer_lines place totals ++ tracer_lines (place + length totals) more
tracer_lines-append place [] more =
    let here : place ≡ place + length {A = ℕ} [] = omega arith in
    ap (λ (p : ℕ). tracer_lines p more) here
tracer_lines-append place (n ∷ totals) more =
    let here : place + 1 + length totals ≡ place + length (n ∷ totals) = omega arith in
    ap (λ (text : List ℕ). tracer_line place n ++ text) (tracer_lines-append (place + 1) totals more)
    ∙ ap (λ (p : ℕ). tracer_line place n ++ (tracer_lines (place + 1) totals ++ tracer_lines p more)) here
    ∙ sym (append_assoc (tracer_line place n) (tracer_lines (place + 1) totals) (tracer_lines (place + length (n ∷ totals)) more))

-- what is printed of tracers that are as expected is a tally
pub tally_of : (f : Fed) (tracers : List Meaning) (answers : List Dropped) (totals : List ℕ) → IsFed f tracers answers → AreTotals tracers totals → IsTally f (flat_map dropped_line answers ++ tracer_lines 0 totals)
tally_of f tracers answers totals h are = record {
  answers = answers;
  totals = totals;
  drops = h.drops;
  left = totals_as tracers f.left totals h.left are;
  is = refl;
}

-- ---- of told tracers there is one tally

abbrev IsTold : Meaning → Type 0
IsTold t = t.rule ≢ Untold

abbrev AllTold : List Meaning → Type 0
AllTold [] = Unit {0}
AllTold (t ∷ ts) = IsTold t × AllTold ts

all_told : (ts : List Meaning) → ((t : Meaning) → Contains ts t → IsTold t) → AllTold ts
all_told [] told = tt
all_told (t ∷ ts) told = (told t (first_in t ts), all_told ts (λ u has. told u (later_in t u ts has)))

hits_told : (site : ℕ) (ts : List Meaning) → AllTold ts → AllTold (all_hit site ts)
hits_told site [] told = tt
hits_told site (t ∷ ts) told = (told.0, hits_told site ts told.1)

take_told : (n : ℕ) (ts : List Meaning) → AllTold ts → AllTold (take n ts)
take_told zero ts told = tt
take_told (suc n) [] told = tt
take_told (suc n) (t ∷ ts) told = (told.0, take_told n ts told.1)

drop_told : (n : ℕ) (ts : List Meaning) → AllTold ts → AllTold (drop n ts)
drop_told zero ts told = told
drop_told (suc n) [] told = tt
drop_told (suc n) (t ∷ ts) told = drop_told n ts told.1

append_told : (ts us : List Meaning) → AllTold ts → AllTold us → AllTold (ts ++ us)
append_told [] us told also = also
append_told (t ∷ ts) us told also = (told.0, append_told ts us told.1 also)

abbrev IsToldAny : Option Meaning → Type 0
IsToldAny None = Unit {0}
IsToldAny (Some t) = IsTold t

at_told : (place : ℕ) (ts : List Meaning) → AllTold ts → IsToldAny (slice_get ts place)
at_told place [] told = tt
at_told zero (t ∷ ts) told = told.0
at_told (suc place) (t ∷ ts) told = at_told place ts told.1

abbrev DropsTold : List (ℕ × Option Meaning) → Type 0
DropsTold [] = Unit {0}
DropsTold (drop ∷ drops) = IsToldAny drop.1 × DropsTold drops

drops_told : (drops : List (ℕ × Option Meaning)) (drop : ℕ × Option Meaning) → DropsTold drops → IsToldAny drop.1 → DropsTold (drops ++ drop ∷ [])
drops_told [] drop told one = (one, tt)
drops_told (first ∷ drops) drop told one = (told.0, drops_told drops drop told.1 one)

-- they stay told
pub record FedTold (f : Fed) : Type 0 where
  pub left : AllTold f.left
  pub drops : DropsTold f.drops

fed_told : (f : Fed) (operations : List Operation) → FedTold f → FedTold (fed f operations)
fed_told f [] told = told
fed_told f (Hits cpu site ∷ operations) told =
    fed_told (fed_by f (Hits cpu site)) operations (record { left = hits_told site f.left told.left; drops = told.drops })
fed_told f (DropsAt place ∷ operations) told =
    fed_told (fed_by f (DropsAt place)) operations (record {
      left = append_told (take place f.left) (drop (place + 1) f.left) (take_told place f.left told.left) (drop_told (place + 1) f.left told.left);
      drops = drops_told f.drops (place, slice_get f.left place) told.drops (at_told place f.left told.left);
    })

-- so each answer is determined, and each total
answers_one : (tracer : Option Meaning) (answer other : Option ℕ) → IsToldAny tracer → IsAnswer tracer answer → IsAnswer tracer other → answer ≡ other
answers_one None None None told is also = refl
answers_one None None (Some n) told is also = absurd also
answers_one None (Some n) other told is also = absurd is
answers_one (Some t) None other told is also = absurd is
answers_one (Some t) (Some n) None told is also = absurd also
answers_one (Some t) (Some n) (Some k) told is also = ap (λ (x : ℕ). Some x) (is told ∙ sym (also told))

line_one : (answer other : Dropped) → answer.place ≡ other.place → answer.total ≡ other.total → dropped_line answer ≡ dropped_line other
line_one answer other place same =
    ap (λ (p : ℕ). dropped_line (record { place = p; total = answer.total })) place
    ∙ ap (λ (n : Option ℕ). dropped_line (record { place = other.place; total = n })) same

dropped_one : (drops : List (ℕ × Option Meaning)) (answers others : List Dropped) → DropsTold drops → AreAnswers drops answers → AreAnswers drops others → flat_map dropped_line answers ≡ flat_map dropped_line others
dropped_one [] [] [] told are also = refl
dropped_one [] [] (other ∷ others) told are also = absurd also
dropped_one [] (answer ∷ answers) others told are also = absurd are
dropped_one (drop ∷ drops) [] others told are also = absurd are
dropped_one (drop ∷ drops) (answer ∷ answers) [] told are also = absurd also
dropped_one (drop ∷ drops) (answer ∷ answers) (other ∷ others) told are also =
    ap (λ (text : List ℕ). text ++ flat_map dropped_line answers) (line_one answer other (are.0 ∙ sym also.0) (answers_one drop.1 answer.total other.total told.0 are.1 also.1))
    ∙ ap (λ (text : List ℕ). dropped_line other ++ text) (dropped_one drops answers others told.1 are.2 also.2)

totals_one : (ts : List Meaning) (totals others : List ℕ) → AllTold ts → AreTotals ts totals → AreTotals ts others → totals ≡ others
totals_one [] [] [] told are also = refl
totals_one [] [] (k ∷ others) told are also = absurd also
totals_one [] (n ∷ totals) others told are also = absurd are
totals_one (t ∷ ts) [] others told are also = absurd are
totals_one (t ∷ ts) (n ∷ totals) [] told are also = absurd also
totals_one (t ∷ ts) (n ∷ totals) (k ∷ others) told are also =
    ap (λ (x : ℕ). x ∷ totals) (are.0 told.0 ∙ sym (also.0 told.0))
    ∙ ap (λ (xs : List ℕ). k ∷ xs) (totals_one ts totals others told.1 are.1 also.1)

tally_one : (f : Fed) (text other : List ℕ) → FedTold f → IsTally f text → IsTally f other → text ≡ other
tally_one f text other told is also =
    is.is
    ∙ ap (λ (lines : List ℕ). lines ++ tracer_lines 0 is.totals) (dropped_one f.drops is.answers also.answers told.drops is.drops also.drops)
    ∙ ap (λ (totals : List ℕ). flat_map dropped_line also.answers ++ tracer_lines 0 totals) (totals_one f.left is.totals also.totals told.left is.left also.left)
    ∙ sym also.is

-- whatever operations they are told of
pub tallies_one : (tracers : List Meaning) (operations : List Operation) (text other : List ℕ) → ((t : Meaning) → Contains tracers t → IsTold t) → IsTally (fed (record { left = tracers; drops = [] }) operations) text → IsTally (fed (record { left = tracers; drops = [] }) operations) other → text ≡ other
tallies_one tracers operations text other told is also =
    tally_one (fed (record { left = tracers; drops = [] }) operations) text other (fed_told (record { left = tracers; drops = [] }) operations (record { left = all_told tracers told; drops = tt })) is also
