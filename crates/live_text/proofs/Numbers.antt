-- The history of the sites' bytes by number is that by address.
use Rattle.std.proofs.Common.{◌≡◌, inl, inr, ℕ, zero, suc, ◌+◌, ◌-◌, ◌<◌, ◌≤◌, List, [], ◌∷◌, ◌++◌, length, map, take, get_or, refl, ap, sym, ◌∙◌, arith}
use Rattle.std.proofs.lemmas.List.{length-append, get_or-append_right}
use lib.ListN.{get_or-append}
use mathlib.Core.Logic.{dite}
use native.Mathlib.Decide.{ℕ_discrete}
use Rattle.insn_forms.specs.Spelling.{size}
use Rattle.insn_forms.specs.Write.{Write}
use Rattle.insn_forms.specs.History.{Memory, put, written}
use Rattle.poke_batch.specs.Poke.{spelled}
use Rattle.live_text.specs.declared.plan.LivePlan.{LivePlan}
use Rattle.live_text.specs.declared.plan.LiveSite.{LiveSite}
use Rattle.live_text.specs.declared.view.Shape.{Shape}
use Rattle.live_text.specs.declared.view.PlacedWrite.{PlacedWrite}
use Rattle.live_text.specs.Plan.{SitesApart, Stands}
use Rattle.live_text.specs.Flat.{starts, place, placed, shape_of}
use Rattle.live_text.specs.Past.{memory, write_of, value}
use Rattle.live_text.specs.Own.{site_of, byte_number}
use Rattle.live_text.specs.Laws.{writes_of, HoldsStarts, ValuesAreBytes}
use Rattle.live_text.proofs.Writes.{Has, has_take, put_there, put_elsewhere}
use Rattle.live_text.proofs.Values.{value_start}
use Rattle.live_text.proofs.Rounds.{length-spelled}
use Rattle.live_text.proofs.Bytes.{AreSpelt}
use Rattle.live_text.proofs.Standing.{IsSited, the_site, no_site, place_there}
use Rattle.live_text.proofs.Shapes.{all_fine}

-- two bytes of sites with one number are one
same_number : (sites : List LiveSite) (n m i j : ℕ) → AreSpelt sites → n < length sites → m < length sites → i < size (the_site sites n).start → j < size (the_site sites m).start → length (starts (take n sites)) + i ≡ length (starts (take m sites)) + j → (n ≡ m) × (i ≡ j)
same_number [] n m i j spelt p q a b e = absurd (omega arith)
same_number (s ∷ sites) zero zero i j spelt p q a b e = (refl, omega arith)
same_number (s ∷ sites) zero (suc m) i j spelt p q a b e =
    let long : length (spelled s.start s.at) ≡ size s.start = length-spelled s.start s.at (spelt 0 s (omega arith)) in
    let all : length (spelled s.start s.at ++ starts (take m sites)) ≡ length (spelled s.start s.at) + length (starts (take m sites)) = length-append (spelled s.start s.at) (starts (take m sites)) in
    let small : i < size s.start = a in
    let same : 0 + i ≡ length (spelled s.start s.at ++ starts (take m sites)) + j = e in
    absurd (omega arith)
same_number (s ∷ sites) (suc n) zero i j spelt p q a b e =
    let long : length (spelled s.start s.at) ≡ size s.start = length-spelled s.start s.at (spelt 0 s (omega arith)) in
    let all : length (spelled s.start s.at ++ starts (take n sites)) ≡ length (spelled s.start s.at) + length (starts (take n sites)) = length-append (spelled s.start s.at) (starts (take n sites)) in
    let small : j < size s.start = b in
    let same : length (spelled s.start s.at ++ starts (take n sites)) + i ≡ 0 + j = e in
    absurd (omega arith)
same_number (s ∷ sites) (suc n) (suc m) i j spelt p q a b e =
    let one : length (spelled s.start s.at ++ starts (take n sites)) ≡ length (spelled s.start s.at) + length (starts (take n sites)) = length-append (spelled s.start s.at) (starts (take n sites)) in
    let two : length (spelled s.start s.at ++ starts (take m sites)) ≡ length (spelled s.start s.at) + length (starts (take m sites)) = length-append (spelled s.start s.at) (starts (take m sites)) in
    let same : length (spelled s.start s.at ++ starts (take n sites)) + i ≡ length (spelled s.start s.at ++ starts (take m sites)) + j = e in
    let rest = same_number sites n m i j (λ k d below. spelt (suc k) d (omega arith)) (omega arith) (omega arith) a b (omega arith) in
    (ap suc rest.0, rest.1)

pub number_of : (sites : List LiveSite) (a : ℕ) (s : IsSited sites a) → SitesApart sites → AreSpelt sites → place sites a ≡ length (starts (take s.site sites)) + s.offset
number_of sites a s apart spelt =
    ap (place sites) (sym s.there) ∙ place_there sites s.site s.offset no_site apart spelt s.listed s.inside

same_place : (sites : List LiveSite) (a b : ℕ) → SitesApart sites → AreSpelt sites → IsSited sites a → IsSited sites b → place sites a ≡ place sites b → a ≡ b
same_place sites a b apart spelt s t e =
    let numbers : length (starts (take s.site sites)) + s.offset ≡ length (starts (take t.site sites)) + t.offset = sym (number_of sites a s apart spelt) ∙ e ∙ number_of sites b t apart spelt in
    let same = same_number sites s.site t.site s.offset t.offset spelt s.listed t.listed s.inside t.inside numbers in
    sym s.there ∙ ap (λ (z : ℕ × ℕ). (the_site sites z.0).at + z.1) (λ k. (same.0 k, same.1 k)) ∙ t.there

-- a text and its sites' bytes agree
abbrev Agree : List LiveSite → Memory → Memory → Type 0
Agree sites m l = (a : ℕ) → IsSited sites a → m a ≡ l (place sites a)

-- they do after a write, and after some
agree_put : (sites : List LiveSite) (w : Write) (m l : Memory) → SitesApart sites → AreSpelt sites → IsSited sites w.at → Agree sites m l → Agree sites (put w m) (put (write_of (placed sites w)) l)
agree_put sites w m l apart spelt there agree a s =
    dite (ℕ_discrete w.at a)
    (λ here. put_there w m a here ∙ sym (put_there (write_of (placed sites w)) l (place sites a) (ap (place sites) here)))
    (λ other.
    put_elsewhere w m a other
    ∙ agree a s
    ∙ sym (put_elsewhere (write_of (placed sites w)) l (place sites a) (λ e. other (same_place sites w.at a apart spelt there s e))))

agree_written : (sites : List LiveSite) (ws : List Write) (m l : Memory) → SitesApart sites → AreSpelt sites → ((w : Write) → Has ws w → IsSited sites w.at) → Agree sites m l → Agree sites (written ws m) (written (map write_of (map (placed sites) ws)) l)
agree_written sites [] m l apart spelt each agree = agree
agree_written sites (w ∷ ws) m l apart spelt each agree =
    agree_written sites ws (put w m) (put (write_of (placed sites w)) l) apart spelt (λ v h. each v (inr h))
    (agree_put sites w m l apart spelt (each w (inl refl)) agree)

-- the bytes at the start, by number
start_at : (sites : List LiveSite) (n j : ℕ) → AreSpelt sites → n < length sites → j < size (the_site sites n).start → get_or (starts sites) (length (starts (take n sites)) + j) 0 ≡ get_or (spelled (the_site sites n).start (the_site sites n).at) j 0
start_at [] n j spelt below small = absurd (omega arith)
start_at (s ∷ sites) zero j spelt below small =
    let long : length (spelled s.start s.at) ≡ size s.start = length-spelled s.start s.at (spelt 0 s (omega arith)) in
    let inside : j < size s.start = small in
    let same : 0 + j ≡ j = omega arith in
    ap (λ (k : ℕ). get_or (spelled s.start s.at ++ starts sites) k 0) same
    ∙ get_or-append (spelled s.start s.at) (starts sites) 0 j (omega arith)
start_at (s ∷ sites) (suc n) j spelt below small =
    let all : length (spelled s.start s.at ++ starts (take n sites)) ≡ length (spelled s.start s.at) + length (starts (take n sites)) = length-append (spelled s.start s.at) (starts (take n sites)) in
    let from : length (spelled s.start s.at) ≤ length (spelled s.start s.at ++ starts (take n sites)) + j = omega arith in
    let past : length (spelled s.start s.at ++ starts (take n sites)) + j - length (spelled s.start s.at) ≡ length (starts (take n sites)) + j = omega arith in
    get_or-append_right (spelled s.start s.at) (starts sites) (length (spelled s.start s.at)) (length (spelled s.start s.at ++ starts (take n sites)) + j) 0 refl from
    ∙ ap (λ (k : ℕ). get_or (starts sites) k 0) past
    ∙ start_at sites n j (λ k d low. spelt (suc k) d (omega arith)) (omega arith) small

taken_map : {A B : Type 0} (f : A → B) (k : ℕ) (xs : List A) → take k (map f xs) ≡ map f (take k xs)
taken_map f zero xs = refl
taken_map f (suc k) [] = refl
taken_map f (suc k) (x ∷ xs) = ap (λ l. f x ∷ l) (taken_map f k xs)

start_value : (p : Shape) (b : ℕ) → memory p b ≡ get_or p.starts b 0
unfolding value
start_value p b = value_start p b

pub values_are : ValuesAreBytes
unfolding value
values_are plan cpus start stands holds k site j has =
    let sites : List LiveSite = plan.sites.items in
    let p : Shape = shape_of plan cpus in
    let ws : List Write = writes_of plan in
    let a : ℕ = (site_of plan site).at + j in
    let s : IsSited sites a = record { site = site; offset = j; listed = has.listed; inside = has.byte; there = refl } in
    let number : place sites a ≡ byte_number plan site j = number_of sites a s stands.apart stands.spelt in
    let cut_short : take k (map write_of (map (placed sites) ws)) ≡ map write_of (map (placed sites) (take k ws)) = taken_map write_of k (map (placed sites) ws) ∙ ap (λ (l : List PlacedWrite). map write_of l) (taken_map (placed sites) k ws) in
    let agree : Agree sites start (memory p) = λ b t.
    ap start (sym t.there)
    ∙ holds t.site t.offset (record { listed = t.listed; byte = t.inside })
    ∙ sym (start_at sites t.site t.offset stands.spelt t.listed t.inside)
    ∙ sym (start_value p (length (starts (take t.site sites)) + t.offset))
    ∙ ap (memory p) (sym (number_of sites b t stands.apart stands.spelt)) in
    let each : (w : Write) → Has (take k ws) w → IsSited sites w.at = λ w h. (all_fine plan stands w (has_take k ws w h)).sited in
    ap (λ (l : List Write). written l (memory p) (byte_number plan site j)) cut_short
    ∙ ap (written (map write_of (map (placed sites) (take k ws))) (memory p)) (sym number)
    ∙ sym (agree_written sites (take k ws) start (memory p) stands.apart stands.spelt each agree a s)

-- a text that holds the forms with which a plan's sites start
abbrev pub start_text : LivePlan → Memory
start_text plan a = memory (shape_of plan 0) (place plan.sites.items a)

pub holds_starts : (plan : LivePlan) → Stands plan → HoldsStarts (start_text plan) plan
holds_starts plan stands site j has =
    let sites : List LiveSite = plan.sites.items in
    let a : ℕ = (site_of plan site).at + j in
    let s : IsSited sites a = record { site = site; offset = j; listed = has.listed; inside = has.byte; there = refl } in
    ap (memory (shape_of plan 0)) (number_of sites a s stands.apart stands.spelt)
    ∙ start_value (shape_of plan 0) (length (starts (take site sites)) + j)
    ∙ start_at sites site j stands.spelt has.listed has.byte
