-- The numbers of a plan that stands keep what the rule asks of them.
use Rattle.std.proofs.Common.{◌≡◌, inl, inr, ℕ, zero, suc, ◌+◌, ◌<◌, ◌≤◌, List, [], ◌∷◌, ◌++◌, length, map, take, get_or, refl, ap, sym, ◌∙◌, subst, arith, All, Option, Some, None}
use Rattle.std.specs.Prelude.{unwrap_or}
use Rattle.std.specs.List.{Contains}
use Rattle.std.proofs.lemmas.List.{length-append, length-map}
use Rattle.std.proofs.lemmas.List.Elements.{All-append}
use Rattle.insn_forms.specs.declared.forms.Form.{Form}
use Rattle.insn_forms.specs.declared.forms.Change.{Change}
use Rattle.insn_forms.specs.Spelling.{spell, size}
use Rattle.insn_forms.specs.Write.{Write}
use Rattle.insn_forms.specs.History.{Memory, put, written}
use Rattle.insn_forms.proofs.Spellings.{spell-bytes}
use Rattle.poke_batch.specs.Poke.{spelled, traps, tails, firsts}
use Rattle.poke_batch.specs.Underway.{AreApart}
use Rattle.live_text.specs.declared.plan.LivePlan.{LivePlan}
use Rattle.live_text.specs.declared.plan.LiveSite.{LiveSite}
use Rattle.live_text.specs.declared.view.Shape.{Shape}
use Rattle.live_text.specs.Plan.{chunks_of, SitesApart, IsChange, IsChunk, Stands}
use Rattle.live_text.specs.Flat.{starts, place, placed, rounds, joined, ends, shape_of}
use Rattle.live_text.specs.Past.{memory, history, write_of, value, cut, IsShape}
use Rattle.live_text.specs.Table.{byte_after}
use Rattle.live_text.proofs.Writes.{Has, has_from, has_contains, has_cases, has_take, put_cases}
use Rattle.live_text.proofs.Values.{no_write, value_start}
use Rattle.live_text.proofs.Rounds.{round, IsSpellable, IsPoked, IsOf, round_of}
use Rattle.live_text.proofs.Standing.{IsNumbered, IsSited, sited, first_apart, rest_apart, change_size, change_numbered, change_in, chunk_at}

-- a cut is the number of writes before it
cut_from : (n : ℕ) (lists : List (List Write)) (r : ℕ) → get_or (ends n lists) r (n + length (joined lists)) ≡ n + length (joined (take r lists))
cut_from n [] zero = omega arith
cut_from n [] (suc r) = refl
cut_from n (ws ∷ lists) zero = omega arith
cut_from n (ws ∷ lists) (suc r) =
    let all : length (ws ++ joined lists) ≡ length ws + length (joined lists) = length-append ws (joined lists) in
    let some : length (ws ++ joined (take r lists)) ≡ length ws + length (joined (take r lists)) = length-append ws (joined (take r lists)) in
    let past : n + length (ws ++ joined lists) ≡ (n + length ws) + length (joined lists) = omega arith in
    let here : (n + length ws) + length (joined (take r lists)) ≡ n + length (ws ++ joined (take r lists)) = omega arith in
    ap (λ (d : ℕ). get_or (ends (n + length ws) lists) r d) past ∙ cut_from (n + length ws) lists r ∙ here

pub cut_is : (plan : LivePlan) (cpus r : ℕ) → cut (shape_of plan cpus) r ≡ length (joined (take r (rounds (chunks_of plan))))
cut_is plan cpus r =
    let lists : List (List Write) = rounds (chunks_of plan) in
    let count : length (map (placed plan.sites.items) (joined lists)) ≡ length (joined lists) = length-map (joined lists) (placed plan.sites.items) in
    let all : length (map (placed plan.sites.items) (joined lists)) ≡ 0 + length (joined lists) = omega arith in
    let is : get_or (ends 0 lists) r (0 + length (joined lists)) ≡ 0 + length (joined (take r lists)) = cut_from 0 lists r in
    ap (λ (d : ℕ). get_or (ends 0 lists) r d) all ∙ is ∙ (omega arith)

joined_order : (lists : List (List Write)) (r q : ℕ) → r ≤ q → length (joined (take r lists)) ≤ length (joined (take q lists))
joined_order lists zero q le = omega arith
joined_order lists (suc r) zero le = absurd (omega arith)
joined_order [] (suc r) (suc q) le = omega arith
joined_order (ws ∷ lists) (suc r) (suc q) le =
    let rest : length (joined (take r lists)) ≤ length (joined (take q lists)) = joined_order lists r q (omega arith) in
    let a : length (ws ++ joined (take r lists)) ≡ length ws + length (joined (take r lists)) = length-append ws (joined (take r lists)) in
    let b : length (ws ++ joined (take q lists)) ≡ length ws + length (joined (take q lists)) = length-append ws (joined (take q lists)) in
    omega arith

joined_most : (lists : List (List Write)) (r : ℕ) → length (joined (take r lists)) ≤ length (joined lists)
joined_most lists zero = omega arith
joined_most [] (suc r) = omega arith
joined_most (ws ∷ lists) (suc r) =
    let rest : length (joined (take r lists)) ≤ length (joined lists) = joined_most lists r in
    let a : length (ws ++ joined (take r lists)) ≡ length ws + length (joined (take r lists)) = length-append ws (joined (take r lists)) in
    let b : length (ws ++ joined lists) ≡ length ws + length (joined lists) = length-append ws (joined lists) in
    omega arith

pub some_ends : (n : ℕ) (lists : List (List Write)) → 0 < length (ends n lists)
some_ends n [] = omega arith
some_ends n (ws ∷ lists) = omega arith

-- of two sites the lower ends before the other begins
ordered_sites : (sites : List LiveSite) (s t : LiveSite) → SitesApart sites → Has sites s → Has sites t → s.at < t.at → s.at + size s.start ≤ t.at
ordered_sites [] s t apart h g lt = elim h [ ]
ordered_sites (u ∷ sites) s t apart (inl a) (inl b) lt =
    let same : s.at ≡ t.at = ap (λ (z : LiveSite). z.at) (sym a ∙ b) in
    absurd (omega arith)
ordered_sites (u ∷ sites) s t apart (inl a) (inr g) lt =
    let c : Contains sites t = has_contains sites t g in
    subst (λ (z : LiveSite × LiveSite). z.0.at + size z.0.start ≤ z.1.at) (λ k. (a k, c.2 k)) (first_apart u sites c.0 t apart c.1)
ordered_sites (u ∷ sites) s t apart (inr h) (inl b) lt =
    let c : Contains sites s = has_contains sites s h in
    let order : t.at + size t.start ≤ s.at = subst (λ (z : LiveSite × LiveSite). z.0.at + size z.0.start ≤ z.1.at) (λ k. (b k, c.2 k)) (first_apart u sites c.0 s apart c.1) in
    absurd (omega arith)
ordered_sites (u ∷ sites) s t apart (inr h) (inr g) lt = ordered_sites sites s t (rest_apart u sites apart) h g lt

-- a chunk of a plan that stands
pub chunk_poked : (plan : LivePlan) (j : ℕ) → Stands plan → j < length (chunks_of plan) → IsPoked (get_or (chunks_of plan) j [])
chunk_poked plan j stands below = record { each = each; apart = apart }
  where
    chunk : List Change
    chunk = get_or (chunks_of plan) j []

    is : IsChunk plan.sites.items (take j (chunks_of plan)) chunk
    is = chunk_at plan j [] stands below

    each : All IsSpellable chunk
    each i d small =
        let c : IsChange plan.sites.items (take j (chunks_of plan)) (get_or chunk i d) = is.changes i d small in
        record { one_size = c.one_size; old_spelt = c.old_spelt; new_spelt = c.new_spelt }

    apart : AreApart chunk
    apart i k d lt small =
        let c : IsChange plan.sites.items (take j (chunks_of plan)) (get_or chunk i d) = is.changes i d (omega arith) in
        let e : IsChange plan.sites.items (take j (chunks_of plan)) (get_or chunk k d) = is.changes k d small in
        let order : (get_or chunk i d).at < (get_or chunk k d).at = is.ascend i k d lt small in
        let size_is : size (get_or chunk i d).old ≡ size c.site.start = change_size plan.sites.items (chunks_of plan) j (get_or chunk i d) c stands.apart stands.chunks (omega arith) in
        let at_c : c.site.at ≡ (get_or chunk i d).at = c.there in
        let at_e : e.site.at ≡ (get_or chunk k d).at = e.there in
        let between : c.site.at + size c.site.start ≤ e.site.at = ordered_sites plan.sites.items c.site e.site stands.apart (has_from plan.sites.items c.site c.listed) (has_from plan.sites.items e.site e.listed) (omega arith) in
        omega arith

-- each write of a chunk's round is to a byte of the sites, and is of a byte
pub record IsFine (sites : List LiveSite) (w : Write) : Type 0 where
  pub place : place sites w.at < length (starts sites)
  pub byte : w.byte < 256
  pub sited : IsSited sites w.at

byte_inside : (bytes : List ℕ) (i : ℕ) → All (λ byte. byte < 256) bytes → get_or bytes i 0 < 256
byte_inside [] i all = omega arith
byte_inside (b ∷ bytes) zero all = all 0 0 (omega arith)
byte_inside (b ∷ bytes) (suc i) all = byte_inside bytes i (λ k d below. all (suc k) d (omega arith))

spelled_all : (form : Form) (at : ℕ) → All (λ byte. byte < 256) (spelled form at)
spelled_all form at = go (spell form at) refl
  where
    go : (o : Option (List ℕ)) → spell form at ≡ o → All (λ byte. byte < 256) (unwrap_or o [])
    go None is = λ k d below. absurd (omega arith)
    go (Some code) is = spell-bytes form at code is

spelled_byte : (form : Form) (at j : ℕ) → get_or (spelled form at) j 0 < 256
spelled_byte form at j = byte_inside (spelled form at) j (spelled_all form at)

pub starts_bytes : (sites : List LiveSite) → All (λ byte. byte < 256) (starts sites)
starts_bytes [] = λ k d below. absurd (omega arith)
starts_bytes (s ∷ sites) =
    All-append (λ byte. byte < 256) (spelled s.start s.at) (starts sites) (spelled_all s.start s.at) (starts_bytes sites)

round_byte : (n : ℕ) (c : Change) (j : ℕ) → byte_after n c j < 256
round_byte zero c j = spelled_byte c.old c.at j
round_byte (suc zero) c zero = omega arith
round_byte (suc zero) c (suc j) = spelled_byte c.old c.at (suc j)
round_byte (suc (suc zero)) c zero = omega arith
round_byte (suc (suc zero)) c (suc j) = spelled_byte c.new c.at (suc j)
round_byte (suc (suc (suc n))) c j = spelled_byte c.new c.at j

fine : (plan : LivePlan) (j r : ℕ) (w : Write) → Stands plan → j < length (chunks_of plan) → Has (round r (get_or (chunks_of plan) j [])) w → IsFine plan.sites.items w
fine plan j r w stands below has =
    let chunk : List Change = get_or (chunks_of plan) j [] in
    let of : IsOf r chunk w = round_of r chunk w (chunk_poked plan j stands below) has in
    let is : IsChange plan.sites.items (take j (chunks_of plan)) of.change = change_in plan.sites.items (take j (chunks_of plan)) chunk of.change (chunk_at plan j [] stands below) of.has in
    let n : IsNumbered plan.sites.items of.change = change_numbered plan.sites.items (chunks_of plan) j of.change stands.apart stands.spelt stands.chunks (omega arith) is in
    let at : place plan.sites.items w.at ≡ n.first + of.place = ap (place plan.sites.items) of.at ∙ n.row of.place of.below in
    let inside : of.place < size of.change.old = of.below in
    let most : n.first + size of.change.old ≤ length (starts plan.sites.items) = n.below in
    record {
      place = omega arith;
      byte = subst (λ (b : ℕ). b < 256) (sym of.byte) (round_byte (suc r) of.change of.place);
      sited = sited plan.sites.items of.change is.site of.place w.at is.listed is.there (change_size plan.sites.items (chunks_of plan) j of.change is stands.apart stands.chunks (omega arith)) of.below of.at;
    }

-- what holds of the writes of each round holds of all writes
joined_each : (P : Write → Type 0) (chunks : List (List Change)) → ((j r : ℕ) (w : Write) → j < length chunks → Has (round r (get_or chunks j [])) w → P w) → (w : Write) → Has (joined (rounds chunks)) w → P w
joined_each P [] each w has = elim has [ ]
joined_each P (c ∷ chunks) each w has =
    elim (has_cases (traps c) (tails c ++ (firsts c ++ joined (rounds chunks))) w has) [
      | inl first ↦ each 0 0 w (omega arith) first
      | inr more ↦ elim (has_cases (tails c) (firsts c ++ joined (rounds chunks)) w more) [
        | inl second ↦ each 0 1 w (omega arith) second
        | inr last ↦ elim (has_cases (firsts c) (joined (rounds chunks)) w last) [
          | inl third ↦ each 0 2 w (omega arith) third
          | inr later ↦ joined_each P chunks (λ j r v below h. each (suc j) r v (omega arith) h) w later
        ]
      ]
    ]

pub all_fine : (plan : LivePlan) → Stands plan → (w : Write) → Has (joined (rounds (chunks_of plan))) w → IsFine plan.sites.items w
all_fine plan stands =
    joined_each (IsFine plan.sites.items) (chunks_of plan) (λ j r w below has. fine plan j r w stands below has)

placed_inside : (sites : List LiveSite) (ws : List Write) (n : ℕ) → ((w : Write) → Has ws w → IsFine sites w) → (k : ℕ) → k < length ws → (get_or (map (placed sites) ws) k no_write).place < length (starts sites)
placed_inside sites [] n each k below = absurd (omega arith)
placed_inside sites (w ∷ ws) n each zero below = (each w (inl refl)).place
placed_inside sites (w ∷ ws) n each (suc k) below =
    placed_inside sites ws n (λ v h. each v (inr h)) k (omega arith)

history_small : (sites : List LiveSite) (ws : List Write) → ((w : Write) → Has ws w → IsFine sites w) → (w : Write) → Has (map write_of (map (placed sites) ws)) w → w.byte < 256
history_small sites [] each w has = elim has [ ]
history_small sites (v ∷ ws) each w (inl is) =
    subst (λ (u : Write). u.byte < 256) is (each v (inl refl)).byte
history_small sites (v ∷ ws) each w (inr later) = history_small sites ws (λ u h. each u (inr h)) w later

written_small : (ws : List Write) (m : Memory) (b : ℕ) → ((a : ℕ) → m a < 256) → ((w : Write) → Has ws w → w.byte < 256) → written ws m b < 256
written_small [] m b start each = start b
written_small (w ∷ ws) m b start each =
    written_small ws (put w m) b (λ a. one a) (λ v h. each v (inr h))
  where
    one : (a : ℕ) → put w m a < 256
    one a =
        elim (put_cases w m a) [
          | inl here ↦ subst (λ (k : ℕ). k < 256) (sym here.1) (each w (inl refl))
          | inr kept ↦ subst (λ (k : ℕ). k < 256) (sym kept) (start a)
        ]

value_small : (plan : LivePlan) (cpus k b : ℕ) → Stands plan → value (shape_of plan cpus) k b < 256
unfolding value
value_small plan cpus k b stands =
    let p : Shape = shape_of plan cpus in
    written_small (take k (history p)) (memory p) b
    (λ a. subst (λ (n : ℕ). n < 256) (sym (value_start p a)) (byte_inside (starts plan.sites.items) a (starts_bytes plan.sites.items)))
    (λ w h.
    history_small plan.sites.items (joined (rounds (chunks_of plan))) (all_fine plan stands) w (has_take k (history p) w h))

pub shapes : (plan : LivePlan) (cpus : ℕ) → Stands plan → IsShape (shape_of plan cpus)
shapes plan cpus stands =
    let p : Shape = shape_of plan cpus in
    let lists : List (List Write) = rounds (chunks_of plan) in
    let count : length p.writes ≡ length (joined lists) = length-map (joined lists) (placed plan.sites.items) in
    record {
      inside = λ k below.
          placed_inside plan.sites.items (joined lists) 0 (all_fine plan stands) k (subst (λ (n : ℕ). k < n) count below);
      ordered = λ r q le.
          subst (λ (z : ℕ × ℕ). z.0 ≤ z.1) (λ i. (sym (cut_is plan cpus r) i, sym (cut_is plan cpus q) i)) (joined_order lists r q le);
      within = λ r.
          subst (λ (z : ℕ × ℕ). z.0 ≤ z.1) (λ i. (sym (cut_is plan cpus r) i, sym count i)) (joined_most lists r);
      begins = cut_is plan cpus 0;
      small = λ k b. value_small plan cpus k b stands;
    }
