-- The plan of a test stands.
use Rattle.std.proofs.Common.{◌≡◌, ℕ, zero, suc, ◌<◌, ◌^◌, true, false, List, [], ◌∷◌, length, get_or, slice_get, take, refl, ap, sym, subst, arith, All, IsSome, Some}
use Rattle.std.specs.Prelude.{is_none, ◌||◌, Bool, MatchBool}
use Rattle.std.proofs.lemmas.Option.{same_Some}
use Rattle.insn_forms.specs.declared.forms.Form.TheVariants.{Nop2}
use Rattle.insn_forms.specs.declared.forms.Change.{Change}
use Rattle.insn_forms.specs.Spelling.{spell, size}
use Rattle.live_text.specs.declared.plan.LivePlan.{LivePlan}
use Rattle.live_text.specs.declared.plan.LiveSite.{LiveSite}
use Rattle.live_text.specs.declared.view.View.{View}
use Rattle.live_text.specs.Plan.{SitesApart, IsChange, IsChunk, Stands}
use Rattle.live_text.specs.Own.{HasByte}
use Rattle.live_text.specs.Rule.{cached}
use Rattle.live_text.specs.Steps.{fetched}
use Rattle.live_text.specs.Calls.{Reads}
use Rattle.live_text_tests.specs.OneSite.{lone_site, lone_change, IsOneSite}

one_apart : SitesApart (lone_site ∷ [])
one_apart i j d lt below = absurd (omega arith)

one_spelt : All (λ (s : LiveSite). IsSome (spell s.start s.at)) (lone_site ∷ [])
unfolding spell
one_spelt zero d below = refl
one_spelt (suc i) d below = absurd (omega arith)

one_change : IsChange (lone_site ∷ []) [] lone_change
unfolding spell
one_change = record {
  site = lone_site;
  listed = (0, omega arith, refl);
  there = refl;
  old_is = refl;
  one_size = refl;
  old_spelt = refl;
  new_spelt = refl;
}

each_change : All (IsChange (lone_site ∷ []) []) (lone_change ∷ [])
each_change zero d below = one_change
each_change (suc i) d below = absurd (omega arith)

one_chunk : IsChunk (lone_site ∷ []) [] (lone_change ∷ [])
one_chunk = record {
  some = omega arith;
  most = omega arith;
  ascend = λ i j d lt below. absurd (omega arith);
  changes = each_change;
}

one_chunks : (j : ℕ) (chunk : List Change) → slice_get ((lone_change ∷ []) ∷ []) j ≡ Some chunk → IsChunk (lone_site ∷ []) (take j ((lone_change ∷ []) ∷ [])) chunk
one_chunks zero chunk e =
    subst (λ (c : List Change). IsChunk (lone_site ∷ []) [] c) (same_Some (lone_change ∷ []) chunk e) one_chunk
one_chunks (suc j) chunk e = absurd (cc)

pub one_stands : (plan : LivePlan) → IsOneSite plan → Stands plan
one_stands plan is = record {
  few_sites = subst (λ (s : List LiveSite). length s < 2 ^ 32) (sym is.sites) (omega arith);
  few_chunks = subst (λ (n : ℕ). n < 2 ^ 32) (sym is.count) (omega arith);
  apart = subst (λ (s : List LiveSite). SitesApart s) (sym is.sites) one_apart;
  spelt = subst (λ (sites : List LiveSite). All (λ (s : LiveSite). IsSome (spell s.start s.at)) sites) (sym is.sites) one_spelt;
  chunks = subst (λ (z : List LiveSite × List (List Change)). (j : ℕ) (chunk : List Change) → slice_get z.1 j ≡ Some chunk → IsChunk z.0 (take j z.1) chunk) (λ k. (sym is.sites k, sym is.chunks k)) one_chunks;
}

pub one_byte : (plan : LivePlan) (j : ℕ) → IsOneSite plan → j < 5 → HasByte plan 0 j
one_byte plan j is below = record {
  listed = subst (λ (s : List LiveSite). 0 < length s) (sym is.sites) (omega arith);
  byte = subst (λ (s : List LiveSite). j < size (get_or s 0 (record { at = 0; start = Nop2 })).start) (sym is.sites) below;
}

-- a byte that is read leaves what the processor has acknowledged
pub record Stays (v w : View) : Type 0 where
  pub left : w.cpu.left ≡ v.cpu.left
  pub ack : w.cpu.ack ≡ v.cpu.ack

pub read_stays : (fresh : Bool) (b : ℕ) (v w : View) (n : ℕ) → Reads fresh b v n w → Stays v w
read_stays fresh b v w n r = go (fresh || is_none (cached v.cpu b)) r
  where
    go : (t : Bool) → MatchBool t (w ≡ fetched b n v) ((w ≡ v) × (cached v.cpu b ≡ Some n)) → Stays v w
    go true is = record { left = ap (λ (u : View). u.cpu.left) is; ack = ap (λ (u : View). u.cpu.ack) is }
    go false is = record { left = ap (λ (u : View). u.cpu.left) is.0; ack = ap (λ (u : View). u.cpu.ack) is.0 }
