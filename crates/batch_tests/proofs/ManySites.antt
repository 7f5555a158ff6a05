-- A row of sites, one after the other, can be poked.
use Rattle.std.proofs.Common.{◌≡◌, ◌+◌, ◌-◌, ◌*◌, ◌%◌, ◌==◌, ◌<◌, ◌≤◌, ℕ, Bool, true, false, nat_lt, if◌then◌else◌, List, [], ◌∷◌, ◌++◌, length, get_or, Option, Some, None, IsSome, refl, ap, sym, ◌∙◌, subst, arith, length-append}
use Rattle.std.proofs.Math.ListN.{get_or-append}
use Rattle.std.proofs.Math.Seq.{get_or-append_seam}
use Rattle.std.proofs.lemmas.Bool.{le-ltb, lt-ltb, ltb-false, ltb-true}
use Rattle.insn_forms.specs.declared.forms.Change.{Change}
use Rattle.insn_forms.specs.declared.forms.Form.TheVariants.{Nop5, Ret}
use Rattle.insn_forms.specs.Spelling.{size, spell}
use Rattle.poke_batch.specs.Clash.{CanPoke, IsPatchable}

-- a site of the row: a return that becomes a no-operation
abbrev pub site : ℕ → Change
site k = record { at = 0x401000 + 5 * k; old = Ret; new = Nop5 }

-- the first sites of the row
pub record AreSites (n : ℕ) (changes : List Change) : Type 0 where
  pub long : length changes ≡ n
  pub each : (k : ℕ) (d : Change) → k < n → get_or changes k d ≡ site k

-- one site more
site_more : (i : ℕ) (changes : List Change) (k : ℕ) (d : Change) (before : Bool) → nat_lt k i ≡ before → AreSites i changes → k < i + 1 → get_or (changes ++ site i ∷ []) k d ≡ site k
site_more i changes k d true is are lt =
    let below : k < i = ltb-true k i is in
    let long = are.long in
    get_or-append changes (site i ∷ []) d k (omega arith) ∙ are.each k d below
site_more i changes k d false is are lt =
    let end : i ≤ k = ltb-false k i is in
    let long = are.long in
    let last : k ≡ length changes = omega arith in
    let same : i ≡ k = omega arith in
    ap (λ j. get_or (changes ++ site i ∷ []) j d) last ∙ get_or-append_seam changes (site i) [] d ∙ ap site same

pub sites_more : (i : ℕ) (changes new : List Change) → AreSites i changes → new ≡ changes ++ site i ∷ [] → AreSites (i + 1) new
sites_more i changes new are is = record {
  long = ap length is ∙ (let long = are.long in omega (arith, length-append changes (site i ∷ [])));
  each = λ k d lt. ap (λ (xs : List Change). get_or xs k d) is ∙ site_more i changes k d (nat_lt k i) refl are lt;
}

-- the text that holds the returns
abbrev pub held_returns : ℕ → ℕ → Option ℕ
held_returns wrong_from at =
    if nat_lt at 0x401000 then None
    else if nat_lt (at - 0x401000) 1500 then Some (if (at - 0x401000) % 5 == 0 then (if nat_lt (at - 0x401000) wrong_from then 0xc3 else 0x90) else 0xcc)
    else None

-- it holds a byte at each of its places
held_returns-some : (wrong_from at : ℕ) → 0x401000 ≤ at → at < 0x401000 + 1500 → IsSome (held_returns wrong_from at)
held_returns-some wrong_from at above below =
    let not_before : nat_lt at 0x401000 ≡ false = le-ltb at 0x401000 above in
    let inside : nat_lt (at - 0x401000) 1500 ≡ true = lt-ltb (at - 0x401000) 1500 (omega arith) in
    rw (not_before, inside) refl

-- each site of the row can be patched
site_patchable : (wrong_from k : ℕ) → k < 300 → IsPatchable (held_returns wrong_from) (site k)
unfolding spell
site_patchable wrong_from k lt = record {
  one_size = refl;
  old_spelt = refl;
  new_spelt = refl;
  below = omega arith;
  inside = λ j within. held_returns-some wrong_from ((0x401000 + 5 * k) + j) (omega arith) (omega arith);
}

-- so the row can be poked
pub sites_can_poke : (wrong_from : ℕ) (changes : List Change) → AreSites 300 changes → CanPoke (held_returns wrong_from) changes
sites_can_poke wrong_from changes are = record {
  each =
      λ k d lt. let long = are.long in subst (IsPatchable (held_returns wrong_from)) (sym (are.each k d (omega arith))) (site_patchable wrong_from k (omega arith));
  apart =
      λ i j d less lt. let long = are.long in
      subst (λ (c : Change). c.at + size c.old ≤ (get_or changes j d).at) (sym (are.each i d (omega arith)))
      (subst (λ (c : Change). (0x401000 + 5 * i) + 5 ≤ c.at) (sym (are.each j d (omega arith))) (omega arith));
}
