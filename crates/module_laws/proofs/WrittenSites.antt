-- What early writing leaves as it was, and what it writes.
use Rattle.std.proofs.Common.{◌≡◌, ◌∙◌, ◌≤◌, ◌⊎◌, inl, inr, ℕ, zero, suc, ◌+◌, ◌-◌, Bool, true, false, cond, List, [], ◌∷◌, length, Option, Some, slice_get, refl, sym, ap, subst, arith}
use Rattle.std.specs.Option.{unwrap_or}
use Rattle.std.proofs.lemmas.Option.{same_Some, none-some}
use Rattle.insn_forms.specs.Spelling.{size, spell}
use Rattle.insn_forms.proofs.Spellings.{length-spell}
use Rattle.module_parts.specs.declared.site.Site.{Site}
use Rattle.module_image.specs.Early.{HasCallLen, HaveCallLens}
use Rattle.module_image.specs.Sites.{code_at, early_form, form_code, put_at, site_written, written}
use Rattle.module_image.specs.Text.{AreApart, AreInside, IsInside}
use Rattle.module_image.specs.Wants.{state_of}
use Rattle.module_laws.proofs.Spliced.{at_put, beside_put}
use Rattle.module_image.proofs.TextLength.{code_most, length_site}
use Rattle.module_image.proofs.WantedForms.{size_wanted}

-- a site's code has at most as many bytes as the site
early_length : (states : List ℕ) (s : Site) → (s.len ≡ 2) ⊎ (s.len ≡ 5) → HasCallLen s.len s.kind → length (form_code (early_form states s) s.at) ≤ s.len
early_length states s two_or_five five =
    let most = code_most (early_form states s) s.at in
    let same : size (early_form states s) ≡ s.len = size_wanted 0 (state_of states s.kind) false s.len s.kind two_or_five five in
    omega (arith, most, same)

-- a site has none of the bytes at an address
abbrev pub IsOff : ℕ → ℕ → Site → Type 0
IsOff at len s = (at + len ≤ s.at) ⊎ (s.at + s.len ≤ at)

off_offset : (base at len from many more : ℕ) → base ≤ at → base ≤ from → more ≤ many → (at + len ≤ from) ⊎ (from + many ≤ at) → ((at - base) + len ≤ from - base) ⊎ ((from - base) + more ≤ at - base)
off_offset base at len from many more low low' le (inl before) = inl (omega (arith, low, low', before))
off_offset base at len from many more low low' le (inr after) = inr (omega (arith, low, low', le, after))

-- writing a site leaves bytes that aren't its own
site_kept : (base : ℕ) (states : List ℕ) (s : Site) (text : List ℕ) (at len : ℕ) → IsInside base (length text) s → HasCallLen s.len s.kind → base ≤ at → (s.foreign ≡ false → IsOff at len s) → code_at base (site_written base states s text) at len ≡ code_at base text at len
site_kept base states s text at len inside five low off = by s.foreign refl
  where
    by : (foreign : Bool) → s.foreign ≡ foreign → code_at base (cond foreign text (put_at text (s.at - base) (form_code (early_form states s) s.at))) at len ≡ code_at base text at len
    by true is = refl
    by false is =
        let from = inside.from in
        let to = inside.to in
        let most = early_length states s inside.two_or_five five in
        beside_put text (form_code (early_form states s) s.at) (s.at - base) (at - base) len (omega (arith, from, to))
        (off_offset base at len s.at s.len (length (form_code (early_form states s) s.at)) low from most (off is))

-- a site that isn't foreign holds its form's code then, where it has one
site_holds : (base : ℕ) (states : List ℕ) (s : Site) (text code : List ℕ) → IsInside base (length text) s → HasCallLen s.len s.kind → s.foreign ≡ false → spell (early_form states s) s.at ≡ Some code → code_at base (site_written base states s text) s.at s.len ≡ code
site_holds base states s text code inside five own spelt =
    let from = inside.from in
    let to = inside.to in
    let same : form_code (early_form states s) s.at ≡ code = ap (λ (o : Option (List ℕ)). unwrap_or o []) spelt in
    let long : length code ≡ s.len = length-spell (early_form states s) s.at code spelt ∙ size_wanted 0 (state_of states s.kind) false s.len s.kind inside.two_or_five five in
    ap (λ (foreign : Bool). code_at base (cond foreign text (put_at text (s.at - base) (form_code (early_form states s) s.at))) s.at s.len) own
    ∙ ap (λ (bytes : List ℕ). code_at base (put_at text (s.at - base) bytes) s.at s.len) same
    ∙ at_put text code (s.at - base) s.len (omega (arith, from, to)) long

-- what holds of a text's sites holds when one is written
still_inside : (base size : ℕ) (states : List ℕ) (s : Site) (ss : List Site) (text : List ℕ) → length text ≡ size → AreInside base size (s ∷ ss) → HaveCallLens (s ∷ ss) → length (site_written base states s text) ≡ size
still_inside base size states s ss text same inside fives =
    length_site base states s text (subst (λ (n : ℕ). IsInside base n s) (sym same) (inside 0 s refl)) (fives 0 s refl) ∙ same

-- writing sites leaves bytes that none of them has
pub sites_kept : (base size : ℕ) (states : List ℕ) (ss : List Site) (text : List ℕ) (at len : ℕ) → length text ≡ size → AreInside base size ss → HaveCallLens ss → base ≤ at → ((i : ℕ) (s : Site) → slice_get ss i ≡ Some s → s.foreign ≡ false → IsOff at len s) → code_at base (written base states ss text) at len ≡ code_at base text at len
sites_kept base size states [] text at len same inside fives low off = refl
sites_kept base size states (s ∷ ss) text at len same inside fives low off =
    sites_kept base size states ss (site_written base states s text) at len (still_inside base size states s ss text same inside fives)
    (λ i u get. inside (suc i) u get) (λ i u get. fives (suc i) u get) low (λ i u get own. off (suc i) u get own)
    ∙ site_kept base states s text at len (subst (λ (n : ℕ). IsInside base n s) (sym same) (inside 0 s refl)) (fives 0 s refl) low (off 0 s refl)

-- sites that are apart hold their forms' codes when all are written
pub sites_hold : (base size : ℕ) (states : List ℕ) (ss : List Site) (text : List ℕ) (i : ℕ) (s : Site) (code : List ℕ) → length text ≡ size → AreInside base size ss → HaveCallLens ss → AreApart ss → slice_get ss i ≡ Some s → s.foreign ≡ false → spell (early_form states s) s.at ≡ Some code → code_at base (written base states ss text) s.at s.len ≡ code
sites_hold base size states [] text i s code same inside fives apart get own spelt = absurd (none-some s get)
sites_hold base size states (x ∷ xs) text zero s code same inside fives apart get own spelt =
    let first : x ≡ s = same_Some x s get in
    let within : IsInside base size s = inside 0 s get in
    let rest : length (site_written base states x text) ≡ size = still_inside base size states x xs text same inside fives in
    sites_kept base size states xs (site_written base states x text) s.at s.len rest (λ j u get. inside (suc j) u get) (λ j u get. fives (suc j) u get)
    within.from (λ j u there foreign. inl (apart 0 (suc j) s u (omega arith) get there))
    ∙ ap (λ (y : Site). code_at base (site_written base states y text) s.at s.len) first
    ∙ site_holds base states s text code (subst (λ (n : ℕ). IsInside base n s) (sym same) within) (fives 0 s get) own spelt
sites_hold base size states (x ∷ xs) text (suc i) s code same inside fives apart get own spelt =
    sites_hold base size states xs (site_written base states x text) i s code (still_inside base size states x xs text same inside fives)
    (λ j u here. inside (suc j) u here) (λ j u here. fives (suc j) u here)
    (λ j k u v lt first second. apart (suc j) (suc k) u v (omega (arith, lt)) first second) get own spelt
