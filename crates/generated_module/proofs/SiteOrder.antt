-- Sites by their addresses: those of jumps, of calls and of traces, each ascending, are those of the blocks in order.
use Rattle.std.proofs.Common.{◌≡◌, ◌<◌, ◌≤◌, ◌+◌, ◌∙◌, ◌++◌, nat_le, ℕ, zero, suc, Bool, true, false, if◌then◌else◌, List, [], ◌∷◌, map, refl, sym, ap, arith, append_assoc}
use Rattle.std.specs.List.{AllByRecursion as Each}
use Rattle.std.proofs.lemmas.Bool.{le-leb, leb-true}
use Rattle.elf_build.specs.declared.generation.Block.{Block}
use Rattle.elf_build.specs.declared.generation.Block.TheVariants.{FarSwitch, NearSwitch, Call as CallBlock, Trace as TraceBlock, TailCall}
use Rattle.elf_build.specs.Generated.{block_len, block_of}
use Rattle.module_parts.specs.declared.entry.Entry.{Entry}
use Rattle.module_parts.specs.declared.site.Site.{Site}
use Rattle.module_image.specs.Sites.{ascending, insert_site, site_of}
use Rattle.generated_module.proofs.Each.{each-append, each-map, each-more}
use Rattle.generated_module.proofs.EntryLists.{block_calls, block_entry, block_jumps, block_traces, call-table, calls_from, each-after, entries_from, jump-table, jumps_from, trace-table, traces_from}

-- what holds of each site holds of each when they are sorted
each-put : (P : Site → Type 0) (s : Site) (ss : List Site) → P s → Each P ss → Each P (insert_site s ss)
each-put P s [] has all = (has, tt)
each-put P s (x ∷ xs) has all = by (each-put P s xs has all.1) (nat_le s.at x.at)
  where
    by : Each P (insert_site s xs) → (test : Bool) → Each P (if test then s ∷ x ∷ xs else x ∷ insert_site s xs)
    by rest true = (has, all)
    by rest false = (all.0, rest)

each-ascending : (P : Site → Type 0) (ss : List Site) → Each P ss → Each P (ascending ss)
each-ascending P [] all = tt
each-ascending P (s ∷ ss) all = each-put P s (ascending ss) all.0 (each-ascending P ss all.1)

-- a site that begins before all others, and one that doesn't
put-first : (x : Site) (ss : List Site) → Each (λ (s : Site). x.at ≤ s.at) ss → insert_site x ss ≡ x ∷ ss
put-first x [] all = refl
put-first x (s ∷ ss) all = ap (λ (test : Bool). if test then x ∷ s ∷ ss else s ∷ insert_site x ss) (le-leb x.at s.at all.0)

put-past : (s x : Site) (ss : List Site) → x.at < s.at → insert_site s (x ∷ ss) ≡ x ∷ insert_site s ss
put-past s x ss before = by (nat_le s.at x.at) refl
  where
    by : (test : Bool) → nat_le s.at x.at ≡ test → (if test then s ∷ x ∷ ss else x ∷ insert_site s ss) ≡ x ∷ insert_site s ss
    by true is = (let le = leb-true s.at x.at is in absurd (omega (arith, le, before)))
    by false is = refl

-- the first of all, among others
first-of : (x : Site) (front rest : List Site) → Each (λ (s : Site). x.at < s.at) front → Each (λ (s : Site). x.at ≤ s.at) rest → ascending (front ++ x ∷ rest) ≡ x ∷ ascending (front ++ rest)
first-of x [] rest front_all rest_all = put-first x (ascending rest) (each-ascending (λ (s : Site). x.at ≤ s.at) rest rest_all)
first-of x (s ∷ front) rest front_all rest_all =
    ap (insert_site s) (first-of x front rest front_all.1 rest_all) ∙ put-past s x (ascending (front ++ rest)) front_all.0

-- the sites of entries
module _ (base : ℕ) (text jumps calls : List ℕ) where
  abbrev made : Entry → Site
  made e = site_of base text jumps calls e

  -- those of entries that come later
  later-sites : (low : ℕ) (x : Site) → x.at < low → (es : List Entry) → Each (λ (e : Entry). low ≤ e.at) es → Each (λ (s : Site). x.at < s.at) (map made es)
  later-sites low x before es all = each-map (λ (s : Site). x.at < s.at) made es (each-more (λ (e : Entry). low ≤ e.at) (λ (e : Entry). x.at < e.at) es (λ e le. omega (arith, le, before)) all)

  weaker : (x : Site) (ss : List Site) → Each (λ (s : Site). x.at < s.at) ss → Each (λ (s : Site). x.at ≤ s.at) ss
  weaker x ss all = each-more (λ (s : Site). x.at < s.at) (λ (s : Site). x.at ≤ s.at) ss (λ s lt. omega (arith, lt)) all

  step : (b : Block) (i at : ℕ) (js cs ts : List Entry) → Each (λ (e : Entry). at + block_len b ≤ e.at) js → Each (λ (e : Entry). at + block_len b ≤ e.at) cs → Each (λ (e : Entry). at + block_len b ≤ e.at) ts → ascending (map made (block_jumps b i at ++ js) ++ (map made (block_calls b i at ++ cs) ++ map made (block_traces b i at ++ ts))) ≡ made (block_entry b i at) ∷ ascending (map made js ++ (map made cs ++ map made ts))
  step FarSwitch i at js cs ts j c t =
      let x = made (block_entry FarSwitch i at) in
      let low : x.at < at + 7 = omega arith in
      let P : Site → Type 0 = λ (s : Site). x.at < s.at in
      let rest = each-append P (map made js) (map made cs ++ map made ts) (later-sites (at + 7) x low js j) (each-append P (map made cs) (map made ts) (later-sites (at + 7) x low cs c) (later-sites (at + 7) x low ts t)) in
      first-of x [] (map made js ++ (map made cs ++ map made ts)) tt (weaker x (map made js ++ (map made cs ++ map made ts)) rest)
  step NearSwitch i at js cs ts j c t =
      let x = made (block_entry NearSwitch i at) in
      let low : x.at < at + 4 = omega arith in
      let P : Site → Type 0 = λ (s : Site). x.at < s.at in
      let rest = each-append P (map made js) (map made cs ++ map made ts) (later-sites (at + 4) x low js j) (each-append P (map made cs) (map made ts) (later-sites (at + 4) x low cs c) (later-sites (at + 4) x low ts t)) in
      first-of x [] (map made js ++ (map made cs ++ map made ts)) tt (weaker x (map made js ++ (map made cs ++ map made ts)) rest)
  step CallBlock i at js cs ts j c t =
      let x = made (block_entry CallBlock i at) in
      let low : x.at < at + 5 = omega arith in
      let P : Site → Type 0 = λ (s : Site). x.at < s.at in
      let rest = each-append P (map made cs) (map made ts) (later-sites (at + 5) x low cs c) (later-sites (at + 5) x low ts t) in
      first-of x (map made js) (map made cs ++ map made ts) (later-sites (at + 5) x low js j) (weaker x (map made cs ++ map made ts) rest)
  step TraceBlock i at js cs ts j c t =
      let x = made (block_entry TraceBlock i at) in
      let low : x.at < at + 5 = omega arith in
      let P : Site → Type 0 = λ (s : Site). x.at < s.at in
      let front = each-append P (map made js) (map made cs) (later-sites (at + 5) x low js j) (later-sites (at + 5) x low cs c) in
      ap ascending (sym (append_assoc (map made js) (map made cs) (x ∷ map made ts)))
      ∙ first-of x (map made js ++ map made cs) (map made ts) front (weaker x (map made ts) (later-sites (at + 5) x low ts t))
      ∙ ap (λ (ss : List Site). x ∷ ascending ss) (append_assoc (map made js) (map made cs) (map made ts))
  step TailCall i at js cs ts j c t =
      let x = made (block_entry TailCall i at) in
      let low : x.at < at + 12 = omega arith in
      let P : Site → Type 0 = λ (s : Site). x.at < s.at in
      let rest = each-append P (map made cs) (map made ts) (later-sites (at + 12) x low cs c) (later-sites (at + 12) x low ts t) in
      first-of x (map made js) (map made cs ++ map made ts) (later-sites (at + 12) x low js j) (weaker x (map made cs ++ map made ts) rest)

  -- the sites of the three tables, sorted, are those of the blocks
  pub in-order : (left i at : ℕ) → ascending (map made (jumps_from left i at) ++ (map made (calls_from left i at) ++ map made (traces_from left i at))) ≡ map made (entries_from left i at)
  in-order zero i at = refl
  in-order (suc left) i at =
      let b = block_of i in
      let later = at + block_len b in
      step b i at (jumps_from left (i + 1) later) (calls_from left (i + 1) later) (traces_from left (i + 1) later)
      (each-after block_jumps jump-table left (i + 1) later later (omega arith)) (each-after block_calls call-table left (i + 1) later later (omega arith)) (each-after block_traces trace-table left (i + 1) later later (omega arith))
      ∙ ap (λ (ss : List Site). made (block_entry b i at) ∷ ss) (in-order left (i + 1) later)
