-- Each step of a processor's seat keeps the rule, and leaves the seat what it keeps between steps.
use Rattle.std.proofs.Common.{◌≡◌, ◌≢◌, ⊎_elim, ℕ, zero, suc, ◌+◌, ◌-◌, ◌^◌, ◌<◌, ◌≤◌, true, false, List, ◌∷◌, length, replicate, get_or, set, refl, ap, sym, ◌∙◌, subst, arith, max, length-set, get_or-set_same, get_or-set_other, Option, Some, None}
use mathlib.Core.Logic.{dite}
use mathlib.Core.Option.{none, some, some-injective}
use native.Mathlib.Decide.{ℕ_discrete, dec_le}
use lib.ListN.{get_elem?, length-replicate}
use lib.Seq.{set-get_or}
use Rattle.atomic_table.specs.Table.{step, keeps, Allows}
use Rattle.atomic_table.proofs.Lists.{at_set, set_here}
use Rattle.live_text.specs.declared.view.Shape.{Shape}
use Rattle.live_text.specs.declared.view.PatchView.{PatchView}
use Rattle.live_text.specs.declared.view.CpuView.{CpuView}
use Rattle.live_text.specs.declared.view.View.{View}
use Rattle.live_text.specs.declared.view.Role.TheVariants.{Patch, Cpu}
use Rattle.live_text.specs.Past.{value, cut, seek, Found, IsShape}
use Rattle.live_text.specs.Steps.{no_bytes, fetched, looked, acked, gone}
use Rattle.live_text.specs.Rule.{generation_word, ack_word, cached, Leads, Fits, Follows, Live}
use Rattle.live_text.specs.Seats.{Sits}
use Rattle.live_text.specs.Plays.{Fetched, Looked, Acked, Gone}
use Rattle.live_text.proofs.Values.{same_everywhere, IsSought, sought, found, found_longer}
use Rattle.live_text.proofs.PatchKeeps.{St, Seated, Homes, inside_list}

-- a seat of a processor's role is one after the first
pub record IsLater (p : Shape) (s : St) (l : Live p s) (id : ℕ) (v : View) : Type 0 where
  pub cpu : ℕ
  pub number : id ≡ suc cpu
  pub there : get_elem? l.others cpu ≡ some v

pub at_cpu : (p : Shape) (s : St) (l : Live p s) (id : ℕ) (v : View) → get_elem? s.views id ≡ some v → v.role ≡ Cpu → IsLater p s l id v
at_cpu p s l id v at role = go id (subst (λ (vs : List View). get_elem? vs id ≡ some v) l.views_are at)
  where
    go : (i : ℕ) → get_elem? (l.patch ∷ l.others) i ≡ some v → IsLater p s l i v
    go zero e =
        let is : Cpu ≡ Patch = sym role ∙ ap (λ (w : View). w.role) (sym (some-injective l.patch v e)) ∙ l.patch_role in
        absurd (cc)
    go (suc c) e = record { cpu = c; number = refl; there = e }

-- what a processor of this acknowledgement may see stored
near_ack : (p : Shape) (words : List ℕ) (x : PatchView) (c a : ℕ) → IsShape p → Leads p words x → c < p.cpus → get_or words (ack_word p c) 0 ≡ a → x.done ≤ cut p (a + 1)
near_ack p words x c a sound l small is =
    let bound : get_or x.bounds c 0 ≤ get_or words (ack_word p c) 0 = l.bound c small in
    let asked : x.stored ≤ get_or x.bounds c 0 + 1 = l.asked c small in
    let to : x.done ≤ cut p (x.stored + 1) = l.to in
    dite (dec_le x.stored a)
    (λ low. (let far : cut p (x.stored + 1) ≤ cut p (a + 1) = sound.ordered (x.stored + 1) (a + 1) (omega arith) in omega arith))
    (λ high.
    (let next : x.stored ≡ a + 1 = omega arith in
    let same : cut p x.stored ≡ cut p (a + 1) = ap (cut p) next in
    dite (dec_le x.done (cut p x.stored))
    (λ before. omega arith)
    (λ after. (let settled : x.stored ≤ get_or x.bounds c 0 = l.settled c small (omega arith) in absurd (omega arith)))))

-- so the rule gives what a seat keeps
pub sits : (p : Shape) (s : St) (l : Live p s) (c : ℕ) (v : View) → get_elem? l.others c ≡ some v → v.cpu.left ≡ false → Sits v
sits p s l c v at stays =
    let f : Follows p s.words l.patch.patch c v = l.follows c v at in
    let below : c < length l.others = inside_list l.others c v at in
    let few : length l.others ≤ p.cpus = l.few in
    let small : c < p.cpus = omega arith in
    let near : l.patch.patch.done ≤ cut p (v.cpu.ack + 1) = near_ack p s.words l.patch.patch c v.cpu.ack l.sound l.leads small f.fits.word_is in
    let place : v.cpu.known ≤ l.patch.patch.done = f.fits.place in
    let number : v.cpu.number ≡ c = f.fits.number in
    let near' : v.cpu.known ≤ cut p (v.cpu.ack + 1) = omega arith in
    let shape : p ≡ v.shape = sym f.shape in
    let far : cut p (v.cpu.ack + 1) ≤ length p.writes = l.sound.within (v.cpu.ack + 1) in
    let within : v.cpu.known ≤ length p.writes = omega arith in
    let greatest : v.cpu.greatest ≤ l.patch.patch.stored = f.fits.greatest in
    let requests : l.patch.patch.stored < length p.cuts = l.leads.requests in
    let stored : v.cpu.greatest < length p.cuts = omega arith in
    record {
      role = f.role;
      number = subst (λ (q : Shape). v.cpu.number < q.cpus) shape (omega arith);
      acked = f.fits.acked stays;
      stored = subst (λ (q : Shape). v.cpu.greatest < length q.cuts) shape stored;
      mark_above = subst (λ (q : Shape). cut q v.cpu.ack ≤ v.cpu.mark) shape (f.fits.mark_above stays);
      mark_below = f.fits.mark_below;
      knows = subst (λ (q : Shape). cut q v.cpu.greatest ≤ v.cpu.known) shape f.fits.knows;
      near = subst (λ (q : Shape). v.cpu.known ≤ cut q (v.cpu.ack + 1)) shape near';
      within = subst (λ (q : Shape). v.cpu.known ≤ length q.writes) shape within;
      cache_size = subst (λ (q : Shape). length v.cpu.cache ≡ length q.starts) shape f.fits.cache_size;
      cache_is = subst (λ (q : Shape). (b n : ℕ) → cached v.cpu b ≡ Some n → Found q v.cpu.mark v.cpu.known b n) shape f.fits.cache_is;
    }

-- the words changed at most at the acknowledgement of one processor, which didn't fall
pub record IsOwnStep (p : Shape) (words words' : List ℕ) (c : ℕ) : Type 0 where
  pub size : length words' ≡ length words
  pub own : get_or words (ack_word p c) 0 ≤ get_or words' (ack_word p c) 0
  pub others : (i : ℕ) → i ≢ ack_word p c → get_or words' i 0 ≡ get_or words i 0

own_leads : (p : Shape) (words words' : List ℕ) (x : PatchView) (c : ℕ) → IsOwnStep p words words' c → Leads p words x → Leads p words' x
own_leads p words words' x c o l = record {
  generation = o.others (generation_word p) (λ e. omega arith) ∙ l.generation;
  bytes = λ b small. o.others b (λ e. omega arith) ∙ l.bytes b small;
  from = l.from;
  to = l.to;
  requests = l.requests;
  bounds_size = l.bounds_size;
  bound = λ d small.
      (let old : get_or x.bounds d 0 ≤ get_or words (ack_word p d) 0 = l.bound d small in
      dite (ℕ_discrete c d)
      (λ here.
      subst (λ (k : ℕ). get_or x.bounds d 0 ≤ get_or words (ack_word p k) 0 → get_or x.bounds d 0 ≤ get_or words' (ack_word p k) 0) here
      (λ low. (let own : get_or words (ack_word p c) 0 ≤ get_or words' (ack_word p c) 0 = o.own in omega arith)) old)
      (λ other. subst (λ (k : ℕ). get_or x.bounds d 0 ≤ k) (sym (o.others (ack_word p d) (λ e. other (omega arith)))) old));
  asked = l.asked;
  settled = l.settled;
}

-- a step of a processor's seat
cpu_step : (p : Shape) (s : St) (l : Live p s) (words' : List ℕ) (homes : Homes) (c : ℕ) (v w : View) → get_elem? l.others c ≡ some v → IsOwnStep p s.words words' c → Follows p words' l.patch.patch c w → Live p (record { words = words'; homes = homes; views = set s.views (suc c) w })
cpu_step p s l words' homes c v w at o follows =
    let below : c < length l.others = inside_list l.others c v at in
    let few : length l.others ≤ p.cpus = l.few in
    record {
      sound = l.sound;
      size = o.size ∙ l.size;
      patch = l.patch;
      others = set l.others c w;
      views_are = ap (λ (vs : List View). set vs (suc c) w) l.views_are;
      patch_role = l.patch_role;
      patch_shape = l.patch_shape;
      leads = own_leads p s.words words' l.patch.patch c o l.leads;
      split = l.split ∙ sym (length-set l.others c w);
      few = subst (λ (n : ℕ). n ≤ p.cpus) (sym (length-set l.others c w)) l.few;
      follows = λ d u there.
          ⊎_elim (λ (t : (d ≡ c) × (w ≡ u)). subst (λ (z : ℕ × View). Follows p words' l.patch.patch z.0 z.1) (λ k. (sym t.0 k, t.1 k)) follows)
          (λ (t : (d ≢ c) × (get_elem? l.others d ≡ some u)).
          still d u (o.others (ack_word p d) (λ e. t.0 (omega arith))) (l.follows d u t.1))
          (at_set l.others c d w u there);
      unsplit = λ d from small.
          (let from' : length l.others ≤ d = subst (λ (n : ℕ). n ≤ d) (length-set l.others c w) from in
          o.others (ack_word p d) (λ e. omega arith) ∙ l.unsplit d from' small);
    }
  where
    still : (d : ℕ) (u : View) → get_or words' (ack_word p d) 0 ≡ get_or s.words (ack_word p d) 0 → Follows p s.words l.patch.patch d u → Follows p words' l.patch.patch d u
    still d u same f = record {
      role = f.role;
      shape = f.shape;
      fits = subst (λ (n : ℕ). Fits p l.patch.patch.done l.patch.patch.stored n d u.cpu) (sym same) f.fits;
    }

-- the new state, in which the seat sits
stepped_sits : (p : Shape) (s : St) (l : Live p s) (words' : List ℕ) (homes : Homes) (c : ℕ) (v w : View) (at : get_elem? l.others c ≡ some v) (o : IsOwnStep p s.words words' c) (f : Follows p words' l.patch.patch c w) → w.cpu.left ≡ false → Sits w
unfolding cpu_step
stepped_sits p s l words' homes c v w at o f stays =
    let new : Live p (record { words = words'; homes = homes; views = set s.views (suc c) w }) = cpu_step p s l words' homes c v w at o f in
    sits p _ new c w (set_here l.others c w (inside_list l.others c v at)) stays

-- a load leaves the words
loaded_own : (p : Shape) (words : List ℕ) (i c : ℕ) → IsOwnStep p words (set words i (get_or words i 0)) c
loaded_own p words i c =
    let same : words ≡ set words i (get_or words i 0) = sym (set-get_or words i 0) in
    subst (λ (ws : List ℕ). IsOwnStep p words ws c) same (record { size = refl; own = omega arith; others = λ j other. refl })

-- the rest of the view of a processor that fits
follows_as : (p : Shape) (words : List ℕ) (x : PatchView) (c : ℕ) (v w : View) → w.role ≡ v.role → w.shape ≡ v.shape → Follows p words x c v → Fits p x.done x.stored (get_or words (ack_word p c) 0) c w.cpu → Follows p words x c w
follows_as p words x c v w role shape f fits = record { role = role ∙ f.role; shape = shape ∙ f.shape; fits = fits }

-- the load of a byte
fetched_fits : (p : Shape) (done stored word c b n : ℕ) (x : CpuView) → done ≤ length p.writes → value p done b ≡ n → b < length p.starts → Fits p done stored word c x → Fits p done stored word c (record x { known = seek p b n x.known (length p.writes - x.known); cache = set x.cache b (Some n); fetches = x.fetches + 1 })
fetched_fits p done stored word c b n x within is below f =
    let place : x.known ≤ done = f.place in
    let k : ℕ = seek p b n x.known (length p.writes - x.known) in
    let s : IsSought p x.known k done b n = sought p b n x.known (length p.writes - x.known) done place (omega arith) is in
    let from : x.known ≤ k = s.from in
    let knows : cut p x.greatest ≤ x.known = f.knows in
    let mark : x.mark ≤ x.known = f.mark_below in
    let size : length x.cache ≡ length p.starts = f.cache_size in
    record {
      number = f.number;
      word_is = f.word_is;
      greatest = f.greatest;
      knows = omega arith;
      place = s.to;
      acked = f.acked;
      mark_below = omega arith;
      mark_above = f.mark_above;
      cache_size = length-set x.cache b (Some n) ∙ f.cache_size;
      cache_is = λ d v held.
          dite (ℕ_discrete b d)
          (λ here.
          (let there : get_or (set x.cache b (Some n)) b None ≡ Some n = get_or-set_same x.cache b (Some n) None (omega arith) in
          let same : n ≡ v = same_value (sym there ∙ ap (λ (j : ℕ). get_or (set x.cache b (Some n)) j None) here ∙ held) in
          subst (λ (z : ℕ × ℕ). Found p x.mark k z.0 z.1) (λ i. (here i, same i)) (found p x.mark k k b n (omega arith) (omega arith) s.same)))
          (λ other.
          found_longer p x.mark x.known k d v from
          (f.cache_is d v (sym (get_or-set_other x.cache b d (Some n) None (λ e. other (sym e))) ∙ held)));
    }
  where
    same_value : {u v : ℕ} → ◌≡◌ {A = Option ℕ} (Some u) (Some v) → u ≡ v
    same_value e = ap (λ (o : Option ℕ). or_zero o) e
      where
        or_zero : Option ℕ → ℕ
        or_zero None = 0
        or_zero (Some m) = m

pub fetches : (p : Shape) (slots id : ℕ) (me : Seated) (b : ℕ) → p ≡ me.0.shape → Sits me.0 → me.0.cpu.left ≡ false → b < length p.starts → Allows (Live p) slots id me b (λ n. n) (Fetched (step slots b 0 0 none) me)
fetches p slots id me b shape seat stays below s l _ at _ =
    let later : IsLater p s l id me.0 = at_cpu p s l id me.0 at seat.role in
    let c : ℕ = later.cpu in
    let n : ℕ = get_or s.words b 0 in
    let f : Follows p s.words l.patch.patch c me.0 = l.follows c me.0 later.there in
    let within : cut p (l.patch.patch.stored + 1) ≤ length p.writes = l.sound.within (l.patch.patch.stored + 1) in
    let to : l.patch.patch.done ≤ cut p (l.patch.patch.stored + 1) = l.leads.to in
    let is : n ≡ value p l.patch.patch.done b = l.leads.bytes b below in
    let small : value p l.patch.patch.done b < 256 = l.sound.small l.patch.patch.done b in
    let w : View = fetched b n me.0 in
    let o : IsOwnStep p s.words (set s.words b n) c = loaded_own p s.words b c in
    let fits : Fits p l.patch.patch.done l.patch.patch.stored (get_or s.words (ack_word p c) 0) c w.cpu = subst (λ (q : Shape). Fits p l.patch.patch.done l.patch.patch.stored (get_or s.words (ack_word p c) 0) c (record me.0.cpu { known = seek q b n me.0.cpu.known (length q.writes - me.0.cpu.known); cache = set me.0.cpu.cache b (Some n); fetches = me.0.cpu.fetches + 1 })) shape (fetched_fits p l.patch.patch.done l.patch.patch.stored (get_or s.words (ack_word p c) 0) c b n me.0.cpu (omega arith) (sym is) below f.fits) in
    let new : Follows p (set s.words b n) l.patch.patch c w = subst (λ (ws : List ℕ). Follows p ws l.patch.patch c w) (sym (set-get_or s.words b 0)) (follows_as p s.words l.patch.patch c me.0 w refl refl f fits) in
    (w, keeps, tt, subst (λ (i : ℕ). Live p (record { words = set s.words b n; homes = s.homes; views = set s.views i w })) (sym later.number) (cpu_step p s l (set s.words b n) s.homes c me.0 w later.there o new), (refl, omega arith, stepped_sits p s l (set s.words b n) s.homes c me.0 w later.there o new stays))

-- the load of the generation
max_left : (a b : ℕ) → a ≤ max a b
max_left a b = omega arith

max_right : (a b : ℕ) → b ≤ max a b
max_right a b = omega arith

max_most : (a b n : ℕ) → a ≤ n → b ≤ n → max a b ≤ n
max_most a b n p q = omega arith

looked_fits : (p : Shape) (done stored word c n : ℕ) (x : CpuView) → IsShape p → cut p stored ≤ done → n ≡ stored → Fits p done stored word c x → Fits p done stored word c (record x { greatest = n; known = max x.known (cut p n); looks = x.looks + 1 })
looked_fits p done stored word c n x sound from is f =
    let greatest : x.greatest ≤ stored = f.greatest in
    let same : cut p n ≡ cut p stored = ap (cut p) is in
    let more : x.known ≤ max x.known (cut p n) = max_left x.known (cut p n) in
    let mark : x.mark ≤ x.known = f.mark_below in
    record {
      number = f.number;
      word_is = f.word_is;
      greatest = omega arith;
      knows = max_right x.known (cut p n);
      place = max_most x.known (cut p n) done f.place (omega arith);
      acked = λ stays. (let acked : x.ack ≤ x.greatest = f.acked stays in omega arith);
      mark_below = omega arith;
      mark_above = f.mark_above;
      cache_size = f.cache_size;
      cache_is = λ b v held. found_longer p x.mark x.known (max x.known (cut p n)) b v more (f.cache_is b v held);
    }

pub looks : (p : Shape) (slots id : ℕ) (me : Seated) (i : ℕ) → p ≡ me.0.shape → Sits me.0 → me.0.cpu.left ≡ false → generation_word p ≡ i → Allows (Live p) slots id me i (λ n. n) (Looked (step slots i 0 0 none) me)
looks p slots id me i shape seat stays word s l _ at _ =
    let later : IsLater p s l id me.0 = at_cpu p s l id me.0 at seat.role in
    let c : ℕ = later.cpu in
    let n : ℕ = get_or s.words i 0 in
    let f : Follows p s.words l.patch.patch c me.0 = l.follows c me.0 later.there in
    let is : n ≡ l.patch.patch.stored = ap (λ (k : ℕ). get_or s.words k 0) (sym word) ∙ l.leads.generation in
    let loaded : me.0.cpu.greatest ≤ l.patch.patch.stored = f.fits.greatest in
    let w : View = looked n me.0 in
    let o : IsOwnStep p s.words (set s.words i n) c = loaded_own p s.words i c in
    let fits : Fits p l.patch.patch.done l.patch.patch.stored (get_or s.words (ack_word p c) 0) c w.cpu = subst (λ (q : Shape). Fits p l.patch.patch.done l.patch.patch.stored (get_or s.words (ack_word p c) 0) c (record me.0.cpu { greatest = n; known = max me.0.cpu.known (cut q n); looks = me.0.cpu.looks + 1 })) shape (looked_fits p l.patch.patch.done l.patch.patch.stored (get_or s.words (ack_word p c) 0) c n me.0.cpu l.sound l.leads.from is f.fits) in
    let new : Follows p (set s.words i n) l.patch.patch c w = subst (λ (ws : List ℕ). Follows p ws l.patch.patch c w) (sym (set-get_or s.words i 0)) (follows_as p s.words l.patch.patch c me.0 w refl refl f fits) in
    (w, keeps, tt, subst (λ (k : ℕ). Live p (record { words = set s.words i n; homes = s.homes; views = set s.views k w })) (sym later.number) (cpu_step p s l (set s.words i n) s.homes c me.0 w later.there o new), (refl, omega arith, stepped_sits p s l (set s.words i n) s.homes c me.0 w later.there o new stays))

-- a store into the processor's own word, which doesn't fall
stored_own : (p : Shape) (words : List ℕ) (c n : ℕ) → ack_word p c < length words → get_or words (ack_word p c) 0 ≤ n → IsOwnStep p words (set words (ack_word p c) n) c
stored_own p words c n below low =
    let same : get_or (set words (ack_word p c) n) (ack_word p c) 0 ≡ n = get_or-set_same words (ack_word p c) n 0 below in
    record {
      size = length-set words (ack_word p c) n;
      own = omega arith;
      others = λ i other. get_or-set_other words (ack_word p c) i n 0 other;
    }

-- the word of a processor that has a seat is there
ack_below : (p : Shape) (s : St) (l : Live p s) (c : ℕ) (v : View) → get_elem? l.others c ≡ some v → ack_word p c < length s.words
ack_below p s l c v at =
    let below : c < length l.others = inside_list l.others c v at in
    let few : length l.others ≤ p.cpus = l.few in
    let size : length s.words ≡ length p.starts + (p.cpus + 1) = l.size in
    omega arith

-- nothing is cached in an empty cache
abbrev pub nothing : ℕ → List (Option ℕ)
nothing n = replicate n None

pub empty_cache : (n b v : ℕ) → get_or (nothing n) b None ≡ Some v → ⊥
empty_cache n b v held =
    let none_there : get_or (nothing n) b None ≡ None = same_everywhere n b None in
    absurd (cc)

-- the store of an acknowledgement
acked_fits : (p : Shape) (done stored word c g : ℕ) (x : CpuView) → IsShape p → word ≡ g → g ≤ x.greatest → Fits p done stored x.ack c x → Fits p done stored word c (record x { ack = g; mark = x.known; cache = no_bytes p })
acked_fits p done stored word c g x sound is most f =
    let order : cut p g ≤ cut p x.greatest = sound.ordered g x.greatest most in
    let knows : cut p x.greatest ≤ x.known = f.knows in
    record {
      number = f.number;
      word_is = is;
      greatest = f.greatest;
      knows = f.knows;
      place = f.place;
      acked = λ _. most;
      mark_below = omega arith;
      mark_above = λ _. omega arith;
      cache_size = length-replicate (length p.starts) None;
      cache_is = λ b v held. absurd (empty_cache (length p.starts) b v held);
    }

pub acks : (p : Shape) (slots id : ℕ) (me : Seated) (i g : ℕ) → p ≡ me.0.shape → Sits me.0 → me.0.cpu.left ≡ false → ack_word p me.0.cpu.number ≡ i → me.0.cpu.ack ≤ g → g ≤ me.0.cpu.greatest → Allows (Live p) slots id me i (λ _. g) (λ _. Acked (step slots i g 0 none) me g)
acks p slots id me i g shape seat stays word least most s l _ at _ =
    let later : IsLater p s l id me.0 = at_cpu p s l id me.0 at seat.role in
    let c : ℕ = later.cpu in
    let f : Follows p s.words l.patch.patch c me.0 = l.follows c me.0 later.there in
    let own : ack_word p c ≡ i = ap (ack_word p) (sym f.fits.number) ∙ word in
    let old : get_or s.words (ack_word p c) 0 ≡ me.0.cpu.ack = f.fits.word_is in
    let below : ack_word p c < length s.words = ack_below p s l c me.0 later.there in
    let words' : List ℕ = set s.words (ack_word p c) g in
    let w : View = acked g me.0 in
    let o : IsOwnStep p s.words words' c = stored_own p s.words c g below (omega arith) in
    let was : Fits p l.patch.patch.done l.patch.patch.stored me.0.cpu.ack c me.0.cpu = subst (λ (k : ℕ). Fits p l.patch.patch.done l.patch.patch.stored k c me.0.cpu) old f.fits in
    let fits : Fits p l.patch.patch.done l.patch.patch.stored (get_or words' (ack_word p c) 0) c w.cpu = subst (λ (q : Shape). Fits p l.patch.patch.done l.patch.patch.stored (get_or words' (ack_word p c) 0) c (record me.0.cpu { ack = g; mark = me.0.cpu.known; cache = no_bytes q })) shape (acked_fits p l.patch.patch.done l.patch.patch.stored (get_or words' (ack_word p c) 0) c g me.0.cpu l.sound (get_or-set_same s.words (ack_word p c) g 0 below) most was) in
    let new : Follows p words' l.patch.patch c w = record { role = f.role; shape = f.shape; fits = fits } in
    (w, keeps, tt, subst (λ (z : ℕ × ℕ). Live p (record { words = set s.words z.0 g; homes = s.homes; views = set s.views z.1 w })) (λ k. (own k, sym later.number k)) (cpu_step p s l words' s.homes c me.0 w later.there o new), (refl, stepped_sits p s l words' s.homes c me.0 w later.there o new stays))

-- the store with which a processor leaves
gone_fits : (p : Shape) (done stored word c : ℕ) (x : CpuView) → word ≡ 2 ^ 64 - 1 → Fits p done stored x.ack c x → Fits p done stored word c (record x { ack = 2 ^ 64 - 1; left = true })
gone_fits p done stored word c x is f = record {
  number = f.number;
  word_is = is;
  greatest = f.greatest;
  knows = f.knows;
  place = f.place;
  acked = λ stays. absurd (cc);
  mark_below = f.mark_below;
  mark_above = λ stays. absurd (cc);
  cache_size = f.cache_size;
  cache_is = f.cache_is;
}

pub leaves : (p : Shape) (slots id : ℕ) (me : Seated) (i : ℕ) → Sits me.0 → me.0.cpu.left ≡ false → ack_word p me.0.cpu.number ≡ i → Allows (Live p) slots id me i (λ _. 2 ^ 64 - 1) (λ _. Gone (step slots i (2 ^ 64 - 1) 0 none) me (2 ^ 64 - 1))
leaves p slots id me i seat stays word s l _ at small =
    let later : IsLater p s l id me.0 = at_cpu p s l id me.0 at seat.role in
    let c : ℕ = later.cpu in
    let f : Follows p s.words l.patch.patch c me.0 = l.follows c me.0 later.there in
    let own : ack_word p c ≡ i = ap (ack_word p) (sym f.fits.number) ∙ word in
    let old : get_or s.words (ack_word p c) 0 ≡ me.0.cpu.ack = f.fits.word_is in
    let least : get_or s.words (ack_word p c) 0 < 18446744073709551616 = subst (λ (k : ℕ). get_or s.words k 0 < 18446744073709551616) (sym own) small in
    let below : ack_word p c < length s.words = ack_below p s l c me.0 later.there in
    let words' : List ℕ = set s.words (ack_word p c) (2 ^ 64 - 1) in
    let w : View = gone me.0 in
    let o : IsOwnStep p s.words words' c = stored_own p s.words c (2 ^ 64 - 1) below (omega arith) in
    let was : Fits p l.patch.patch.done l.patch.patch.stored me.0.cpu.ack c me.0.cpu = subst (λ (k : ℕ). Fits p l.patch.patch.done l.patch.patch.stored k c me.0.cpu) old f.fits in
    let new : Follows p words' l.patch.patch c w = record { role = f.role; shape = f.shape; fits = gone_fits p l.patch.patch.done l.patch.patch.stored (get_or words' (ack_word p c) 0) c me.0.cpu (get_or-set_same s.words (ack_word p c) (2 ^ 64 - 1) 0 below) was } in
    (w, keeps, tt, subst (λ (z : ℕ × ℕ). Live p (record { words = set s.words z.0 (2 ^ 64 - 1); homes = s.homes; views = set s.views z.1 w })) (λ k. (own k, sym later.number k)) (cpu_step p s l words' s.homes c me.0 w later.there o new), refl)
