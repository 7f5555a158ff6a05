-- Each step of the patch seat keeps the rule.
use Rattle.std.proofs.Common.{◌≡◌, ℕ, zero, suc, ◌+◌, ◌-◌, ◌<◌, ◌≤◌, List, [], ◌∷◌, length, get_or, set, refl, ap, sym, ◌∙◌, subst, arith, length-set, get_or-set_same, get_or-set_other, All}
use mathlib.Core.Logic.{dite}
use mathlib.Core.Option.{none, some, some-injective, some-ne-none, Option}
use native.Mathlib.Decide.{ℕ_discrete}
use lib.ListN.{get_elem?}
use lib.Seq.{set-get_or}
use Rattle.atomic_table.specs.Table.{State, Me, step, keeps, Allows}
use Rattle.live_text.specs.declared.view.Shape.{Shape}
use Rattle.live_text.specs.declared.view.PatchView.{PatchView}
use Rattle.live_text.specs.declared.view.View.{View}
use Rattle.live_text.specs.declared.view.Role.TheVariants.{Patch, Cpu}
use Rattle.live_text.specs.Past.{cut, place_at, IsShape}
use Rattle.live_text.specs.Steps.{wrote, requested, loaded_ack}
use Rattle.live_text.specs.Rule.{generation_word, ack_word, Leads, Follows, Live}
use Rattle.live_text.specs.Seats.{KnowsAll}
use Rattle.live_text.specs.Plays.{Wrote, Requested, LoadedAck}
use Rattle.live_text.proofs.Values.{byte_at, value_here, value_other}

abbrev pub St : Type 0
St = State (Unit {0}) View

abbrev pub Seated : Type 0
Seated = Me (Unit {0}) View

abbrev pub Homes : Type 0
Homes = List (Option (Unit {0}))

-- an element has a place below the length
pub inside_list : {A : Type 0} (l : List A) (i : ℕ) (a : A) → get_elem? l i ≡ some a → i < length l
inside_list [] i a e = absurd (some-ne-none a (sym e))
inside_list (x ∷ l) zero a e = omega arith
inside_list (x ∷ l) (suc i) a e = let below : i < length l = inside_list l i a e in omega arith

pub knows_at : (x : PatchView) (n c : ℕ) → length x.bounds ≡ n → c < n → KnowsAll x → x.stored ≤ get_or x.bounds c 0
knows_at x n c size below all = go x.bounds c (subst (λ (m : ℕ). c < m) (sym size) below) all
  where
    go : (bounds : List ℕ) (i : ℕ) → i < length bounds → All (λ b. x.stored ≤ b) bounds → x.stored ≤ get_or bounds i 0
    go bounds i small every = every i 0 small

-- a seat of the patch's role is the first
pub record IsFirst (s : St) (p : Shape) (l : Live p s) (id : ℕ) (v : View) : Type 0 where
  pub number : id ≡ 0
  pub view : l.patch ≡ v

pub at_patch : (p : Shape) (s : St) (l : Live p s) (id : ℕ) (v : View) → get_elem? s.views id ≡ some v → v.role ≡ Patch → IsFirst s p l id v
at_patch p s l id v at role = go id (subst (λ (vs : List View). get_elem? vs id ≡ some v) l.views_are at)
  where
    go : (i : ℕ) → get_elem? (l.patch ∷ l.others) i ≡ some v → IsFirst s p l i v
    go zero e = record { number = refl; view = some-injective l.patch v e }
    go (suc c) e =
        let is : Cpu ≡ Patch = sym (l.follows c v e).role ∙ role in
        absurd (cc)

-- a processor's facts stay where its word stays, and the patch seat doesn't fall back
pub follows_on : (p : Shape) (words words' : List ℕ) (x x' : PatchView) (c : ℕ) (v : View) → x.done ≤ x'.done → x.stored ≤ x'.stored → get_or words' (ack_word p c) 0 ≡ get_or words (ack_word p c) 0 → Follows p words x c v → Follows p words' x' c v
follows_on p words words' x x' c v done stored word f =
    let g : v.cpu.greatest ≤ x.stored = f.fits.greatest in
    let k : v.cpu.known ≤ x.done = f.fits.place in
    record {
      role = f.role;
      shape = f.shape;
      fits = record {
        number = f.fits.number;
        word_is = word ∙ f.fits.word_is;
        greatest = omega arith;
        knows = f.fits.knows;
        place = omega arith;
        acked = f.fits.acked;
        mark_below = f.fits.mark_below;
        mark_above = f.fits.mark_above;
        cache_size = f.fits.cache_size;
        cache_is = f.fits.cache_is;
      };
    }

-- a step of the patch seat leaves the acknowledgements
pub patch_step : (p : Shape) (s : St) (l : Live p s) (words' : List ℕ) (homes : Homes) (w : View) → w.role ≡ Patch → w.shape ≡ p → w.patch.split ≡ l.patch.patch.split → length words' ≡ length s.words → l.patch.patch.done ≤ w.patch.done → l.patch.patch.stored ≤ w.patch.stored → ((c : ℕ) → c < p.cpus → get_or words' (ack_word p c) 0 ≡ get_or s.words (ack_word p c) 0) → Leads p words' w.patch → Live p (record { words = words'; homes = homes; views = set s.views 0 w })
patch_step p s l words' homes w role shape split size done stored acks leads =
    let few : length l.others ≤ p.cpus = l.few in
    record {
      sound = l.sound;
      size = size ∙ l.size;
      patch = w;
      others = l.others;
      views_are = ap (λ (vs : List View). set vs 0 w) l.views_are;
      patch_role = role;
      patch_shape = shape;
      leads = leads;
      split = split ∙ l.split;
      few = l.few;
      follows = λ c v at.
          (let below : c < length l.others = inside_list l.others c v at in
          follows_on p s.words words' l.patch.patch w.patch c v done stored (acks c (omega arith)) (l.follows c v at));
      unsplit = λ c from below. acks c below ∙ l.unsplit c from below;
    }

-- the store of the next write
wrote_leads : (p : Shape) (words : List ℕ) (x : PatchView) → IsShape p → length words ≡ length p.starts + (p.cpus + 1) → x.done < cut p (x.stored + 1) → KnowsAll x → Leads p words x → Leads p (set words (place_at p x.done) (byte_at p x.done)) (record x { done = x.done + 1 })
wrote_leads p words x sound size due all l =
    let within : cut p (x.stored + 1) ≤ length p.writes = sound.within (x.stored + 1) in
    let below : x.done < length p.writes = omega arith in
    let inside : place_at p x.done < length p.starts = sound.inside x.done below in
    let i : ℕ = place_at p x.done in
    let n : ℕ = byte_at p x.done in
    let from : cut p x.stored ≤ x.done = l.from in
    record {
      generation = get_or-set_other words i (generation_word p) n 0 (λ e. omega arith) ∙ l.generation;
      bytes = λ b small.
          dite (ℕ_discrete i b)
          (λ here. ap (λ (k : ℕ). get_or (set words i n) k 0) (sym here) ∙ get_or-set_same words i n 0 (omega arith) ∙ sym (value_here p x.done b below here))
          (λ other. get_or-set_other words i b n 0 (λ e. other (sym e)) ∙ l.bytes b small ∙ sym (value_other p x.done b below other));
      from = omega arith;
      to = omega arith;
      requests = l.requests;
      bounds_size = l.bounds_size;
      bound = λ c small.
          subst (λ (k : ℕ). get_or x.bounds c 0 ≤ k) (sym (get_or-set_other words i (ack_word p c) n 0 (λ e. omega arith))) (l.bound c small);
      asked = l.asked;
      settled = λ c small after. knows_at x p.cpus c l.bounds_size small all;
    }

wrote_keeps : (p : Shape) (s : St) (l : Live p s) (homes : Homes) → l.patch.patch.done < cut p (l.patch.patch.stored + 1) → KnowsAll l.patch.patch → Live p (record { words = set s.words (place_at p l.patch.patch.done) (byte_at p l.patch.patch.done); homes = homes; views = set s.views 0 (wrote l.patch) })
wrote_keeps p s l homes due all =
    let x : PatchView = l.patch.patch in
    let within : cut p (x.stored + 1) ≤ length p.writes = l.sound.within (x.stored + 1) in
    let inside : place_at p x.done < length p.starts = l.sound.inside x.done (omega arith) in
    patch_step p s l _ homes (wrote l.patch) l.patch_role l.patch_shape refl (length-set s.words _ _) (omega arith) (omega arith)
    (λ c small. get_or-set_other s.words (place_at p x.done) (ack_word p c) (byte_at p x.done) 0 (λ e. omega arith))
    (wrote_leads p s.words x l.sound l.size due all l.leads)

pub writes : (p : Shape) (slots id : ℕ) (me : Seated) (i n : ℕ) → p ≡ me.0.shape → me.0.role ≡ Patch → me.0.patch.done < cut p (me.0.patch.stored + 1) → KnowsAll me.0.patch → place_at p me.0.patch.done ≡ i → byte_at p me.0.patch.done ≡ n → Allows (Live p) slots id me i (λ _. n) (λ _. Wrote (step slots i n 0 none) me n)
writes p slots id me i n shape role due all place byte s l _ at small =
    let first : IsFirst s p l id me.0 = at_patch p s l id me.0 at role in
    (wrote me.0, keeps, tt, here first.number (sym first.view), refl)
  where
    here : id ≡ 0 → me.0 ≡ l.patch → Live p (record { words = set s.words i n; homes = s.homes; views = set s.views id (wrote me.0) })
    here number view =
        let due' : l.patch.patch.done < cut p (l.patch.patch.stored + 1) = subst (λ (v : View). v.patch.done < cut p (v.patch.stored + 1)) view due in
        let all' : KnowsAll l.patch.patch = subst (λ (v : View). KnowsAll v.patch) view all in
        let place' : place_at p l.patch.patch.done ≡ i = subst (λ (v : View). place_at p v.patch.done ≡ i) view place in
        let byte' : byte_at p l.patch.patch.done ≡ n = subst (λ (v : View). byte_at p v.patch.done ≡ n) view byte in
        subst (λ (z : ℕ × ℕ × ℕ × View). Live p (record { words = set s.words z.0 z.1; homes = s.homes; views = set s.views z.2 (wrote z.3) }))
        (λ k. (place' k, byte' k, sym number k, sym view k)) (wrote_keeps p s l s.homes due' all')

-- the store of the next request
requested_leads : (p : Shape) (words : List ℕ) (x : PatchView) → IsShape p → length words ≡ length p.starts + (p.cpus + 1) → x.done ≡ cut p (x.stored + 1) → x.stored + 1 < length p.cuts → KnowsAll x → Leads p words x → Leads p (set words (generation_word p) (x.stored + 1)) (record x { stored = x.stored + 1 })
requested_leads p words x sound size due more all l =
    let i : ℕ = generation_word p in
    let n : ℕ = x.stored + 1 in
    let further : cut p (x.stored + 1) ≤ cut p (x.stored + 1 + 1) = sound.ordered (x.stored + 1) (x.stored + 1 + 1) (omega arith) in
    record {
      generation = get_or-set_same words i n 0 (omega arith);
      bytes = λ b small. get_or-set_other words i b n 0 (λ e. omega arith) ∙ l.bytes b small;
      from = omega arith;
      to = omega arith;
      requests = more;
      bounds_size = l.bounds_size;
      bound = λ c small.
          subst (λ (k : ℕ). get_or x.bounds c 0 ≤ k) (sym (get_or-set_other words i (ack_word p c) n 0 (λ e. omega arith))) (l.bound c small);
      asked = λ c small. (let known = knows_at x p.cpus c l.bounds_size small all in omega arith);
      settled = λ c small after. absurd (omega arith);
    }

requested_keeps : (p : Shape) (s : St) (l : Live p s) (homes : Homes) → l.patch.patch.done ≡ cut p (l.patch.patch.stored + 1) → l.patch.patch.stored + 1 < length p.cuts → KnowsAll l.patch.patch → Live p (record { words = set s.words (generation_word p) (l.patch.patch.stored + 1); homes = homes; views = set s.views 0 (requested l.patch) })
requested_keeps p s l homes due more all =
    let x : PatchView = l.patch.patch in
    patch_step p s l _ homes (requested l.patch) l.patch_role l.patch_shape refl (length-set s.words _ _) (omega arith) (omega arith)
    (λ c small. get_or-set_other s.words (generation_word p) (ack_word p c) (x.stored + 1) 0 (λ e. omega arith))
    (requested_leads p s.words x l.sound l.size due more all l.leads)

pub requests : (p : Shape) (slots id : ℕ) (me : Seated) (i n : ℕ) → me.0.role ≡ Patch → me.0.patch.done ≡ cut p (me.0.patch.stored + 1) → me.0.patch.stored + 1 < length p.cuts → KnowsAll me.0.patch → generation_word p ≡ i → me.0.patch.stored + 1 ≡ n → Allows (Live p) slots id me i (λ _. n) (λ _. Requested (step slots i n 0 none) me n)
requests p slots id me i n role due more all place is s l _ at small =
    let first : IsFirst s p l id me.0 = at_patch p s l id me.0 at role in
    (requested me.0, keeps, tt, here first.number (sym first.view), refl)
  where
    here : id ≡ 0 → me.0 ≡ l.patch → Live p (record { words = set s.words i n; homes = s.homes; views = set s.views id (requested me.0) })
    here number view =
        let due' : l.patch.patch.done ≡ cut p (l.patch.patch.stored + 1) = subst (λ (v : View). v.patch.done ≡ cut p (v.patch.stored + 1)) view due in
        let more' : l.patch.patch.stored + 1 < length p.cuts = subst (λ (v : View). v.patch.stored + 1 < length p.cuts) view more in
        let all' : KnowsAll l.patch.patch = subst (λ (v : View). KnowsAll v.patch) view all in
        let is' : l.patch.patch.stored + 1 ≡ n = subst (λ (v : View). v.patch.stored + 1 ≡ n) view is in
        subst (λ (z : ℕ × ℕ × ℕ × View). Live p (record { words = set s.words z.0 z.1; homes = s.homes; views = set s.views z.2 (requested z.3) }))
        (λ k. (place k, is' k, sym number k, sym view k)) (requested_keeps p s l s.homes due' more' all')

-- the load of an acknowledgement
loaded_leads : (p : Shape) (words : List ℕ) (x : PatchView) (c : ℕ) → c < p.cpus → Leads p words x → Leads p words (record x { bounds = set x.bounds c (get_or words (ack_word p c) 0); asks = x.asks + 1 })
loaded_leads p words x c small l =
    let n : ℕ = get_or words (ack_word p c) 0 in
    let rises : get_or x.bounds c 0 ≤ n = l.bound c small in
    let room : c < length x.bounds = subst (λ (k : ℕ). c < k) (sym l.bounds_size) small in
    let same : get_or (set x.bounds c n) c 0 ≡ n = get_or-set_same x.bounds c n 0 room in
    record {
      generation = l.generation;
      bytes = l.bytes;
      from = l.from;
      to = l.to;
      requests = l.requests;
      bounds_size = length-set x.bounds c n ∙ l.bounds_size;
      bound = λ d below.
          dite (ℕ_discrete c d)
          (λ here. subst (λ (k : ℕ). get_or (set x.bounds c n) k 0 ≤ get_or words (ack_word p k) 0) here (omega arith))
          (λ other. subst (λ (k : ℕ). k ≤ get_or words (ack_word p d) 0) (sym (get_or-set_other x.bounds c d n 0 (λ e. other (sym e)))) (l.bound d below));
      asked = λ d below.
          dite (ℕ_discrete c d)
          (λ here.
          subst (λ (k : ℕ). x.stored ≤ get_or (set x.bounds c n) k 0 + 1) here (let a = l.asked c small in omega arith))
          (λ other. subst (λ (k : ℕ). x.stored ≤ k + 1) (sym (get_or-set_other x.bounds c d n 0 (λ e. other (sym e)))) (l.asked d below));
      settled = λ d below after.
          dite (ℕ_discrete c d)
          (λ here.
          subst (λ (k : ℕ). x.stored ≤ get_or (set x.bounds c n) k 0) here (let a = l.settled c small after in omega arith))
          (λ other. subst (λ (k : ℕ). x.stored ≤ k) (sym (get_or-set_other x.bounds c d n 0 (λ e. other (sym e)))) (l.settled d below after));
    }

loaded_keeps : (p : Shape) (s : St) (l : Live p s) (homes : Homes) (c : ℕ) → c < p.cpus → Live p (record { words = set s.words (ack_word p c) (get_or s.words (ack_word p c) 0); homes = homes; views = set s.views 0 (loaded_ack c (get_or s.words (ack_word p c) 0) l.patch) })
loaded_keeps p s l homes c small =
    let same : set s.words (ack_word p c) (get_or s.words (ack_word p c) 0) ≡ s.words = set-get_or s.words (ack_word p c) 0 in
    subst (λ (ws : List ℕ). Live p (record { words = ws; homes = homes; views = set s.views 0 (loaded_ack c (get_or s.words (ack_word p c) 0) l.patch) })) (sym same)
    (patch_step p s l s.words homes (loaded_ack c (get_or s.words (ack_word p c) 0) l.patch) l.patch_role l.patch_shape refl refl (omega arith) (omega arith) (λ d below. refl)
    (loaded_leads p s.words l.patch.patch c small l.leads))

pub loads : (p : Shape) (slots id : ℕ) (me : Seated) (i c : ℕ) → p ≡ me.0.shape → me.0.role ≡ Patch → c < p.cpus → ack_word p c ≡ i → Allows (Live p) slots id me i (λ n. n) (LoadedAck (step slots i 0 0 none) me)
loads p slots id me i c shape role small place s l _ at _ =
    let first : IsFirst s p l id me.0 = at_patch p s l id me.0 at role in
    let number : i - (length me.0.shape.starts + 1) ≡ c = subst (λ (q : Shape). i - (length q.starts + 1) ≡ c) shape (omega arith) in
    let n : ℕ = get_or s.words i 0 in
    let low : get_or me.0.patch.bounds c 0 ≤ n = subst (λ (z : View × ℕ). get_or z.0.patch.bounds c 0 ≤ get_or s.words z.1 0) (λ k. (first.view k, place k)) (l.leads.bound c small) in
    (loaded_ack c n me.0, keeps, tt, here first.number (sym first.view), ((λ k. (loaded_ack (sym number k) n me.0, me.1)), subst (λ (d : ℕ). get_or me.0.patch.bounds d 0 ≤ n) (sym number) low))
  where
    here : id ≡ 0 → me.0 ≡ l.patch → Live p (record { words = set s.words i (get_or s.words i 0); homes = s.homes; views = set s.views id (loaded_ack c (get_or s.words i 0) me.0) })
    here number view =
        subst (λ (z : ℕ × ℕ × View). Live p (record { words = set s.words z.0 (get_or s.words z.0 0); homes = s.homes; views = set s.views z.1 (loaded_ack c (get_or s.words z.0 0) z.2) }))
        (λ k. (place k, sym number k, sym view k)) (loaded_keeps p s l s.homes c small)
