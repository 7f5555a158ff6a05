-- A fetch, one byte more.
use Rattle.std.proofs.Common.{◌≡◌, ◌≢◌, ◌+◌, ◌-◌, ◌<◌, ◌≤◌, ◌⊎◌, ◌||◌, ℕ, zero, suc, Bool, true, false, nat_lt, take, if◌then◌else◌, List, [], ◌∷◌, ◌++◌, length, get_or, set, Option, Some, None, inl, inr, refl, ap, sym, ◌∙◌, subst, arith, length-append, get_or-set_same, get_or-set_other}
use Rattle.std.specs.Prelude.{MatchBool, IsSome, slice_index, unwrap_or}
use Rattle.std.specs.Option.{is_none}
use Rattle.std.proofs.lemmas.Bool.{ltb-false, ltb-true}
use Rattle.std.proofs.lemmas.List.{get_or_append_left}
use Rattle.insn_forms.specs.declared.forms.Form.{Form}
use Rattle.insn_forms.specs.Spelling.{size, spell}
use Rattle.insn_forms.proofs.Spellings.{length-spell}
use Rattle.live_text.specs.declared.plan.LivePlan.{LivePlan}
use Rattle.live_text.specs.declared.plan.LiveSite.{LiveSite}
use Rattle.live_text.specs.declared.view.Shape.{Shape}
use Rattle.live_text.specs.declared.view.CpuView.{CpuView}
use Rattle.live_text.specs.declared.view.View.{View}
use Rattle.live_text.specs.Calls.{Reads}
use Rattle.live_text.specs.Flat.{shape_of, starts}
use Rattle.live_text.specs.Own.{HasByte, byte_number}
use Rattle.live_text.specs.Seats.{Sits}
use Rattle.live_text.specs.Past.{seek}
use Rattle.live_text.specs.Plan.{Stands}
use Rattle.live_text.specs.Rule.{cached}
use Rattle.live_text.specs.Steps.{fetched}
use Rattle.poke_batch.specs.Poke.{spelled}
use Rattle.live_engine.specs.Fetch.{Fetches, has_to_load, is_fresh, loads}
use Rattle.live_engine.proofs.Phased.{seek-from}

length-of : (form : Form) (at : ℕ) (o : Option (List ℕ)) → spell form at ≡ o → IsSome o → length (unwrap_or o []) ≡ size form
length-of form at None is some = (let e : false ≡ true = some in cc)
length-of form at (Some code) is some = length-spell form at code is

-- a form that has a spelling has as many bytes
pub length-spelled : (form : Form) (at : ℕ) → IsSome (spell form at) → length (spelled form at) ≡ size form
length-spelled form at some = length-of form at (spell form at) refl some

-- each byte of a site has a number
below-starts : (sites : List LiveSite) (site j : ℕ) (d : LiveSite) → ((k : ℕ) (d : LiveSite) → k < length sites → IsSome (spell (get_or sites k d).start (get_or sites k d).at)) → site < length sites → j < size (get_or sites site d).start → length (starts (take site sites)) + j < length (starts sites)
below-starts [] site j d spelt lt inside = absurd (omega arith)
below-starts (s ∷ sites) zero j d spelt lt inside =
    let long = length-spelled s.start s.at (spelt 0 d (omega arith)) in
    omega (arith, length-append (spelled s.start s.at) (starts sites))
below-starts (s ∷ sites) (suc site) j d spelt lt inside =
    let rest = below-starts sites site j d (λ k e less. spelt (suc k) e (omega arith)) (omega arith) inside in
    omega (arith, length-append (spelled s.start s.at) (starts sites), length-append (spelled s.start s.at) (starts (take site sites)))

pub number-below : (plan : LivePlan) (site j : ℕ) → Stands plan → HasByte plan site j → byte_number plan site j < length (starts plan.sites.items)
number-below plan site j stands has = below-starts plan.sites.items site j _ stands.spelt has.listed has.byte

-- the last of some bytes
last_byte : (bytes : List ℕ) (n : ℕ) → slice_index (bytes ++ n ∷ []) (length bytes) ≡ n
last_byte [] n = refl
last_byte (b ∷ bytes) n = last_byte bytes n

-- what lies outside of some bytes and one more
apart : (first : ℕ) (bytes : List ℕ) (n j b : ℕ) → j ≡ length bytes → (b < first) ⊎ (first + length (bytes ++ n ∷ []) ≤ b) → b ≢ first + j
apart first bytes n j b count (inl less) = λ (e : b ≡ first + j). omega arith
apart first bytes n j b count (inr more) = λ (e : b ≡ first + j). omega (arith, length-append bytes (n ∷ []))

wider : (first : ℕ) (bytes : List ℕ) (n b : ℕ) → (b < first) ⊎ (first + length (bytes ++ n ∷ []) ≤ b) → (b < first) ⊎ (first + length bytes ≤ b)
wider first bytes n b (inl less) = inl less
wider first bytes n b (inr more) = inr (omega (arith, length-append bytes (n ∷ [])))

-- each byte is cached, where one more is
byte-at : (x : CpuView) (first j n : ℕ) (bytes : List ℕ) → j ≡ length bytes → ((i : ℕ) → i < length bytes → cached x (first + i) ≡ Some (slice_index bytes i)) → cached x (first + j) ≡ Some n → (i : ℕ) (before : Bool) → nat_lt i (length bytes) ≡ before → i < length (bytes ++ n ∷ []) → cached x (first + i) ≡ Some (slice_index (bytes ++ n ∷ []) i)
byte-at x first j n bytes count old here i true is lt =
    let less : i < length bytes = ltb-true i (length bytes) is in
    old i less ∙ ap Some (sym (get_or_append_left bytes (n ∷ []) 0 i less))
byte-at x first j n bytes count old here i false is lt =
    let past : length bytes ≤ i = ltb-false i (length bytes) is in
    let same : i ≡ length bytes = omega (arith, length-append bytes (n ∷ [])) in
    let at : first + i ≡ first + j = omega arith in
    ap (λ k. cached x k) at ∙ here ∙ ap Some (sym (ap (λ k. slice_index (bytes ++ n ∷ []) k) same ∙ last_byte bytes n))

-- bytes that were cached before a load elsewhere still are
still : (u : View) (first j n : ℕ) (bytes : List ℕ) → j ≡ length bytes → ((i : ℕ) → i < length bytes → cached u.cpu (first + i) ≡ Some (slice_index bytes i)) → (i : ℕ) → i < length bytes → cached (fetched (first + j) n u).cpu (first + i) ≡ Some (slice_index bytes i)
still u first j n bytes count old i lt =
    let other : first + i ≢ first + j = (λ (e : first + i ≡ first + j). omega arith) in
    get_or-set_other u.cpu.cache (first + j) (first + i) (Some n) None other ∙ old i lt

-- bytes are cached, from a number on
abbrev pub AreCached : CpuView → ℕ → List ℕ → Type 0
AreCached x first bytes = (i : ℕ) → i < length bytes → cached x (first + i) ≡ Some (slice_index bytes i)

-- one load more
loaded : (first word j n : ℕ) (bytes : List ℕ) (v u : View) → j ≡ length bytes → first + j < length u.cpu.cache → has_to_load u.cpu first word j ≡ true → Fetches first word bytes v u → Fetches first word (bytes ++ n ∷ []) v (fetched (first + j) n u)
loaded first word j n bytes v u count inside asked f =
    let shape_is : u.shape ≡ v.shape = ap (λ (x : View). x.shape) f.others in
    let old : cached u.cpu (first + j) ≡ cached v.cpu (first + j) = f.kept (first + j) (inr (omega arith)) in
    let long : length (bytes ++ n ∷ []) ≡ suc (length bytes) = omega (arith, length-append bytes (n ∷ [])) in
    let up : u.cpu.known ≤ seek u.shape (first + j) n u.cpu.known (length u.shape.writes - u.cpu.known) = seek-from u.shape (first + j) n u.cpu.known (length u.shape.writes - u.cpu.known) in
    let counts = f.counted in
    let asked_there : has_to_load v.cpu first word j ≡ true = ap (λ (o : Option ℕ). is_fresh word j || is_none o) (sym old) ∙ asked in
    let before = f.known in
    let asked_at : has_to_load v.cpu first word (length bytes) ≡ true = ap (λ i. has_to_load v.cpu first word i) (sym count) ∙ asked_there in
    let more : loads v.cpu first word (length (bytes ++ n ∷ [])) ≡ loads v.cpu first word (length bytes) + 1 = ap (λ i. loads v.cpu first word i) long ∙ ap (λ (b : Bool). loads v.cpu first word (length bytes) + (if b then 1 else 0)) asked_at in
    record {
      others =
          ap (λ (x : View). fetched (first + j) n x) f.others
          ∙ ap (λ (s : Shape). record v { cpu = record v.cpu { known = seek s (first + j) n u.cpu.known (length s.writes - u.cpu.known); cache = set u.cpu.cache (first + j) (Some n); fetches = u.cpu.fetches + 1 } }) (sym shape_is);
      known = omega arith;
      counted = omega arith;
      bytes_are = λ i lt. byte-at (fetched (first + j) n u).cpu first j n bytes count (still u first j n bytes count f.bytes_are) (get_or-set_same u.cpu.cache (first + j) (Some n) None inside) i (nat_lt i (length bytes)) refl lt;
      kept = λ b out. get_or-set_other u.cpu.cache (first + j) b (Some n) None (apart first bytes n j b count out) ∙ f.kept b (wider first bytes n b out);
    }

-- one byte more that was cached
taken : (first word j n : ℕ) (bytes : List ℕ) (v u : View) → j ≡ length bytes → has_to_load u.cpu first word j ≡ false → cached u.cpu (first + j) ≡ Some n → Fetches first word bytes v u → Fetches first word (bytes ++ n ∷ []) v u
taken first word j n bytes v u count asked here f =
    let old : cached u.cpu (first + j) ≡ cached v.cpu (first + j) = f.kept (first + j) (inr (omega arith)) in
    let long : length (bytes ++ n ∷ []) ≡ suc (length bytes) = omega (arith, length-append bytes (n ∷ [])) in
    let counts = f.counted in
    let asked_there : has_to_load v.cpu first word j ≡ false = ap (λ (o : Option ℕ). is_fresh word j || is_none o) (sym old) ∙ asked in
    let asked_at : has_to_load v.cpu first word (length bytes) ≡ false = ap (λ i. has_to_load v.cpu first word i) (sym count) ∙ asked_there in
    let more : loads v.cpu first word (length (bytes ++ n ∷ [])) ≡ loads v.cpu first word (length bytes) + 0 = ap (λ i. loads v.cpu first word i) long ∙ ap (λ (b : Bool). loads v.cpu first word (length bytes) + (if b then 1 else 0)) asked_at in
    record {
      others = f.others;
      known = f.known;
      counted = omega arith;
      bytes_are = λ i lt. byte-at u.cpu first j n bytes count f.bytes_are here i (nat_lt i (length bytes)) refl lt;
      kept = λ b out. f.kept b (wider first bytes n b out);
    }

loaded-or-taken : (first word j n : ℕ) (bytes : List ℕ) (v u w : View) (asked : Bool) → has_to_load u.cpu first word j ≡ asked → j ≡ length bytes → first + j < length u.cpu.cache → MatchBool asked (w ≡ fetched (first + j) n u) ((w ≡ u) × (cached u.cpu (first + j) ≡ Some n)) → Fetches first word bytes v u → Fetches first word (bytes ++ n ∷ []) v w
loaded-or-taken first word j n bytes v u w true is count inside made f = subst (Fetches first word (bytes ++ n ∷ []) v) (sym made) (loaded first word j n bytes v u count inside is f)
loaded-or-taken first word j n bytes v u w false is count inside made f = subst (Fetches first word (bytes ++ n ∷ []) v) (sym made.0) (taken first word j n bytes v u count is made.1 f)

-- one byte more, however it came
pub fetches-more : (first word j n : ℕ) (bytes : List ℕ) (v u w : View) → j ≡ length bytes → first + j < length u.cpu.cache → Reads (is_fresh word j) (first + j) u n w → Fetches first word bytes v u → Fetches first word (bytes ++ n ∷ []) v w
fetches-more first word j n bytes v u w count inside read f = loaded-or-taken first word j n bytes v u w (has_to_load u.cpu first word j) refl count inside read f

-- nothing was fetched yet
pub fetches-none : (first word : ℕ) (v : View) → Fetches first word [] v v
fetches-none first word v = record { others = refl; known = omega arith; counted = omega arith; bytes_are = λ j lt. absurd (omega arith); kept = λ b out. refl }

cached-more : (first j n : ℕ) (bytes : List ℕ) (u w : View) (asked : Bool) → j ≡ length bytes → first + j < length u.cpu.cache → MatchBool asked (w ≡ fetched (first + j) n u) ((w ≡ u) × (cached u.cpu (first + j) ≡ Some n)) → AreCached u.cpu first bytes → AreCached w.cpu first (bytes ++ n ∷ [])
cached-more first j n bytes u w true count inside made f =
    subst (λ (x : View). AreCached x.cpu first (bytes ++ n ∷ [])) (sym made)
    (λ i lt. byte-at (fetched (first + j) n u).cpu first j n bytes count (still u first j n bytes count f) (get_or-set_same u.cpu.cache (first + j) (Some n) None inside) i (nat_lt i (length bytes)) refl lt)
cached-more first j n bytes u w false count inside made f =
    subst (λ (x : View). AreCached x.cpu first (bytes ++ n ∷ [])) (sym made.0)
    (λ i lt. byte-at u.cpu first j n bytes count f made.1 i (nat_lt i (length bytes)) refl lt)

left-kept : (b n : ℕ) (u w : View) (asked : Bool) → MatchBool asked (w ≡ fetched b n u) ((w ≡ u) × (cached u.cpu b ≡ Some n)) → w.cpu.left ≡ u.cpu.left
left-kept b n u w true made = ap (λ (x : View). x.cpu.left) made
left-kept b n u w false made = ap (λ (x : View). x.cpu.left) made.0

-- what one byte more keeps
pub record HasMore (first word : ℕ) (bytes new : List ℕ) (u w : View) : Type 0 where
  pub left : w.cpu.left ≡ u.cpu.left
  pub there : AreCached u.cpu first bytes → AreCached w.cpu first new
  pub fetched : (v : View) → Fetches first word bytes v u → Fetches first word new v w
  pub count : length new ≡ length bytes + 1
  pub head : 0 < length bytes → slice_index new 0 ≡ slice_index bytes 0

more-at : (first word j n : ℕ) (bytes : List ℕ) (u w : View) → length bytes ≡ j → first + j < length u.cpu.cache → Reads (is_fresh word j) (first + j) u n w → HasMore first word bytes (bytes ++ n ∷ []) u w
more-at first word j n bytes u w count inside read = record {
  left = left-kept (first + j) n u w (has_to_load u.cpu first word j) read;
  there = cached-more first j n bytes u w (has_to_load u.cpu first word j) (sym count) inside read;
  fetched = λ v f. fetches-more first word j n bytes v u w (sym count) inside read f;
  count = length-append bytes (n ∷ []);
  head = λ some. get_or_append_left bytes (n ∷ []) 0 0 some;
}

pub more : (plan : LivePlan) (cpus site word j n : ℕ) (fresh : Bool) (bytes new : List ℕ) (u w : View) → Stands plan → HasByte plan site j → u.shape ≡ shape_of plan cpus → Sits u → fresh ≡ is_fresh word j → length bytes ≡ j → new ≡ bytes ++ n ∷ [] → Reads fresh (byte_number plan site j) u n w → HasMore (byte_number plan site 0) word bytes new u w
more plan cpus site word j n fresh bytes new u w stands has shape sits fresh_is count added read =
    let number : byte_number plan site j ≡ byte_number plan site 0 + j = omega arith in
    let below = number-below plan site j stands has in
    let long : length u.shape.starts ≡ length (starts plan.sites.items) = ap (λ (p : Shape). length p.starts) shape in
    let size = sits.cache_size in
    subst (λ (bs : List ℕ). HasMore (byte_number plan site 0) word bytes bs u w) (sym added)
    (more-at (byte_number plan site 0) word j n bytes u w count (omega arith)
    (subst (λ (f : Bool). Reads f (byte_number plan site 0 + j) u n w) fresh_is (subst (λ (b : ℕ). Reads fresh b u n w) number read)))

-- of no bytes all are cached
pub none-cached : (x : CpuView) (first : ℕ) → AreCached x first []
none-cached x first = λ i lt. absurd (omega arith)
