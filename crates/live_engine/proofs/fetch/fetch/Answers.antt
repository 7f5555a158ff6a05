-- The first byte is fetched; a breakpoint and RET are told by it alone.
use Rattle.std.proofs.Common.{◌≡◌, ◌+◌, ◌∷◌, [], ◌∙◌, ℕ, Some, arith, refl, subst, sym}
use Rattle.live_text.specs.Own.{HasByte, byte_number, site_of}
use Rattle.live_text.specs.Rule.{cached}
use Rattle.live_engine.specs.Fetch.{Fetches}
use Rattle.live_engine.proofs.DecodedForms.{first-is, form_for, phases, ret-by-first}
use Rattle.live_engine.proofs.FetchSteps.{fetches-none, more, none-cached}
use Rattle.live_engine.proofs.Lookups.{some-size}
use Rattle.live_engine.proofs.fetch.fetch.Goals as goal

pub fetch_rest-requires-clause-first : goal.fetch_rest-requires-clause-first
fetch_rest-requires-clause-first c =
    let long = some-size (site_of c.args.text.now.plan c.args.site).start in
    let has : HasByte c.args.text.now.plan c.args.site 0 = record { listed = c.requires.site; byte = omega arith } in
    let m = more c.args.text.now.plan c.args.text.now.cpus c.args.site c.args.word 0 c.byte-first.result c.is_fresh.result [] (c.byte-first.result ∷ []) c.args.seat.now.view c.byte-first.new.seat.view c.requires.stands has c.requires.own.shape (c.keeps.ensures c.requires.stays) c.is_fresh.ensures refl refl c.byte-first.ensures.reads in
    let same : byte_number c.args.text.now.plan c.args.site 0 + 0 ≡ byte_number c.args.text.now.plan c.args.site 0 = omega arith in
    subst (λ (b : ℕ). cached c.byte-first.new.seat.view.cpu b ≡ Some c.byte-first.result) same
    (m.there (none-cached c.args.seat.now.view.cpu (byte_number c.args.text.now.plan c.args.site 0)) 0 (omega arith))

pub returns-in-204-clause-fetched : goal.returns-in-204-clause-fetched
returns-in-204-clause-fetched c =
    let long = some-size (site_of c.args.text.now.plan c.args.site).start in
    let has : HasByte c.args.text.now.plan c.args.site 0 = record { listed = c.requires.site; byte = omega arith } in
    let m = more c.args.text.now.plan c.args.text.now.cpus c.args.site c.args.word 0 c.byte-first.result c.is_fresh.result [] (c.byte-first.result ∷ []) c.args.seat.now.view c.byte-first.new.seat.view c.requires.stands has c.requires.own.shape (c.keeps.ensures c.requires.stays) c.is_fresh.ensures refl refl c.byte-first.ensures.reads in
    subst (λ (n : ℕ). Fetches (byte_number c.args.text.now.plan c.args.site 0) c.args.word (n ∷ []) c.args.seat.now.view c.byte-first.new.seat.view) c.in-204.is
    (m.fetched c.args.seat.now.view (fetches-none (byte_number c.args.text.now.plan c.args.site 0) c.args.word c.args.seat.now.view))

pub returns-in-195-clause-fetched : goal.returns-in-195-clause-fetched
returns-in-195-clause-fetched c =
    let long = some-size (site_of c.args.text.now.plan c.args.site).start in
    let has : HasByte c.args.text.now.plan c.args.site 0 = record { listed = c.requires.site; byte = omega arith } in
    let m = more c.args.text.now.plan c.args.text.now.cpus c.args.site c.args.word 0 c.byte-first.result c.is_fresh.result [] (c.byte-first.result ∷ []) c.args.seat.now.view c.byte-first.new.seat.view c.requires.stands has c.requires.own.shape (c.keeps.ensures c.requires.stays) c.is_fresh.ensures refl refl c.byte-first.ensures.reads in
    let laws = phases c.args.text.now.plan c.requires.stands c.chunks_are_poked.ensures.versions c.bytes_go_by_phases.ensures.table c.bytes_go_by_phases.ensures.others in
    let is = c.in-195.is in
    let first = first-is c.args.text.now.plan c.args.text.now.cpus c.args.site (c.byte-first.result ∷ []) c.byte-first.new.seat.view laws c.byte-first.ensures.own.shape (c.keeps-2.ensures (m.left ∙ c.requires.stays)) c.requires.site (m.there (none-cached c.args.seat.now.view.cpu (byte_number c.args.text.now.plan c.args.site 0))) (omega arith) (λ (e : c.byte-first.result ≡ 0xcc). omega arith) in
    record {
      fetched = record {
        bytes = 0xc3 ∷ [];
        named = refl;
        fetched =
            subst (λ (n : ℕ). Fetches (byte_number c.args.text.now.plan c.args.site 0) c.args.word (n ∷ []) c.args.seat.now.view c.byte-first.new.seat.view) is
            (m.fetched c.args.seat.now.view (fetches-none (byte_number c.args.text.now.plan c.args.site 0) c.args.word c.args.seat.now.view));
      };
      form_is = sym (ret-by-first (form_for c.args.text.now.plan c.byte-first.new.seat.view.cpu.ack c.args.site) (site_of c.args.text.now.plan c.args.site).at (sym first ∙ is));
    }

pub returns-in_default-clause-fetched : goal.returns-in_default-clause-fetched
returns-in_default-clause-fetched c =
    let long = some-size (site_of c.args.text.now.plan c.args.site).start in
    let has : HasByte c.args.text.now.plan c.args.site 0 = record { listed = c.requires.site; byte = omega arith } in
    let m = more c.args.text.now.plan c.args.text.now.cpus c.args.site c.args.word 0 c.byte-first.result c.is_fresh.result [] (c.byte-first.result ∷ []) c.args.seat.now.view c.byte-first.new.seat.view c.requires.stands has c.requires.own.shape (c.keeps.ensures c.requires.stays) c.is_fresh.ensures refl refl c.byte-first.ensures.reads in
    c.fetch_rest.ensures.fetched c.args.seat.now.view (m.fetched c.args.seat.now.view (fetches-none (byte_number c.args.text.now.plan c.args.site 0) c.args.word c.args.seat.now.view))
